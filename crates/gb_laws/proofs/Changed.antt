-- The layers of changed trees, by their constructors.
use Rattle.std.proofs.Common.{◌≡◌, List, map, refl, ap, ◌∙◌}
use Rattle.gb_core.specs.declared.ty.Ty.{Ty}
use Rattle.gb_terms.specs.declared.term.Term.{Term, Term', Row_of-Term, end_of-Head, more_of-Head}
use Rattle.gb_terms.specs.declared.term.Head.{Head}
use Rattle.gb_terms.specs.declared.term.Subject.{Subject}
use Rattle.gb_terms.specs.declared.term.Instr.{Instr}
use Rattle.gb_terms.specs.declared.term.Cmd.{Cmd}
use Rattle.gb_terms.specs.declared.term.Head.TheOpen as layer
use Rattle.gb_terms.specs.declared.term.Head.TheVariants as head
use Rattle.gb_terms.specs.declared.term.Head.TheViews.{the_lemmas, out-Head, roll-Head, roll-out-Head}
use Rattle.gb_terms.specs.declared.term.Head.TheFolds.{map-Head, fold_out-Term, fold_out-Head}
use Rattle.gb_walk.specs.Change.{Made}
use Rattle.gb_walk.specs.Change.Made.{Kept}
use Rattle.gb_walk.specs.Change.{Changes, found_for_read, found_for_bound, side_changed, read_changed, put_or, at_head, at_instr, at_subject, at_cmd, at_term, term_of, term_changed, head_changed, subject_changed, instr_changed, cmd_changed}
use Rattle.gb_meaning.specs.Commands.{terms_in}
use Rattle.sqlite_items.specs.formers.items.Items.{the_former}
use Rattle.gb_laws.proofs.Trees.{out_is, HeadLayer}
use mathlib.Core.Former.{arity, this}

-- what becomes of a head
abbrev pub changed_at : Head → Changes → Made
changed_at (head.Read r) cs = put_or (found_for_read cs r) (head.Read (read_changed cs r))
changed_at (head.Bound i) cs = put_or (found_for_bound cs i) (head.Bound i)
changed_at (head.Glob m r) cs = Kept (head.Glob m (side_changed cs r))
changed_at (head.Pr p r) cs = Kept (head.Pr p (side_changed cs r))
changed_at (head.Hoare c) cs = Kept (head.Hoare (subject_changed c cs))
changed_at (head.Phoare c r) cs = Kept (head.Phoare (subject_changed c cs) r)
changed_at (head.Equiv c d) cs = Kept (head.Equiv (subject_changed c cs) (subject_changed d cs))
changed_at h cs = Kept h

changed_layer : (x : HeadLayer) (cs : Changes) →
    at_head (map-Head _ _ _ _ _ (Changes → Made) (Changes → Instr) (Changes → Subject) (Changes → Cmd) (Changes → Term) head_changed instr_changed subject_changed cmd_changed term_changed x) cs ≡ changed_at (roll-Head x) cs
changed_layer (layer.Read r) cs = simp the_lemmas refl
changed_layer (layer.Bound i) cs = simp the_lemmas refl
changed_layer (layer.Glob m r) cs = simp the_lemmas refl
changed_layer (layer.Pr p r) cs = simp the_lemmas refl
changed_layer (layer.Hoare c) cs = simp the_lemmas refl
changed_layer (layer.Phoare c r) cs = simp the_lemmas refl
changed_layer (layer.Equiv c d) cs = simp the_lemmas refl
changed_layer _ cs = simp the_lemmas refl

pub head_changed_is : (h : Head) (cs : Changes) → head_changed h cs ≡ changed_at h cs
head_changed_is h cs =
    ap (λ f. f cs) (fold_out-Head (Changes → Made) (Changes → Instr) (Changes → Subject) (Changes → Cmd) (Changes → Term) at_head at_instr at_subject at_cmd at_term h)
    ∙ changed_layer (out-Head h) cs
    ∙ ap (λ z. changed_at z cs) (roll-out-Head h)

pub term_changed_is : (h : Head) (n : List (Unit {0})) (ts : Row_of-Term (arity (the_former (this {0})) n)) (ty : Ty) (cs : Changes) →
    term_changed (Term' tt (more_of-Head h end_of-Head) n ts ty) cs ≡ term_of (changed_at h cs) cs (map term_changed (terms_in ts)) ty
term_changed_is h n ts ty cs =
    ap (λ f. f cs) (fold_out-Term (Changes → Made) (Changes → Instr) (Changes → Subject) (Changes → Cmd) (Changes → Term) at_head at_instr at_subject at_cmd at_term (Term' tt (more_of-Head h end_of-Head) n ts ty))
    ∙ ap (λ z. term_of (head_changed z.head cs) cs (map term_changed z.args) z.ty) (out_is h n ts ty)
    ∙ ap (λ z. term_of z cs (map term_changed (terms_in ts)) ty) (head_changed_is h cs)
