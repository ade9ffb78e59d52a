-- The layers of trees, by their constructors.
use Rattle.std.proofs.Common.{◌≡◌, ℕ, List, ◌∷◌, map, refl, ap, sym, ◌∙◌}
use Rattle.gb_core.specs.declared.ty.Ty.{Ty}
use Rattle.gb_terms.specs.declared.term.Term.{Term, Term', Row_of-Term, end_of-Term, more_of-Term, end_of-Head, more_of-Head, out-Term, items-the_row-Term, items_shown-the_row-Term-0, outs-Term'}
use Rattle.gb_terms.specs.declared.term.Head.{Head}
use Rattle.gb_terms.specs.declared.term.Subject.{Subject}
use Rattle.gb_terms.specs.declared.term.Instr.{Instr}
use Rattle.gb_terms.specs.declared.term.Cmd.{Cmd}
use Rattle.gb_terms.specs.declared.term.Head.TheBlock as B
use Rattle.gb_terms.specs.declared.term.Head.TheOpen as layer
use Rattle.gb_terms.specs.declared.term.Head.TheVariants as head
use Rattle.gb_terms.specs.declared.term.Head.TheViews.{the_lemmas, out-Head, roll-Head, roll-out-Head}
use Rattle.gb_terms.specs.declared.term.Head.TheFolds.{map-Head, fold_out-Term, fold_out-Head}
use Rattle.gb_terms.specs.Make.{node}
use Rattle.gb_walk.specs.Layers.{head_of, seen_by}
use Rattle.gb_walk.specs.Raise.{last_from, head_at, at_head, at_instr, at_subject, at_cmd, at_term, term_raised, head_raised, subject_raised, instr_raised, cmd_raised}
use Rattle.gb_meaning.specs.Commands.{terms_in}
use Rattle.sqlite_items.specs.formers.items.Items.{the_former}
use mathlib.Core.Former.{Count, arity, this}

pub terms_row : {n : Count} (r : Row_of-Term n) → terms_in r ≡ items-the_row-Term _ r
terms_row end_of-Term = refl
terms_row (more_of-Term t r) = ap (λ z. t ∷ z) (terms_row r)

shown_head : (h : Head) → B.shown-the_row-Head-2 tt (more_of-Head h end_of-Head) ≡ h
unfolding B.shown-the_row-Head-2 denote.Hole.Carrier.shown
shown_head h = refl

-- the layer of a term
pub out_is : (h : Head) (n : List (Unit {0})) (ts : Row_of-Term (arity (the_former (this {0})) n)) (ty : Ty) → out-Term (Term' tt (more_of-Head h end_of-Head) n ts ty) ≡ record { head = h; args = terms_in ts; ty = ty }
out_is h n ts ty =
    let args = items_shown-the_row-Term-0 n ts ∙ sym (terms_row ts) in
    outs-Term' tt (more_of-Head h end_of-Head) n ts ty ∙ (λ i. record { head = shown_head h i; args = args i; ty = ty })

abbrev pub HeadLayer : Type 0
HeadLayer = layer.Head-F Head Instr Subject Cmd Term

-- a head with its programs raised
abbrev pub raised_at : Head → ℕ → Head
raised_at (head.Hoare c) k = head.Hoare (subject_raised c k)
raised_at (head.Phoare c r) k = head.Phoare (subject_raised c k) r
raised_at (head.Equiv c d) k = head.Equiv (subject_raised c k) (subject_raised d k)
raised_at h k = head_at k h

raised_layer : (x : HeadLayer) (k : ℕ) →
    head_at k (head_of (λ s. s k) (map-Head _ _ _ _ _ (ℕ → Head) (ℕ → Instr) (ℕ → Subject) (ℕ → Cmd) (ℕ → Term) head_raised instr_raised subject_raised cmd_raised term_raised x)) ≡ raised_at (roll-Head x) k
raised_layer (layer.Hoare c) k = simp the_lemmas refl
raised_layer (layer.Phoare c r) k = simp the_lemmas refl
raised_layer (layer.Equiv c d) k = simp the_lemmas refl
raised_layer _ k = simp the_lemmas refl

pub head_raised_is : (h : Head) (k : ℕ) → head_raised h k ≡ raised_at h k
head_raised_is h k =
    ap (λ f. f k) (fold_out-Head (ℕ → Head) (ℕ → Instr) (ℕ → Subject) (ℕ → Cmd) (ℕ → Term) at_head at_instr at_subject at_cmd at_term h)
    ∙ raised_layer (out-Head h) k
    ∙ ap (λ z. raised_at z k) (roll-out-Head h)

pub term_raised_is : (h : Head) (n : List (Unit {0})) (ts : Row_of-Term (arity (the_former (this {0})) n)) (ty : Ty) (k : ℕ) →
    term_raised (Term' tt (more_of-Head h end_of-Head) n ts ty) k ≡ node (raised_at h k) (seen_by k (last_from (raised_at h k) k) (map term_raised (terms_in ts))) ty
term_raised_is h n ts ty k =
    ap (λ f. f k) (fold_out-Term (ℕ → Head) (ℕ → Instr) (ℕ → Subject) (ℕ → Cmd) (ℕ → Term) at_head at_instr at_subject at_cmd at_term (Term' tt (more_of-Head h end_of-Head) n ts ty))
    ∙ ap (λ z. node (head_raised z.head k) (seen_by k (last_from (head_raised z.head k) k) (map term_raised z.args)) z.ty) (out_is h n ts ty)
    ∙ ap (λ z. node z (seen_by k (last_from z k) (map term_raised (terms_in ts))) ty) (head_raised_is h k)
