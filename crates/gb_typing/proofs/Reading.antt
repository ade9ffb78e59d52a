-- Whether a term reads a memory, by its head and its arguments.
use Rattle.std.proofs.Common.{◌≡◌, Bool, not, ◌&&◌, ◌||◌, List, refl, ap, ◌∙◌}
use Rattle.std.specs.List.{list_any}
use Rattle.gb_core.specs.declared.ty.Ty.{Ty}
use Rattle.gb_terms.specs.declared.op.Side.{Side}
use Rattle.gb_terms.specs.declared.term.Term.{Term', Row_of-Term, end_of-Head, more_of-Head}
use Rattle.gb_terms.specs.declared.term.Head.{Head}
use Rattle.gb_terms.specs.declared.term.Head.TheVariants as head
use Rattle.gb_terms.specs.declared.term.Head.TheOpen as layer
use Rattle.gb_terms.specs.declared.term.Head.TheViews.{the_lemmas, out-Head, roll-Head, roll-out-Head}
use Rattle.gb_terms.specs.declared.term.Head.TheFolds.{map-Head, fold-Instr, fold-Subject, fold-Cmd, fold_out-Head}
use Rattle.gb_terms.specs.Equal.{side_eq}
use Rattle.gb_meaning.specs.Commands.{terms_in}
use Rattle.gb_walk.specs.Change.{is_left_or_right, is_read_through}
use Rattle.gb_walk.specs.Sides.{Reading, at_head, at_instr, at_subject, at_cmd, at_term, reads_side, head_reads_side}
use Rattle.gb_walk.proofs.SideSteps.{reads_side_out}
use Rattle.sqlite_items.specs.formers.items.Items.{the_former}
use Rattle.gb_laws.proofs.Trees.{out_is, HeadLayer}
use mathlib.Core.Former.{Count, arity, this}

-- whether a head reads through a memory, by whether an argument does
abbrev pub read_at : Head → Side → Bool → Bool
read_at (head.Read r) s below = is_read_through (side_eq s) r || below
read_at (head.Glob m r) s below = side_eq s r || below
read_at (head.Pr p r) s below = side_eq s r || below
read_at (head.Equiv c d) s below = not (is_left_or_right s) && below
read_at _ s below = below

read_layer : (x : HeadLayer) (s : Side) (b : Bool) →
    at_head (map-Head _ _ _ _ _ Reading (Unit {0}) (Unit {0}) (Unit {0}) (Side → Bool) head_reads_side
    (fold-Instr Reading (Unit {0}) (Unit {0}) (Unit {0}) (Side → Bool) at_head at_instr at_subject at_cmd at_term)
    (fold-Subject Reading (Unit {0}) (Unit {0}) (Unit {0}) (Side → Bool) at_head at_instr at_subject at_cmd at_term)
    (fold-Cmd Reading (Unit {0}) (Unit {0}) (Unit {0}) (Side → Bool) at_head at_instr at_subject at_cmd at_term)
    reads_side x) s b ≡ read_at (roll-Head x) s b
read_layer (layer.Read r) s b = simp the_lemmas refl
read_layer (layer.Glob m r) s b = simp the_lemmas refl
read_layer (layer.Pr p r) s b = simp the_lemmas refl
read_layer (layer.Equiv c d) s b = simp the_lemmas refl
read_layer _ s b = simp the_lemmas refl

head_reads_is : (h : Head) (s : Side) (b : Bool) → head_reads_side h s b ≡ read_at h s b
head_reads_is h s b =
    ap (λ f. f s b) (fold_out-Head Reading (Unit {0}) (Unit {0}) (Unit {0}) (Side → Bool) at_head at_instr at_subject at_cmd at_term h)
    ∙ read_layer (out-Head h) s b
    ∙ ap (λ z. read_at z s b) (roll-out-Head h)

-- an argument reads the memory
abbrev pub any_reads : {n : Count} → Side → Row_of-Term n → Bool
any_reads s ts = list_any (λ u. reads_side u s) (terms_in ts)

pub reads_side_is : (h : Head) (n : List (Unit {0})) (ts : Row_of-Term (arity (the_former (this {0})) n)) (ty : Ty) (s : Side) →
    reads_side (Term' tt (more_of-Head h end_of-Head) n ts ty) s ≡ read_at h s (any_reads s ts)
reads_side_is h n ts ty s =
    reads_side_out (Term' tt (more_of-Head h end_of-Head) n ts ty) s
    ∙ ap (λ z. head_reads_side z.head s (list_any (λ u. reads_side u s) z.args)) (out_is h n ts ty)
    ∙ head_reads_is h s (any_reads s ts)
