-- Where a term reads a local in a named memory, by its parts.
use Rattle.std.proofs.Common.{◌≡◌, Bool, if◌then◌else◌, map, Option, Some, refl, ap, ◌∙◌}
use Rattle.gb_core.specs.declared.ty.Ty.{Ty}
use Rattle.gb_core.specs.declared.var.Var.TheVariants as var
use Rattle.gb_terms.specs.declared.op.Read.TheVariants.{Logical, Program}
use Rattle.gb_terms.specs.declared.op.Side.{Side}
use Rattle.gb_terms.specs.declared.term.Term.{Term, out-Term}
use Rattle.gb_terms.specs.declared.term.Head.{Head}
use Rattle.gb_terms.specs.declared.term.Subject.{Subject}
use Rattle.gb_terms.specs.declared.term.Instr.{Instr}
use Rattle.gb_terms.specs.declared.term.Cmd.{Cmd}
use Rattle.gb_terms.specs.declared.term.Head.TheOpen as layer
use Rattle.gb_terms.specs.declared.term.Head.TheViews.{the_lemmas, out-Head, roll-Head, roll-out-Head}
use Rattle.gb_terms.specs.declared.term.Head.TheFolds.{map-Head, fold-Head, fold_out-Term, fold_out-Head}
use Rattle.gb_names.specs.Environment.{Name}
use Rattle.gb_names.specs.Locals.{first_some, at_head, at_term, read_type, reads_local}

module _ (s : Side) (x : Name) where
  abbrev folded_head : Head → Bool
  folded_head = fold-Head Bool (Unit {0}) (Unit {0}) (Unit {0}) (Option Ty) (at_head s x) (λ i. tt) (λ j. tt) (λ c. tt) at_term

  layer_reads : (h : layer.Head-F Head Instr Subject Cmd Term) →
      at_head s x (map-Head _ _ _ _ _ Bool (Unit {0}) (Unit {0}) (Unit {0}) (Option Ty) folded_head (λ i. tt) (λ j. tt) (λ c. tt) (read_type s x) h) ≡ reads_local s x (roll-Head h)
  layer_reads (layer.Read (Program (var.Local y) r)) = simp the_lemmas refl
  layer_reads (layer.Read (Program (var.Global m y) r)) = simp the_lemmas refl
  layer_reads (layer.Read (Program (var.Glob a) r)) = simp the_lemmas refl
  layer_reads (layer.Read (Logical i)) = simp the_lemmas refl
  layer_reads _ = simp the_lemmas refl

  folded_is : (h : Head) → folded_head h ≡ reads_local s x h
  folded_is h =
      fold_out-Head Bool (Unit {0}) (Unit {0}) (Unit {0}) (Option Ty) (at_head s x) (λ i. tt) (λ j. tt) (λ c. tt) at_term h
      ∙ layer_reads (out-Head h)
      ∙ ap (reads_local s x) (roll-out-Head h)

pub read_type_out : (s : Side) (x : Name) (t : Term) →
    read_type s x t ≡ (if reads_local s x (out-Term t).head then Some (out-Term t).ty else first_some (map (read_type s x) (out-Term t).args))
read_type_out s x t =
    fold_out-Term Bool (Unit {0}) (Unit {0}) (Unit {0}) (Option Ty) (at_head s x) (λ i. tt) (λ j. tt) (λ c. tt) at_term t
    ∙ ap (λ (b : Bool). if b then Some (out-Term t).ty else first_some (map (read_type s x) (out-Term t).args)) (folded_is s x (out-Term t).head)
