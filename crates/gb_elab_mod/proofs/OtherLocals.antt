-- Where a term reads a local that the goal doesn't, by its parts.
use Rattle.std.proofs.Common.{◌≡◌, Bool, ◌||◌, map, refl, ap, ◌∙◌}
use Rattle.std.specs.List.{list_any}
use Rattle.gb_core.specs.declared.ty.Ty.{Ty}
use Rattle.gb_core.specs.declared.var.Var.TheVariants as var
use Rattle.gb_terms.specs.declared.op.Read.TheVariants.{Logical, Program}
use Rattle.gb_terms.specs.declared.op.Side.{Side}
use Rattle.gb_terms.specs.declared.term.Term.{Term, out-Term}
use Rattle.gb_terms.specs.declared.term.Head.{Head}
use Rattle.gb_terms.specs.declared.term.Subject.{Subject}
use Rattle.gb_terms.specs.declared.term.Instr.{Instr}
use Rattle.gb_terms.specs.declared.term.Cmd.{Cmd}
use Rattle.gb_terms.specs.declared.term.Head.TheOpen as layer
use Rattle.gb_terms.specs.declared.term.Head.TheViews.{the_lemmas, out-Head, roll-Head, roll-out-Head}
use Rattle.gb_terms.specs.declared.term.Head.TheFolds.{map-Head, fold-Head, fold_out-Term, fold_out-Head}
use Rattle.gb_goal.specs.declared.sequent.Sequent.{Sequent}
use Rattle.gb_elab_mod.specs.OtherLocals.{at_head, at_term, head_reads, reads_other_locals}

module _ (with_unread : Bool) (q : Sequent) (s : Side) where
  abbrev folded_head : Head → Ty → Bool
  folded_head = fold-Head (Ty → Bool) (Unit {0}) (Unit {0}) (Unit {0}) Bool (at_head with_unread q s) (λ i. tt) (λ j. tt) (λ c. tt) at_term

  layer_reads : (h : layer.Head-F Head Instr Subject Cmd Term) (t : Ty) →
      at_head with_unread q s (map-Head _ _ _ _ _ (Ty → Bool) (Unit {0}) (Unit {0}) (Unit {0}) Bool folded_head (λ i. tt) (λ j. tt) (λ c. tt) (reads_other_locals with_unread q s) h) t ≡ head_reads with_unread q s (roll-Head h) t
  layer_reads (layer.Read (Program (var.Local y) r)) t = simp the_lemmas refl
  layer_reads (layer.Read (Program (var.Global m y) r)) t = simp the_lemmas refl
  layer_reads (layer.Read (Program (var.Glob a) r)) t = simp the_lemmas refl
  layer_reads (layer.Read (Logical i)) t = simp the_lemmas refl
  layer_reads _ t = simp the_lemmas refl

  folded_is : (h : Head) (t : Ty) → folded_head h t ≡ head_reads with_unread q s h t
  folded_is h t =
      ap (λ f. f t) (fold_out-Head (Ty → Bool) (Unit {0}) (Unit {0}) (Unit {0}) Bool (at_head with_unread q s) (λ i. tt) (λ j. tt) (λ c. tt) at_term h)
      ∙ layer_reads (out-Head h) t
      ∙ ap (λ x. head_reads with_unread q s x t) (roll-out-Head h)

  pub reads_out : (t : Term) → reads_other_locals with_unread q s t ≡ (head_reads with_unread q s (out-Term t).head (out-Term t).ty || list_any (λ b. b) (map (reads_other_locals with_unread q s) (out-Term t).args))
  reads_out t =
      fold_out-Term (Ty → Bool) (Unit {0}) (Unit {0}) (Unit {0}) Bool (at_head with_unread q s) (λ i. tt) (λ j. tt) (λ c. tt) at_term t
      ∙ ap (λ (b : Bool). b || list_any (λ b. b) (map (reads_other_locals with_unread q s) (out-Term t).args)) (folded_is (out-Term t).head (out-Term t).ty)
