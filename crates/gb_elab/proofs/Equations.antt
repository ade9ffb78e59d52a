-- Equations of two programs, one behind others.
use Rattle.std.proofs.Common.{◌≡◌, List, [], ◌∷◌, refl, ap, sym, ◌∙◌}
use Rattle.gb_core.specs.declared.refusal.Refused.{Refused}
use Rattle.gb_core.specs.declared.ty.Ty.TheVariants.{Bool as bool_ty}
use Rattle.gb_terms.specs.declared.op.Op.TheVariants as op
use Rattle.gb_terms.specs.declared.term.Term.{Term}
use Rattle.gb_terms.specs.Make.{applied}
use Rattle.gb_script.specs.declared.tree.Node.{Node}
use Rattle.gb_goal.specs.Answers.{Fails}
use Rattle.gb_goal.specs.Answers.Answer.{given}
use Rattle.gb_names.specs.declared.bindings.Binding.{Binding}
use Rattle.gb_names.specs.Environment.{Environment}
use Rattle.gb_names.proofs.Answers.{leads_on, passes}
use Rattle.gb_elab.specs.Equalities.{equation_of, with_equalities}

module _ (at : Environment) (bound : List Binding) where
  pub one_more : (f e g : Term) (x : Node) (xs : List Node) → equation_of at bound x ≡ given e → g ≡ applied op.And (f ∷ e ∷ []) bool_ty
      → with_equalities at bound f (x ∷ xs) ≡ with_equalities at bound g xs
  unfolding with_equalities
  one_more f e g x xs h k =
      leads_on (equation_of at bound x) (λ e. with_equalities at bound (applied op.And (f ∷ e ∷ []) bool_ty) xs) e h
      ∙ ap (λ z. with_equalities at bound z xs) (sym k)

  pub refuses : (f : Term) (x : Node) (xs : List Node) (r : Refused) → Fails (equation_of at bound x) r → Fails (with_equalities at bound f (x ∷ xs)) r
  unfolding with_equalities
  refuses f x xs r h = passes (equation_of at bound x) (λ e. with_equalities at bound (applied op.And (f ∷ e ∷ []) bool_ty) xs) r h

  pub at_end : (f : Term) → with_equalities at bound f [] ≡ given f
  unfolding with_equalities
  at_end f = refl
