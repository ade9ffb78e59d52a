-- Steps that use a known form lead from named goals to named goals.
use Rattle.std.proofs.Common.{◌≡◌, inl, inr, List, [], ◌∷◌, Some, sym, subst}
use Rattle.std.proofs.lemmas.Option.{same_Some, none-some}
use Rattle.std.specs.List.{AllByRecursion}
use Rattle.gb_core.specs.declared.place.Place.{Place}
use Rattle.gb_core.specs.declared.refusal.Why.TheVariants.{Shape}
use Rattle.gb_terms.specs.declared.op.Op.TheVariants.{Implies}
use Rattle.gb_terms.specs.declared.term.Head.{Head}
use Rattle.gb_terms.specs.declared.term.Head.TheVariants.{Builtin}
use Rattle.gb_terms.specs.declared.term.Term.{Term, out-Term}
use Rattle.gb_goal.specs.Answers.Answer.{given}
use Rattle.gb_goal.specs.declared.sequent.Sequent.{Sequent}
use Rattle.gb_steps.specs.declared.step.UseRule.{UseRule}
use Rattle.gb_steps.specs.declared.step.UseRule.TheVariants.{Apply, Have}
use Rattle.gb_typing.proofs.Given.{refused_at, same_given}
use Rattle.gb_amb.specs.Uses.{implication_at, ArePremises, IsAnswer}
use Rattle.gb_print_names.specs.declared.bound_names.Enumeration.{Enumeration}
use Rattle.gb_shown.specs.Named.{IsNamed, IsNamedSequent}
use Rattle.gb_shown.specs.Rules.{IsNamedUse}
use Rattle.gb_shown.proofs.SpeltTrees.{AllNamed, parts_named}
use Rattle.gb_shown.proofs.Sequents.{all_concluding_named, assuming_named}

module _ (es : List Enumeration) where
  implication_named : (h : Head) (ts : List Term) (a b : Term) → AllNamed es ts → implication_at h ts ≡ Some (a, b) → IsNamed es a × IsNamed es b
  implication_named (Builtin Implies) (x ∷ y ∷ []) a b w e = subst (λ (z : Term × Term). IsNamed es z.0 × IsNamed es z.1) (same_Some (x, y) (a, b) e) (w.0, w.1.0)
  implication_named h ts a b w e = absurd (none-some (a, b) e)

  -- the premises of a form
  premises_named : (hs : List Term) (f c : Term) → IsNamed es f → ArePremises hs f c → AllNamed es hs
  premises_named [] f c w k = tt
  premises_named (h ∷ hs) f c w k =
      let z = out-Term f in
      let parts = parts_named es f w in
      let both = implication_named z.head z.args h k.1 parts.2 k.2 in
      (both.0, premises_named hs k.1 c both.1 k.3)

  pub uses_keep : (q : Sequent) → IsNamedSequent es q → (r : UseRule) → IsNamedUse es r → (place : Place) (qs : List Sequent) → IsAnswer r place q (given qs) → AllByRecursion (IsNamedSequent es) qs
  uses_keep q n (Apply f) w place qs (inl (hs, k, e)) =
      subst (AllByRecursion (IsNamedSequent es)) (sym (same_given qs _ e)) (all_concluding_named es q n hs (premises_named hs f q.conclusion w k))
  uses_keep q n (Apply f) w place qs (inr (k, e)) = refused_at Shape place qs (sym e)
  uses_keep q n (Have x f) w place qs e = subst (AllByRecursion (IsNamedSequent es)) (sym (same_given qs _ e)) (assuming_named es q n x f w.0 w.1, tt)
