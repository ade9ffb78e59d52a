-- What typing makes of `byphoare` and `byequiv`.
use Rattle.std.proofs.Common.{◌≡◌, ℕ, Bool, true, false, if◌then◌else◌, List, Option, Some, None, refl, subst}
use Rattle.std.specs.Prelude.{bytes_eq, codes}
use Rattle.gb_core.specs.declared.place.Place.{Place}
use Rattle.gb_terms.specs.declared.term.Term.{Term}
use Rattle.gb_goal.specs.Answers.{not_built}
use Rattle.gb_goal.specs.Answers.Answer.{given}
use Rattle.gb_goal.specs.Scope.{Declarations}
use Rattle.gb_goal.specs.declared.sequent.Sequent.{Sequent}
use Rattle.gb_script.specs.declared.tree.Node.{Node}
use Rattle.gb_steps.specs.declared.step.BodyRule.TheVariants as on_bodies
use Rattle.gb_steps.specs.declared.step.ProbabilityRule.TheVariants.{ByEquiv, ByPhoare}
use Rattle.gb_steps.specs.declared.step.Rule.{Rule}
use Rattle.gb_steps.specs.declared.step.Rule.TheVariants as rule
use Rattle.gb_steps.specs.Chances.{Bounded, Compared, bounded_of, chances_of}
use Rattle.gb_elab_mod.specs.OnPrograms.{by_equiv_rule, by_phoare_rule, by_rule, conditions, related, said_around}
use Rattle.gb_elab_laws.proofs.Given.{given_bind, given_is}

-- It is one of these steps, with conditions that are said of the procedures whose probabilities the conclusion compares, or a step that
-- fits no goal.
module _ (ds : Declarations) (q : Sequent) (m n : Node) (P : Rule → Type 0)
    (phoare : (b : Bounded) → bounded_of q.conclusion ≡ Some b → (z : Term × Term) → said_around ds q m n b.chance.procedure ≡ given z → P (rule.Probability (ByPhoare (conditions z))))
    (equiv : (k : Compared) → chances_of q.conclusion ≡ Some k → (z : Term × Term) → related ds q m n k.left.procedure k.right.procedure ≡ given z → P (rule.Probability (ByEquiv (conditions z))))
    (unfit : P (rule.OnBodies on_bodies.Unfit)) where
  of_phoare : (o : Option Bounded) → bounded_of q.conclusion ≡ o → (k : Rule) → by_phoare_rule ds q m n o ≡ given k → P k
  of_phoare None e k h = subst P (given_is (rule.OnBodies on_bodies.Unfit) k h) unfit
  of_phoare (Some b) e k h =
      let x = given_bind (said_around ds q m n b.chance.procedure) (λ (z : Term × Term). given (rule.Probability (ByPhoare (conditions z)))) k h in
      subst P (given_is (rule.Probability (ByPhoare (conditions x.0))) k x.2) (phoare b e x.0 x.1)

  of_equiv : (o : Option Compared) → chances_of q.conclusion ≡ o → (k : Rule) → by_equiv_rule ds q m n o ≡ given k → P k
  of_equiv None e k h = subst P (given_is (rule.OnBodies on_bodies.Unfit) k h) unfit
  of_equiv (Some b) e k h =
      let x = given_bind (related ds q m n b.left.procedure b.right.procedure) (λ (z : Term × Term). given (rule.Probability (ByEquiv (conditions z)))) k h in
      subst P (given_is (rule.Probability (ByEquiv (conditions x.0))) k x.2) (equiv b e x.0 x.1)

  pub of_by : (x : List ℕ) (p : Place) (k : Rule) → by_rule ds q x m n p ≡ given k → P k
  of_by x p k h = by_name (bytes_eq x (codes "byphoare")) (bytes_eq x (codes "byequiv")) h
    where
      by_name : (b d : Bool) → (if b then by_phoare_rule ds q m n (bounded_of q.conclusion) else if d then by_equiv_rule ds q m n (chances_of q.conclusion) else not_built p) ≡ given k → P k
      by_name true d h = of_phoare (bounded_of q.conclusion) refl k h
      by_name false true h = of_equiv (chances_of q.conclusion) refl k h
      by_name false false h = cc
