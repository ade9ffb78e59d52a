-- Steps by what oracles keep, by their kinds.
use Rattle.std.proofs.Common.{◌≡◌, List, [], ◌∷◌, Option, Some, None, subst}
use Rattle.gb_core.specs.declared.place.Place.{Place}
use Rattle.gb_terms.specs.declared.term.Term.{Term}
use Rattle.gb_goal.specs.Goal.{goal_of}
use Rattle.gb_goal.specs.Scope.{Declarations}
use Rattle.gb_goal.specs.declared.sequent.Sequent.{Sequent}
use Rattle.gb_goal.specs.Answers.{◌>>=◌}
use Rattle.gb_goal.specs.Answers.Answer.{given}
use Rattle.gb_steps.specs.declared.step.AbstractRule.TheVariants as abstract_rule
use Rattle.gb_steps.specs.declared.step.Acts.{Acts}
use Rattle.gb_steps.specs.declared.step.Acts.TheVariants as on
use Rattle.gb_steps.specs.declared.step.BodyRule.TheVariants as on_bodies
use Rattle.gb_steps.specs.declared.step.Rule.{Rule}
use Rattle.gb_steps.specs.declared.step.Rule.TheVariants as rule
use Rattle.gb_steps.specs.declared.step.Until.{Until}
use Rattle.gb_script.specs.declared.tree.Node.{Node}
use Rattle.gb_elab_mod.specs.OnPrograms.{calls_until, entering_rule, kept_of, kept_on, on_all, procedures_by, until_of, until_on}
use Rattle.gb_elab_laws.proofs.Given.{given_bind, given_is, not_given}

module _ (ds : Declarations) (q : Sequent) where
  -- what a step says that oracles keep
  abbrev pub IsKept : Node → Term → Type 0
  IsKept n f = kept_of ds q n (goal_of q.conclusion) ≡ given (Some f)

  -- what it says that they keep until an event has come about
  abbrev pub IsUntil : Node → Node → Until → Type 0
  IsUntil m n u = until_of ds q m n (goal_of q.conclusion) ≡ given (Some u)

  module _ (P : Rule → Type 0) where
    -- the rule that is made of what is kept, if a form is
    pub of_kept : (made : Option Term → Rule) → P (made None) → ((n : Node) (f : Term) → IsKept n f → P (made (Some f))) →
        (a : Acts) (n : Node) (k : Rule) → (kept_on ds q a n >>= λ o. given (made o)) ≡ given k → P k
    of_kept made none some on.All n k h =
        let x = given_bind (kept_of ds q n (goal_of q.conclusion)) (λ o. given (made o)) k h in subst P (given_is (made x.0) k x.2) (by_form x.0 x.1)
      where
        by_form : (o : Option Term) → kept_of ds q n (goal_of q.conclusion) ≡ given o → P (made o)
        by_form None e = none
        by_form (Some f) e = some n f e
    of_kept made none some on.Left n k h = subst P (given_is (made None) k h) none
    of_kept made none some on.Right n k h = subst P (given_is (made None) k h) none

    -- .. of what is kept until an event, if there is such
    pub of_until : P (rule.OnBodies on_bodies.Unfit) → ((m n : Node) (u : Until) → IsUntil m n u → P (rule.Abstract (abstract_rule.CallUntil u))) →
        (a : Acts) (m n : Node) (k : Rule) → (until_on ds q a m n >>= λ u. given (calls_until u)) ≡ given k → P k
    of_until none some on.All m n k h =
        let x = given_bind (until_of ds q m n (goal_of q.conclusion)) (λ u. given (calls_until u)) k h in subst P (given_is (calls_until x.0) k x.2) (by_forms x.0 x.1)
      where
        by_forms : (o : Option Until) → until_of ds q m n (goal_of q.conclusion) ≡ given o → P (calls_until o)
        by_forms None e = none
        by_forms (Some u) e = some m n u e
    of_until none some on.Left m n k h = subst P (given_is (calls_until None) k h) none
    of_until none some on.Right m n k h = subst P (given_is (calls_until None) k h) none

    -- `proc`
    pub of_entering : ((a : Acts) → P (rule.OnBodies (on_all a on_bodies.Proc))) → ((n : Node) (f : Term) → IsKept n f → P (rule.Abstract (abstract_rule.Proc f))) → P (rule.OnBodies on_bodies.Unfit) →
        (a : Acts) (ns : List Node) (p : Place) (k : Rule) → entering_rule ds q a ns p ≡ given k → P k
    of_entering plain kept unfit a [] p k h = subst P (given_is (rule.OnBodies (on_all a on_bodies.Proc)) k h) (plain a)
    of_entering plain kept unfit a (n ∷ []) p k h = of_kept procedures_by unfit kept a n k h
    of_entering plain kept unfit a (m ∷ n ∷ ns) p k h = absurd (not_given _ _ k h)
