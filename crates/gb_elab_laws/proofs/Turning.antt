-- What typing makes of `while`.
use Rattle.std.proofs.Common.{◌≡◌, Option, Some, None, subst}
use Rattle.gb_terms.specs.declared.term.Term.{Term}
use Rattle.gb_goal.specs.Answers.Answer.{given}
use Rattle.gb_goal.specs.Goal.{goal_of}
use Rattle.gb_goal.specs.Scope.{Declarations}
use Rattle.gb_goal.specs.declared.sequent.Sequent.{Sequent}
use Rattle.gb_script.specs.declared.tree.Node.{Node}
use Rattle.gb_steps.specs.declared.step.Acts.{Acts}
use Rattle.gb_steps.specs.declared.step.BodyRule.TheVariants as on_bodies
use Rattle.gb_steps.specs.declared.step.Invariant.{Invariant}
use Rattle.gb_steps.specs.declared.step.Rule.{Rule}
use Rattle.gb_steps.specs.declared.step.Rule.TheVariants as rule
use Rattle.gb_elab_mod.specs.OnPrograms.{kept_by, said_of_bodies, while_rule}
use Rattle.gb_elab_laws.proofs.Given.{given_bind, given_is}

-- It is a step of `while`, or one that fits no goal.
module _ (ds : Declarations) (q : Sequent) (P : Rule → Type 0) (turned : (v : Invariant) → P (rule.While v)) (unfit : P (rule.OnBodies on_bodies.Unfit)) where
  by_form : (a : Acts) (o : Option Term) → P (kept_by a o)
  by_form a (Some f) = turned (record { acts = a; kept = f })
  by_form a None = unfit

  pub of_while : (a : Acts) (n : Node) (k : Rule) → while_rule ds q a n ≡ given k → P k
  of_while a n k h =
      let o = given_bind (said_of_bodies ds q n (goal_of q.conclusion)) (λ f. given (kept_by a f)) k h in
      subst P (given_is (kept_by a o.0) k o.2) (by_form a o.0)
