-- Forms that are no judgments are refused.
use Rattle.std.proofs.Common.{◌≡◌, refl}
use Rattle.gb_core.specs.declared.refusal.Why.TheVariants.{Shape}
use Rattle.gb_terms.specs.declared.term.Term.{Term}
use Rattle.gb_steps.specs.declared.step.BodyRule.TheVariants.{Proc, Skip, Seq, If, Wp, Case, Conseq, Unfit}
use Rattle.gb_steps.specs.declared.step.Acts.TheVariants as on
use Rattle.gb_steps.specs.declared.step.Cut.TheVariants.{One, Two}
use Rattle.gb_steps.specs.declared.step.Rule.{Rule}
use Rattle.gb_steps.specs.declared.step.Rule.TheVariants.{OnBodies, Relational, Ambient, Smt, Linear, Chance, Probability, Call, CallKnown, Abstract, Rewrite, Transform, Use, While}
use Rattle.gb_goal.specs.Scope.{Declarations}
use Rattle.gb_goal.specs.Goal.Goal.{ambient}
use Rattle.gb_goal.specs.Rows.{refusing}
use Rattle.gb_bodies.specs.Rows.{rule_row}

pub others_refused : (ds : Declarations) (r : Rule) (f : Term) → rule_row ds r (ambient f) ≡ refusing Shape
others_refused ds (OnBodies Proc) f = refl
others_refused ds (OnBodies Skip) f = refl
others_refused ds (OnBodies (Seq (One k) r)) f = refl
others_refused ds (OnBodies (Seq (Two k l) r)) f = refl
others_refused ds (OnBodies (If on.All)) f = refl
others_refused ds (OnBodies (If on.Left)) f = refl
others_refused ds (OnBodies (If on.Right)) f = refl
others_refused ds (OnBodies (Wp on.All)) f = refl
others_refused ds (OnBodies (Wp on.Left)) f = refl
others_refused ds (OnBodies (Wp on.Right)) f = refl
others_refused ds (OnBodies (Case h)) f = refl
others_refused ds (OnBodies (Conseq w)) f = refl
others_refused ds (OnBodies Unfit) f = refl
others_refused ds (Relational r) f = refl
others_refused ds (Smt fs) f = refl
others_refused ds (Linear ms) f = refl
others_refused ds (Ambient r) f = refl
others_refused ds (Chance r) f = refl
others_refused ds (Probability r) f = refl
others_refused ds (Call s) f = refl
others_refused ds (CallKnown a h) f = refl
others_refused ds (Abstract k) f = refl
others_refused ds (While i) f = refl
others_refused ds (Transform a t) f = refl
others_refused ds (Rewrite r) f = refl
others_refused ds (Use r) f = refl
