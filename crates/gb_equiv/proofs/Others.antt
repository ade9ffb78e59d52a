-- Forms that are no judgments are refused.
use Rattle.std.proofs.Common.{◌≡◌, refl}
use Rattle.gb_core.specs.declared.refusal.Why.TheVariants.{Shape}
use Rattle.gb_terms.specs.declared.term.Term.{Term}
use Rattle.gb_steps.specs.declared.step.Acts.TheVariants as on
use Rattle.gb_steps.specs.declared.step.RelationalRule.TheVariants.{Rnd, Symmetry, Drawn, Transitivity, Sim}
use Rattle.gb_steps.specs.declared.step.Rule.{Rule}
use Rattle.gb_steps.specs.declared.step.Rule.TheVariants.{OnBodies, Relational, Ambient, Smt, Linear, Chance, Probability, Call, CallKnown, Abstract, Rewrite, Transform, Use, While}
use Rattle.gb_goal.specs.Goal.Goal.{ambient}
use Rattle.gb_goal.specs.Rows.{refusing}
use Rattle.gb_goal.specs.Scope.{Declarations}
use Rattle.gb_equiv.specs.Rows.{rule_row}

pub others_refused : (ds : Declarations) (r : Rule) (f : Term) → rule_row ds r (ambient f) ≡ refusing Shape
others_refused ds (Relational (Rnd fs)) f = refl
others_refused ds (Relational Symmetry) f = refl
others_refused ds (Relational (Drawn on.All)) f = refl
others_refused ds (Relational (Drawn on.Left)) f = refl
others_refused ds (Relational (Drawn on.Right)) f = refl
others_refused ds (Relational (Transitivity t)) f = refl
others_refused ds (Relational Sim) f = refl
others_refused ds (OnBodies r) f = refl
others_refused ds (Smt fs) f = refl
others_refused ds (Linear ms) f = refl
others_refused ds (Ambient r) f = refl
others_refused ds (Chance r) f = refl
others_refused ds (Probability r) f = refl
others_refused ds (Call s) f = refl
others_refused ds (CallKnown a h) f = refl
others_refused ds (Abstract k) f = refl
others_refused ds (While i) f = refl
others_refused ds (Transform a i) f = refl
others_refused ds (Rewrite r) f = refl
others_refused ds (Use r) f = refl
