-- Forms that are no judgments are refused.
use Rattle.std.proofs.Common.{◌≡◌, refl}
use Rattle.gb_core.specs.declared.refusal.Why.TheVariants.{Shape}
use Rattle.gb_terms.specs.declared.term.Term.{Term}
use Rattle.gb_steps.specs.declared.step.Acts.{Acts}
use Rattle.gb_steps.specs.declared.step.Acts.TheVariants as on
use Rattle.gb_steps.specs.declared.step.Contract.{Contract}
use Rattle.gb_steps.specs.declared.step.Rule.{Rule}
use Rattle.gb_steps.specs.declared.step.Rule.TheVariants.{OnBodies, Relational, Chance, Probability, Call, CallKnown, Abstract, Ambient, Smt, Linear, Rewrite, Transform, Use, While}
use Rattle.gb_goal.specs.Scope.{Declarations}
use Rattle.gb_goal.specs.Goal.Goal.{ambient}
use Rattle.gb_goal.specs.Rows.{refusing}
use Rattle.gb_call.specs.Call.{on_programs}
use Rattle.gb_call_both.specs.Rows.{rule_row}

no_body : (ds : Declarations) (s : Contract) (a : Acts) (f : Term) → on_programs ds s a (ambient f) ≡ refusing Shape
no_body ds s on.All f = refl
no_body ds s on.Left f = refl
no_body ds s on.Right f = refl

pub others_refused : (ds : Declarations) (r : Rule) (f : Term) → rule_row ds r (ambient f) ≡ refusing Shape
others_refused ds (Call s) f = no_body ds s s.acts f
others_refused ds (CallKnown a k) f = refl
others_refused ds (Abstract k) f = refl
others_refused ds (While i) f = refl
others_refused ds (Transform a t) f = refl
others_refused ds (OnBodies r) f = refl
others_refused ds (Relational r) f = refl
others_refused ds (Chance r) f = refl
others_refused ds (Probability r) f = refl
others_refused ds (Smt fs) f = refl
others_refused ds (Linear ms) f = refl
others_refused ds (Ambient r) f = refl
others_refused ds (Use r) f = refl
others_refused ds (Rewrite r) f = refl
