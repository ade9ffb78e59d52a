-- Forms that are no judgments are refused.
use Rattle.std.proofs.Common.{◌≡◌, refl}
use Rattle.gb_core.specs.declared.refusal.Why.TheVariants.{Shape}
use Rattle.gb_terms.specs.declared.term.Term.{Term}
use Rattle.gb_steps.specs.declared.step.AbstractRule.{AbstractRule}
use Rattle.gb_steps.specs.declared.step.AbstractRule.TheVariants.{Call, CallUntil, Proc}
use Rattle.gb_goal.specs.Goal.Goal.{ambient}
use Rattle.gb_goal.specs.Rows.{refusing}
use Rattle.gb_goal.specs.Scope.{Declarations}
use Rattle.gb_adv.specs.Rows.{abstract_row}

pub others_refused : (ds : Declarations) (r : AbstractRule) (f : Term) → abstract_row ds r (ambient f) ≡ refusing Shape
others_refused ds (Call i) f = refl
others_refused ds (CallUntil u) f = refl
others_refused ds (Proc i) f = refl
