-- The rules that put other statements into a program, those on guards among them.
use Rattle.gb_core.specs.declared.refusal.Why.TheVariants.{Shape}
use Rattle.gb_goal.specs.Rows.{Row, refusing}
use Rattle.gb_goal.specs.Scope.{Declarations}
use Rattle.gb_steps.specs.declared.step.Acts.{Acts}
use Rattle.gb_steps.specs.declared.step.Rule.{Rule}
use Rattle.gb_steps.specs.declared.step.Rule.TheVariants.{Transform}
use Rattle.gb_steps.specs.declared.step.Transformation.{Transformation}
use Rattle.gb_steps.specs.declared.step.Transformation.TheVariants.{Decided, Unroll}
use Rattle.gb_trans.specs.Rows.{transformation_row}
use Rattle.gb_trans.specs.Decided.{decided_row}
use Rattle.gb_trans.specs.Unrolled.{unroll_row}

-- what these rules make of goals, on the programs on which they act
abbrev pub guard_row : Declarations → Acts → Transformation → Row
guard_row ds a (Decided n t) = decided_row n t a
guard_row ds a (Unroll n) = unroll_row n a
guard_row ds a k = transformation_row ds a k

-- what such a rule makes of goals; the other rules are of other crates
abbrev pub rule_row : Declarations → Rule → Row
rule_row ds (Transform a k) = guard_row ds a k
rule_row ds r = λ G. refusing Shape
