-- The rules that put other statements into a program, `kill` among them.
use Rattle.gb_core.specs.declared.refusal.Why.TheVariants.{Shape}
use Rattle.gb_goal.specs.Rows.{Row, refusing}
use Rattle.gb_goal.specs.Scope.{Declarations}
use Rattle.gb_steps.specs.declared.step.Acts.{Acts}
use Rattle.gb_steps.specs.declared.step.Rule.{Rule}
use Rattle.gb_steps.specs.declared.step.Rule.TheVariants.{Transform}
use Rattle.gb_steps.specs.declared.step.Transformation.{Transformation}
use Rattle.gb_steps.specs.declared.step.Transformation.TheVariants.{Kill}
use Rattle.gb_trans.specs.GuardRows.{guard_row}
use Rattle.gb_trans.specs.Kill.{kill_row}

-- what these rules make of goals, on the programs on which they act
abbrev pub killing_row : Declarations → Acts → Transformation → Row
killing_row ds a (Kill n) = kill_row ds a n
killing_row ds a k = guard_row ds a k

-- what such a rule makes of goals; the other rules are of other crates
abbrev pub rule_row : Declarations → Rule → Row
rule_row ds (Transform a k) = killing_row ds a k
rule_row ds r = λ G. refusing Shape
