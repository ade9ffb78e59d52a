-- The rules that put other statements into a program, `inline` among them.
use Rattle.gb_core.specs.declared.refusal.Why.TheVariants.{Shape}
use Rattle.gb_goal.specs.Rows.{Row, refusing}
use Rattle.gb_goal.specs.Scope.{Declarations}
use Rattle.gb_steps.specs.declared.step.Acts.{Acts}
use Rattle.gb_steps.specs.declared.step.Rule.{Rule}
use Rattle.gb_steps.specs.declared.step.Rule.TheVariants.{Transform}
use Rattle.gb_steps.specs.declared.step.Transformation.{Transformation}
use Rattle.gb_steps.specs.declared.step.Transformation.TheVariants.{Inline}
use Rattle.gb_trans.specs.KillRows.{killing_row}
use Rattle.gb_inline.specs.Inlined.{inline_row}

-- what these rules make of goals, on the programs on which they act
abbrev pub transform_row : Declarations → Acts → Transformation → Row
transform_row ds a (Inline w) = inline_row ds w a
transform_row ds a k = killing_row ds a k

-- what such a rule makes of goals; the other rules are of other crates
abbrev pub rule_row : Declarations → Rule → Row
rule_row ds (Transform a k) = transform_row ds a k
rule_row ds r = λ G. refusing Shape
