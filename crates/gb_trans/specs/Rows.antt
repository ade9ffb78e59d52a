-- The rules that put other statements into a program.
use Rattle.gb_core.specs.declared.refusal.Why.TheVariants.{Shape}
use Rattle.gb_goal.specs.Rows.{Row, refusing}
use Rattle.gb_goal.specs.Scope.{Declarations}
use Rattle.gb_steps.specs.declared.step.Acts.{Acts}
use Rattle.gb_steps.specs.declared.step.Rule.{Rule}
use Rattle.gb_steps.specs.declared.step.Rule.TheVariants.{Transform}
use Rattle.gb_steps.specs.declared.step.Transformation.{Transformation}
use Rattle.gb_steps.specs.declared.step.Transformation.TheVariants.{Swap}
use Rattle.gb_trans.specs.Swap.{swap_row}

-- what these rules make of goals, on the programs on which they act
abbrev pub transformation_row : Declarations → Acts → Transformation → Row
transformation_row ds a (Swap w) = swap_row ds a w
transformation_row ds a t = λ G. refusing Shape

-- what such a rule makes of goals; the other rules are of other crates
abbrev pub rule_row : Declarations → Rule → Row
rule_row ds (Transform a t) = transformation_row ds a t
rule_row ds r = λ G. refusing Shape
