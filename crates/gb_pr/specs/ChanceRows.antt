-- The rules on judgments with a probability.
use Rattle.gb_core.specs.declared.refusal.Why.TheVariants.{Shape}
use Rattle.gb_steps.specs.declared.step.Rule.{Rule}
use Rattle.gb_steps.specs.declared.step.Rule.TheVariants.{Chance}
use Rattle.gb_steps.specs.declared.step.ChanceRule.{ChanceRule}
use Rattle.gb_steps.specs.declared.step.ChanceRule.TheVariants.{Rnd, Hoare}
use Rattle.gb_goal.specs.Rows.{Row, refusing}
use Rattle.gb_goal.specs.Scope.{Declarations}
use Rattle.gb_pr.specs.Hoare.{hoare_row}
use Rattle.gb_pr.specs.Rnd.{rnd_row}

abbrev pub chance_row : Declarations → ChanceRule → Row
chance_row ds Rnd = rnd_row ds
chance_row ds Hoare = hoare_row ds

-- what such a rule makes of goals; the other rules are of other crates
abbrev pub rule_row : Declarations → Rule → Row
rule_row ds (Chance r) = chance_row ds r
rule_row ds r = λ G. refusing Shape
