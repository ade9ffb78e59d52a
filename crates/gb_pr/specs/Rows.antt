-- The rules on probabilities.
use Rattle.gb_core.specs.declared.refusal.Why.TheVariants.{Shape}
use Rattle.std.specs.Prelude.{List}
use Rattle.gb_terms.specs.declared.decl.TypedName.{TypedName}
use Rattle.gb_steps.specs.declared.step.Rule.{Rule}
use Rattle.gb_steps.specs.declared.step.Rule.TheVariants.{Probability}
use Rattle.gb_steps.specs.declared.step.ProbabilityRule.{ProbabilityRule}
use Rattle.gb_steps.specs.declared.step.ProbabilityRule.TheVariants.{ByEquiv, ByPhoare, ByEvents, Within}
use Rattle.gb_goal.specs.Goal.{Goal}
use Rattle.gb_goal.specs.Goal.Goal.{ambient}
use Rattle.gb_goal.specs.Rows.{Row, refusing}
use Rattle.gb_goal.specs.Scope.{Declarations}
use Rattle.gb_steps.specs.Chances.{bounded_of, chances_of}
use Rattle.gb_typing.specs.Context.{Context}
use Rattle.gb_pr.specs.ByEvents.{by_events_row, within_row}
use Rattle.gb_pr.specs.ByEquiv.{by_equiv_row}
use Rattle.gb_pr.specs.ByEquiv as by_equiv
use Rattle.gb_pr.specs.ByPhoare.{by_phoare_row}
use Rattle.gb_pr.specs.ByPhoare as by_phoare

abbrev pub probability_row : Declarations → ProbabilityRule → Row
probability_row ds (ByEquiv s) = by_equiv_row ds s
probability_row ds (ByPhoare s) = by_phoare_row ds s
probability_row ds (ByEvents r) = by_events_row r
probability_row ds (Within r) = within_row r

-- what such a rule makes of goals; the other rules are of other crates
abbrev pub rule_row : Declarations → Rule → Row
rule_row ds (Probability r) = probability_row ds r
rule_row ds r = λ G. refusing Shape

abbrev pub IsTypedAt : Context → ProbabilityRule → Goal → Type 0
IsTypedAt c (ByEquiv s) (ambient f) = by_equiv.AreConditions c s (chances_of f)
IsTypedAt c (ByPhoare s) (ambient f) = by_phoare.AreConditions c s (bounded_of f)
IsTypedAt c r G = Unit {0}

-- the conditions of a step are typed
abbrev pub IsTypedRule : Context → Rule → List TypedName → List TypedName → Goal → Type 0
IsTypedRule c (Probability r) ls rs G = IsTypedAt c r G
IsTypedRule c r ls rs G = Unit {0}
