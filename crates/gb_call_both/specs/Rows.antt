-- The rules on calls.
use Rattle.gb_core.specs.declared.refusal.Why.TheVariants.{Shape}
use Rattle.gb_terms.specs.declared.decl.TypedName.{TypedName}
use Rattle.std.specs.Prelude.{List}
use Rattle.gb_steps.specs.declared.step.Rule.{Rule}
use Rattle.gb_steps.specs.declared.step.Rule.TheVariants.{Call}
use Rattle.gb_goal.specs.Goal.{Goal}
use Rattle.gb_goal.specs.Rows.{Row, refusing}
use Rattle.gb_goal.specs.Scope.{Declarations}
use Rattle.gb_typing.specs.Context.{Context}
use Rattle.gb_typing.specs.Rules.{no_arguments}
use Rattle.gb_call_both.specs.Call.{call_row, IsTypedContract}

-- what such a rule makes of goals; the other rules are of other crates
abbrev pub rule_row : Declarations → Rule → Row
rule_row ds (Call s) = call_row ds s
rule_row ds r = λ G. refusing Shape

-- the arguments of a rule are typed
abbrev pub IsTypedRule : Context → Rule → List TypedName → List TypedName → Goal → Type 0
IsTypedRule c (Call s) = IsTypedContract c s
IsTypedRule c r = no_arguments
