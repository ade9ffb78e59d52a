-- The rules on procedures of abstract modules.
use Rattle.std.specs.Prelude.{List}
use Rattle.gb_terms.specs.declared.decl.TypedName.{TypedName}
use Rattle.gb_steps.specs.declared.step.AbstractRule.{AbstractRule}
use Rattle.gb_steps.specs.declared.step.AbstractRule.TheVariants.{Call, CallUntil, Proc}
use Rattle.gb_goal.specs.Goal.{Goal}
use Rattle.gb_goal.specs.Rows.{Row}
use Rattle.gb_goal.specs.Scope.{Declarations}
use Rattle.gb_typing.specs.Context.{Context}
use Rattle.gb_adv.specs.Call.{call_row}
use Rattle.gb_adv.specs.Oracles.{IsTypedKept}
use Rattle.gb_adv.specs.Proc.{proc_row}
use Rattle.gb_adv.specs.Until.{IsTypedUntil, until_row}

-- what such a rule makes of goals
abbrev pub abstract_row : Declarations → AbstractRule → Row
abstract_row ds (Call i) = call_row ds i
abstract_row ds (CallUntil u) = until_row ds u
abstract_row ds (Proc i) = proc_row ds i

-- what is kept is typed
abbrev pub IsTypedRule : Context → AbstractRule → List TypedName → List TypedName → Goal → Type 0
IsTypedRule c (Call i) = IsTypedKept c i
IsTypedRule c (CallUntil u) = IsTypedUntil c u
IsTypedRule c (Proc i) = IsTypedKept c i
