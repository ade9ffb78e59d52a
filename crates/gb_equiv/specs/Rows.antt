-- The rules on equivalences.
use Rattle.std.specs.Prelude.{List}
use Rattle.gb_core.specs.declared.refusal.Why.TheVariants.{Shape}
use Rattle.gb_terms.specs.declared.decl.TypedName.{TypedName}
use Rattle.gb_steps.specs.declared.step.Rule.{Rule}
use Rattle.gb_steps.specs.declared.step.Rule.TheVariants.{Relational}
use Rattle.gb_steps.specs.declared.step.RelationalRule.TheVariants.{Rnd, Symmetry, Drawn, Transitivity}
use Rattle.gb_goal.specs.Goal.{Goal}
use Rattle.gb_goal.specs.Rows.{Row, refusing}
use Rattle.gb_goal.specs.Scope.{Declarations}
use Rattle.gb_typing.specs.Context.{Context}
use Rattle.gb_typing.specs.Rules.{no_arguments}
use Rattle.gb_equiv.specs.Rnd.{rnd_row, AreTypedFunctions}
use Rattle.gb_equiv.specs.Symmetry.{symmetry_row}
use Rattle.gb_equiv.specs.OneSide.{drawn_row}
use Rattle.gb_equiv.specs.Transitivity.{transitivity_row, IsTypedBetween}

-- what a relational rule makes of goals; the other rules are of other crates
abbrev pub rule_row : Declarations → Rule → Row
rule_row ds (Relational (Rnd fs)) = rnd_row ds fs
rule_row ds (Relational Symmetry) = symmetry_row
rule_row ds (Relational (Drawn a)) = drawn_row ds a
rule_row ds (Relational (Transitivity t)) = transitivity_row t
rule_row ds r = λ G. refusing Shape

-- the arguments of a rule are typed
abbrev pub IsTypedRule : Context → Rule → List TypedName → List TypedName → Goal → Type 0
IsTypedRule c (Relational (Rnd fs)) = AreTypedFunctions c fs
IsTypedRule c (Relational (Transitivity t)) = IsTypedBetween c t
IsTypedRule c r = no_arguments
