-- What each rule on programs makes of goals.
use Rattle.std.specs.Prelude.{List}
use Rattle.gb_core.specs.declared.refusal.Why.TheVariants.{Shape}
use Rattle.gb_terms.specs.declared.decl.TypedName.{TypedName}
use Rattle.gb_typing.specs.Context.{Context}
use Rattle.gb_steps.specs.declared.step.BodyRule.{BodyRule}
use Rattle.gb_steps.specs.declared.step.BodyRule.TheVariants as on_bodies
use Rattle.gb_steps.specs.declared.step.Rule.{Rule}
use Rattle.gb_steps.specs.declared.step.Rule.TheVariants.{OnBodies, While}
use Rattle.gb_goal.specs.Goal.{Goal}
use Rattle.gb_goal.specs.Scope.{Declarations}
use Rattle.gb_goal.specs.Rows.{Row, refusing}
use Rattle.gb_typing.specs.Rules.{no_arguments}
use Rattle.gb_bodies.specs.Case.{case_row, IsTypedCase}
use Rattle.gb_bodies.specs.Conseq.{conseq_row, IsTypedWeakened}
use Rattle.gb_bodies.specs.If.{if_row}
use Rattle.gb_bodies.specs.Proc.{proc_row}
use Rattle.gb_bodies.specs.Seq.{seq_row, IsTypedCut}
use Rattle.gb_bodies.specs.Skip.{skip_row}
use Rattle.gb_bodies.specs.Wp.{wp_row}

abbrev pub body_row : Declarations → BodyRule → Row
body_row ds on_bodies.Proc = proc_row ds
body_row ds on_bodies.Skip = skip_row
body_row ds (on_bodies.Seq k r) = seq_row k r
body_row ds (on_bodies.If a) = if_row a
body_row ds (on_bodies.Wp a) = wp_row ds a
body_row ds (on_bodies.Case f) = case_row f
body_row ds (on_bodies.Conseq w) = conseq_row w
body_row ds on_bodies.Unfit = λ G. refusing Shape

-- rules of other families aren't of this crate
abbrev pub rule_row : Declarations → Rule → Row
rule_row ds (OnBodies r) = body_row ds r
rule_row ds r = λ G. refusing Shape

-- the arguments of a rule are typed; what a loop keeps is said of the same locals as the form of `case`
abbrev pub IsTypedRule : Context → Rule → List TypedName → List TypedName → Goal → Type 0
IsTypedRule c (OnBodies (on_bodies.Seq k r)) = IsTypedCut c k r
IsTypedRule c (OnBodies (on_bodies.Case f)) = IsTypedCase c f
IsTypedRule c (OnBodies (on_bodies.Conseq w)) = IsTypedWeakened c w
IsTypedRule c (While v) = IsTypedCase c v.kept
IsTypedRule c r = no_arguments
