-- `rnd` on one body: a sampling at its end.
use Rattle.std.specs.Prelude.{List, [], ◌∷◌, Option, Some, None}
use Rattle.std.specs.Option.{option_map}
use Rattle.gb_core.specs.declared.refusal.Why.TheVariants.{Shape, SideCondition}
use Rattle.gb_core.specs.declared.var.Var.{Var}
use Rattle.gb_terms.specs.declared.op.Side.{Side}
use Rattle.gb_terms.specs.declared.op.Side.TheVariants.{Own}
use Rattle.gb_terms.specs.declared.term.Term.{Term}
use Rattle.gb_walk.specs.Clash.{Exclusions, first_clash}
use Rattle.gb_goal.specs.Answers.{Answer}
use Rattle.gb_goal.specs.Answers.Answer.{given}
use Rattle.gb_goal.specs.Goal.{Goal}
use Rattle.gb_goal.specs.Goal.Code.{body}
use Rattle.gb_goal.specs.Goal.Goal.{hoare}
use Rattle.gb_goal.specs.Rows.{refusing}
use Rattle.gb_typing.specs.Samplings.{Sampling}
use Rattle.gb_forms.specs.Drawn.{each_drawn}

-- the variable, where the form reads another one beside it that clashes with it
abbrev pub clashing : Exclusions → Side → Var → Term → Option Var
clashing es r x q = option_map (λ z. x) (first_clash es r x q)

abbrev pub unless_clash : Option Var → Goal → Answer (List Goal)
unless_clash (Some z) G = refusing (SideCondition z)
unless_clash None G = given (G ∷ [])

-- the judgment of what stands before the sampling
abbrev pub without_sampling : Sampling → Term → Term → Goal
without_sampling x p q = hoare (body x.before) p (each_drawn x q)

-- the goal without the sampling that ends the body
abbrev pub by_end : Exclusions → Term → Term → Option Sampling → Answer (List Goal)
by_end es p q (Some x) = unless_clash (clashing es Own x.target q) (without_sampling x p q)
by_end es p q None = refusing Shape
