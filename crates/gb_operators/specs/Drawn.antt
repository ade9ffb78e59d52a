-- Forms that bind an outcome of a distribution: the measure of an event, the image of a distribution, and its part where a
-- test holds.
use Rattle.std.specs.Prelude.{List, [], ◌∷◌, Option, Some, None, if◌then◌else◌}
use Rattle.gb_core.specs.declared.place.Place.{Place}
use Rattle.gb_core.specs.declared.refusal.Why.TheVariants.{TypeTooLarge}
use Rattle.gb_core.specs.declared.ty.Ty.{Ty}
use Rattle.gb_core.specs.declared.ty.Ty.TheVariants as ty
use Rattle.gb_terms.specs.declared.op.Op.TheVariants as op
use Rattle.gb_terms.specs.declared.term.Term.{Term}
use Rattle.gb_terms.specs.declared.term.Head.{Head}
use Rattle.gb_terms.specs.declared.term.Head.TheVariants as head
use Rattle.gb_terms.specs.Make.{node}
use Rattle.gb_script.specs.declared.tree.Node.{Node}
use Rattle.gb_goal.specs.Answers.{Answer, ◌>>=◌, not_built}
use Rattle.gb_goal.specs.Answers.Answer.{given, refused}
use Rattle.gb_names.specs.Environment.{Environment}
use Rattle.gb_names.specs.Allowed.{distribution_here, stands}
use Rattle.gb_names.specs.Types.{type_of}
use Rattle.gb_operators.specs.declared.drawn.Drawn.{Drawn}
use Rattle.gb_operators.specs.declared.drawn.Drawn.TheVariants.{Measure, Image, Restriction}
use Rattle.gb_operators.specs.Kinds.{is_of_values, is_small, outcome}
use Rattle.gb_operators.specs.Operators.{part_wanted}

-- the type that is wanted of the distribution, where the form may stand
abbrev pub source_wanted : Drawn → Environment → Option Ty → Place → Answer (Option Ty)
source_wanted Measure at w p = do
  _ ← stands at w p ty.Real
  given None
source_wanted Image at w p = do
  _ ← distribution_here at p
  _ ← part_wanted outcome w p
  given None
source_wanted Restriction at w p = do
  _ ← distribution_here at p
  _ ← part_wanted outcome w p
  given w

abbrev pub outcome_wanted : Option Ty → Option Ty
outcome_wanted None = None
outcome_wanted (Some t) = outcome t

-- the type that is wanted of what the outcome is led to
abbrev pub value_wanted : Drawn → Option Ty → Option Ty
value_wanted Image w = outcome_wanted w
value_wanted _ w = Some ty.Bool

-- the type of the form, by those of the distribution and of what the outcome is led to
abbrev pub drawn_result : Drawn → Ty → Ty → Option Ty
drawn_result Measure d t = Some ty.Real
drawn_result Image d t = if is_of_values t then Some (ty.Distr t) else None
drawn_result Restriction d t = Some d

abbrev pub drawn_head : Drawn → Head
drawn_head Measure = head.Mu
drawn_head Image = head.Map
drawn_head Restriction = head.Restrict

-- the uniform distribution over the values of a type
abbrev pub uniform : List Node → Place → Environment → Option Ty → Answer Term
uniform (s ∷ []) p at w = do
  _ ← distribution_here at p
  _ ← part_wanted outcome w p
  t ← type_of at.declared s
  _ ← stands at w p (ty.Distr t)
  if is_small t then given (node (head.Builtin op.Uniform) [] (ty.Distr t)) else refused TypeTooLarge p
uniform _ p at w = not_built p
