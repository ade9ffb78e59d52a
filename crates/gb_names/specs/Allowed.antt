-- What a form may be where it stands.
use Rattle.std.specs.Prelude.{Bool, true, false, not, ◌&&◌, ◌||◌, if◌then◌else◌, [], Option}
use Rattle.gb_core.specs.declared.place.Place.{Place}
use Rattle.gb_core.specs.declared.refusal.Why.TheVariants.{Argument, TypeMismatch}
use Rattle.gb_core.specs.declared.ty.Ty.{Ty, out-Ty}
use Rattle.gb_core.specs.declared.ty.Ty.TheVariants.{Bool as bool_ty, Distr}
use Rattle.gb_core.specs.declared.ty.Ty.TheOpen as ty_layer
use Rattle.gb_terms.specs.declared.op.Op.TheVariants as op
use Rattle.gb_terms.specs.declared.term.Term.{Term}
use Rattle.gb_terms.specs.declared.term.Head.TheVariants.{Builtin}
use Rattle.gb_terms.specs.Make.{node}
use Rattle.gb_goal.specs.Answers.{Answer, ◌>>=◌}
use Rattle.gb_goal.specs.Answers.Answer.{given, refused}
use Rattle.gb_names.specs.declared.setting.Language.{Language}
use Rattle.gb_names.specs.declared.setting.Language.TheVariants.{Formula, Program, Sampled}
use Rattle.gb_names.specs.Environment.{Environment}
use Rattle.gb_names.specs.Wanted.{fits, truth, wanted}

abbrev pub is_distribution_layer : ty_layer.Ty-F Ty → Bool
is_distribution_layer (ty_layer.Distr t) = true
is_distribution_layer _ = false

abbrev pub is_distribution : Ty → Bool
is_distribution t = is_distribution_layer (out-Ty t)

abbrev pub is_program : Language → Bool
is_program Program = true
is_program Sampled = true
is_program _ = false

-- a program has a distribution where it samples alone
abbrev pub may_be_drawn : Language → Bool
may_be_drawn Program = false
may_be_drawn _ = true

abbrev pub is_number_layer : ty_layer.Ty-F Ty → Bool
is_number_layer ty_layer.Int = true
is_number_layer ty_layer.Real = true
is_number_layer _ = false

-- whole numbers and fractions, which no program has
abbrev pub is_number : Ty → Bool
is_number t = is_number_layer (out-Ty t)

-- a distribution may stand here
abbrev pub distribution_here : Environment → Place → Answer (Unit {0})
distribution_here at p = if may_be_drawn at.language then given tt else refused Argument p

-- a form of this type may stand here, as far as the language tells
abbrev pub may_have : Language → Ty → Bool
may_have l t = not (is_program l && is_number t) && (not (is_distribution t) || may_be_drawn l)

-- a form that has this type by its shape may stand where it is wanted
abbrev pub stands : Environment → Option Ty → Place → Ty → Answer (Unit {0})
stands at w p t =
    if may_have at.language t then (if fits w t then given tt else refused TypeMismatch p) else refused Argument p

-- whether judgments may stand in a form
abbrev pub has_judgments : Language → Bool
has_judgments Formula = true
has_judgments _ = false

-- a truth that no program expression is
abbrev pub formula : Environment → Option Ty → Place → Answer (Unit {0})
formula at w p = if is_program at.language then refused Argument p else truth w p

-- a judgment, which only formulas have
abbrev pub judgment : Environment → Option Ty → Place → Answer (Unit {0})
judgment at w p = if has_judgments at.language then truth w p else refused Argument p

-- a memory may be bound here, as judgments may stand
abbrev pub memory_here : Environment → Place → Answer (Unit {0})
memory_here at p = if has_judgments at.language then given tt else refused Argument p

-- the fair coin
abbrev pub coin : Environment → Option Ty → Place → Answer Term
coin at w p = do
  _ ← distribution_here at p
  wanted w p (node (Builtin op.Coin) [] (Distr bool_ty))
