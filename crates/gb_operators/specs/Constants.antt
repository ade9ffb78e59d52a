-- What built-in names mean alone.
use Rattle.std.specs.Prelude.{Bool, true, false, if◌then◌else◌, [], Option, Some, None, is_some}
use Rattle.gb_core.specs.declared.place.Place.{Place}
use Rattle.gb_core.specs.declared.refusal.Why.TheVariants.{TypeMismatch}
use Rattle.gb_core.specs.declared.ty.Ty.{Ty}
use Rattle.gb_terms.specs.declared.op.Op.{Op}
use Rattle.gb_terms.specs.declared.op.Op.TheVariants as op
use Rattle.gb_terms.specs.declared.term.Term.{Term}
use Rattle.gb_core.specs.declared.value.Value.TheVariants.{Num}
use Rattle.gb_terms.specs.declared.term.Head.TheVariants.{Lit}
use Rattle.gb_terms.specs.Make.{applied, node, truth_literal}
use Rattle.gb_goal.specs.declared.scope.Constant.{Constant}
use Rattle.gb_goal.specs.Answers.{Answer}
use Rattle.gb_goal.specs.Answers.Answer.{given, refused}
use Rattle.gb_names.specs.declared.names.Known.{Known}
use Rattle.gb_names.specs.declared.names.Known.TheVariants as known
use Rattle.gb_names.specs.Names.{unit}
use Rattle.gb_names.specs.Wanted.{wanted}
use Rattle.gb_operators.specs.Kinds.{entries, inside_option}

-- a constant of any type of some shape, which is the wanted one
abbrev pub open_constant : Op → (Ty → Bool) → Option Ty → Place → Answer Term
open_constant o suits None p = refused TypeMismatch p
open_constant o suits (Some t) p = if suits t then given (applied o [] t) else refused TypeMismatch p

-- An operator alone lacks its arguments.
abbrev pub constant : Known → Option Ty → Place → Answer Term
constant known.True w p = wanted w p (truth_literal true)
constant known.False w p = wanted w p (truth_literal false)
constant known.Unit w p = wanted w p unit
constant known.None w p = open_constant op.None (λ t. is_some (inside_option t)) w p
constant known.Empty w p = open_constant op.Empty (λ t. is_some (entries t)) w p
constant _ w p = refused TypeMismatch p

-- a constant of an enumeration
abbrev pub literal : Constant → Term
literal c = node (Lit (Num c.number)) [] c.ty
