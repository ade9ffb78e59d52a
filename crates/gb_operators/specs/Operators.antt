-- The operators of forms: which types they take, what is wanted of their operands, and what they give.
use Rattle.std.specs.Prelude.{Bool, true, false, not, if◌then◌else◌, Option, Some, None, codes, bytes_eq}
use Rattle.gb_core.specs.declared.place.Place.{Place}
use Rattle.gb_core.specs.declared.refusal.Why.TheVariants.{TypeMismatch, Argument}
use Rattle.gb_core.specs.declared.ty.Ty.{Ty}
use Rattle.gb_core.specs.declared.ty.Ty.TheVariants as ty
use Rattle.gb_terms.specs.declared.op.Op.{Op}
use Rattle.gb_terms.specs.declared.op.Op.TheVariants as op
use Rattle.gb_script.specs.declared.head.Head.{Head}
use Rattle.gb_script.specs.declared.head.Head.TheVariants as head
use Rattle.gb_goal.specs.Answers.{Answer, ◌>>=◌, given_or}
use Rattle.gb_goal.specs.Answers.Answer.{given, refused}
use Rattle.gb_names.specs.Environment.{Name, Environment}
use Rattle.gb_names.specs.Allowed.{distribution_here, is_distribution, is_program, stands}
use Rattle.gb_names.specs.Wanted.{truth}
use Rattle.gb_operators.specs.declared.operators.Operands.{Operands}
use Rattle.gb_operators.specs.declared.operators.Operands.TheVariants.{Truths, Alike, Ordered, Numbers, Bits}
use Rattle.gb_operators.specs.declared.operators.Prefix.{Prefix}
use Rattle.gb_operators.specs.declared.operators.Prefix.TheVariants as prefix
use Rattle.gb_operators.specs.declared.operators.Operator.{Operator}
use Rattle.gb_operators.specs.declared.operators.Operator.TheVariants.{Two, One, Quotient, Member}
use Rattle.gb_operators.specs.Kinds.{inside_option, is_arithmetic, is_of_bits, is_of_numbers, is_of_values, is_ordered, is_signed, outcome}

abbrev pub joining : Op → Operands → Option Operator
joining o s = Some (Two (record { op = o; operands = s; exchanged = false }))

-- `>` and `>=` are `<` and `<=` with the sides exchanged
abbrev pub exchanged : Op → Operands → Option Operator
exchanged o s = Some (Two (record { op = o; operands = s; exchanged = true }))

-- the operator of a comparison
abbrev pub comparison : Name → Option Operator
comparison x =
    if bytes_eq x (codes "=") then joining op.Equal Alike
    else if bytes_eq x (codes "<>") then joining op.NotEqual Alike
    else if bytes_eq x (codes "<") then joining op.Less Ordered
    else if bytes_eq x (codes "<=") then joining op.AtMost Ordered
    else if bytes_eq x (codes ">") then exchanged op.Less Ordered
    else if bytes_eq x (codes ">=") then exchanged op.AtMost Ordered
    else if bytes_eq x (codes "\\in") then Some Member else None

-- the operator that a form is made by
unfoldable pub operator_of : Head → Name → Option Operator
operator_of head.Not x = Some (One prefix.Not)
operator_of head.Negative x = Some (One prefix.Negate)
operator_of head.ToReal x = Some (One prefix.ToReal)
operator_of head.Absolute x = Some (One prefix.Absolute)
operator_of head.And x = joining op.And Truths
operator_of head.Or x = joining op.Or Truths
operator_of head.Implies x = joining op.Implies Truths
operator_of head.Iff x = joining op.Iff Truths
operator_of head.Sum x = joining op.Plus Numbers
operator_of head.Difference x = joining op.Minus Numbers
operator_of head.Product x = joining op.Times Numbers
operator_of head.Xor x = joining op.Xor Bits
operator_of head.Quotient x = Some Quotient
operator_of head.Compared x = comparison x
operator_of _ x = None

-- An operator of two sides may stand where its type is wanted, as far as its shape tells.
abbrev pub shaped : Operands → Option Ty → Place → Answer (Unit {0})
shaped Truths w p = truth w p
shaped Alike w p = truth w p
shaped Ordered w p = truth w p
shaped _ w p = given tt

-- the type that is wanted of the side that is typed first
abbrev pub first_wanted : Operands → Option Ty → Option Ty
first_wanted Truths w = Some ty.Bool
first_wanted Alike w = None
first_wanted Ordered w = None
first_wanted _ w = w

-- whether sides may have this type
abbrev pub takes : Operands → Ty → Bool
takes Alike t = not (is_distribution t)
takes Ordered t = is_ordered t
takes Numbers t = is_arithmetic t
takes Bits t = is_of_bits t
takes _ t = true

-- the type of what an operator gives of sides of a type
abbrev pub result_type : Operands → Ty → Ty
result_type Numbers t = t
result_type Bits t = t
result_type _ t = ty.Bool

-- what is wanted of a part of a type of some shape
abbrev pub part_wanted : (Ty → Option Ty) → Option Ty → Place → Answer (Option Ty)
part_wanted part None p = given None
part_wanted part (Some t) p = do
  u ← given_or (part t) TypeMismatch p
  given (Some u)

-- the type of options of a type of values, where one is wanted
abbrev pub option_wanted : Option Ty → Place → Answer (Option Ty)
option_wanted None p = given None
option_wanted (Some t) p = if is_of_values t then given (Some (ty.Opt t)) else refused TypeMismatch p

-- the type that is wanted of an operand, where the form may stand
abbrev pub operand_wanted : Prefix → Environment → Option Ty → Place → Answer (Option Ty)
operand_wanted prefix.Not at w p = do
  _ ← truth w p
  given (Some ty.Bool)
operand_wanted prefix.Negate at w p = if is_program at.language then refused Argument p else given w
operand_wanted prefix.ToReal at w p = do
  _ ← stands at w p ty.Real
  given None
operand_wanted prefix.Absolute at w p = do
  _ ← stands at w p ty.Real
  given (Some ty.Real)
operand_wanted prefix.Some at w p = part_wanted inside_option w p
operand_wanted prefix.Oget at w p = option_wanted w p
operand_wanted prefix.Dunit at w p = do
  _ ← distribution_here at p
  part_wanted outcome w p

-- the type of what an operator gives of an operand, if it takes one of its type
abbrev pub prefix_result : Prefix → Ty → Option Ty
prefix_result prefix.Not t = Some ty.Bool
prefix_result prefix.Negate t = if is_signed t then Some t else None
prefix_result prefix.ToReal t = if is_of_numbers t then Some ty.Real else None
prefix_result prefix.Absolute t = Some ty.Real
prefix_result prefix.Some t = if is_of_values t then Some (ty.Opt t) else None
prefix_result prefix.Oget t = inside_option t
prefix_result prefix.Dunit t = if is_of_values t then Some (ty.Distr t) else None

abbrev pub prefix_operator : Prefix → Op
prefix_operator prefix.Not = op.Not
prefix_operator prefix.Negate = op.Negate
prefix_operator prefix.ToReal = op.ToReal
prefix_operator prefix.Absolute = op.Abs
prefix_operator prefix.Some = op.Some
prefix_operator prefix.Oget = op.Oget
prefix_operator prefix.Dunit = op.Dunit
