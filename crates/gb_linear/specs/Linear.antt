-- The linear forms of terms of type `int` or `real`.
use Rattle.std.specs.Prelude.{Bool, true, false, ◌&&◌, if◌then◌else◌, ℤ, Option, Some, None, List, [], ◌∷◌}
use Rattle.gb_core.specs.declared.ty.Ty.{Ty}
use Rattle.gb_core.specs.declared.ty.Ty.TheVariants as ty
use Rattle.gb_dist.specs.Fractions.{of_whole}
use Rattle.gb_dist.specs.Operations.{is_small}
use Rattle.gb_terms.specs.declared.op.Op.{Op}
use Rattle.gb_terms.specs.declared.op.Op.TheVariants as op
use Rattle.gb_terms.specs.declared.term.Term.{Term, Term', Row_of-Term, end_of-Term, more_of-Term, end_of-Head, more_of-Head, out-Term}
use Rattle.gb_terms.specs.declared.term.Head.{Head}
use Rattle.gb_terms.specs.declared.term.Head.TheVariants as head
use Rattle.gb_goal.specs.Answers.{Answer, ◌>>=◌}
use Rattle.gb_goal.specs.Answers.Answer.{given}
use Rattle.gb_closing.specs.declared.numbers.Sign.TheVariants.{Plus, Minus}
use Rattle.gb_linear.specs.declared.numbers.Stands.TheVariants.{Left, Right}
use Rattle.gb_linear.specs.declared.forms.LinearForm.{LinearForm}
use Rattle.gb_linear.specs.declared.linear.Prefix.{Prefix}
use Rattle.gb_linear.specs.declared.linear.Prefix.TheVariants.{Opposite, Same, Other}
use Rattle.gb_closing.specs.Numbers.{zero}
use Rattle.gb_linear.specs.Numbers.{is_divisor, inverse}
use Rattle.gb_linear.specs.Forms.{combined, scaled, is_constant, of_number, alone}

abbrev pub is_int : Ty → Bool
is_int ty.Int = true
is_int _ = false

-- A numeral; one that is out of range isn't taken apart.
abbrev pub numeral : ℤ → Term → LinearForm
numeral n t = if is_small n then of_number (of_whole n) else alone t

-- A product with a side in which no term is left; any other one isn't taken apart.
abbrev pub product_of : LinearForm → LinearForm → Term → Answer LinearForm
product_of a b t =
    if is_constant a then scaled Left a.constant b
    else if is_constant b then scaled Right b.constant a else given (alone t)

-- A quotient by a whole number above 0, as the product with its inverse.
abbrev pub quotient_of : LinearForm → LinearForm → Term → Answer LinearForm
quotient_of a b t =
    if is_constant b && is_divisor b.constant then (inverse b.constant >>= λ k. scaled Right k a) else given (alone t)

-- an argument, with its form
pub record Part : Type 0 where
  pub ty : Ty
  pub form : Answer LinearForm

-- a term that isn't taken apart, unless it is a numeral
abbrev pub plain : Head → Term → LinearForm
plain (head.Whole n) t = numeral n t
plain h t = alone t

-- what becomes of the argument of a head with one: it is taken from 0, it is a real as it is a whole number, or nothing
abbrev pub prefixed : Head → Ty → Prefix
prefixed (head.Builtin op.Negate) u = Opposite
prefixed (head.Builtin op.ToReal) u = if is_int u then Same else Other
prefixed h u = Other

abbrev pub of_one : Prefix → Part → Head → Term → Answer LinearForm
of_one Opposite a h t = a.form >>= λ x. combined Minus (of_number zero) x
of_one Same a h t = a.form
of_one Other a h t = given (plain h t)

-- the operator that joins two arguments, where it is taken apart
abbrev pub joining : Head → Option Op
joining (head.Builtin op.Plus) = Some op.Plus
joining (head.Builtin op.Minus) = Some op.Minus
joining (head.Builtin op.Times) = Some op.Times
joining (head.Builtin op.Divide) = Some op.Divide
joining h = None

-- such an operator at the forms of its sides
abbrev pub at_forms : Op → LinearForm → LinearForm → Term → Answer LinearForm
at_forms op.Plus a b t = combined Plus a b
at_forms op.Minus a b t = combined Minus a b
at_forms op.Times a b t = product_of a b t
at_forms op.Divide a b t = quotient_of a b t
at_forms o a b t = given (alone t)

abbrev pub of_two : Option Op → Part → Part → Head → Term → Answer LinearForm
of_two (Some o) a b h t = a.form >>= λ x. b.form >>= λ y. at_forms o x y t
of_two None a b h t = given (plain h t)

-- a head at its arguments
abbrev pub at_head : Head → List Part → Term → Answer LinearForm
at_head h (a ∷ []) t = of_one (prefixed h a.ty) a h t
at_head h (a ∷ b ∷ []) t = of_two (joining h) a b h t
at_head h xs t = given (plain h t)

-- the linear form of a term; operands are computed from left to right
abbrev mutual
  pub linear : Term → Answer LinearForm
  linear (Term' p (more_of-Head h end_of-Head) n args ty) = at_head h (parts args) (Term' p (more_of-Head h end_of-Head) n args ty)

  pub parts : {n : _} → Row_of-Term n → List Part
  parts end_of-Term = []
  parts (more_of-Term t r) = record { ty = (out-Term t).ty; form = linear t } ∷ parts r

-- a term as an argument
abbrev pub part : Term → Part
part t = record { ty = (out-Term t).ty; form = linear t }
