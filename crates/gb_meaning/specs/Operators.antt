-- The built-in operators.
use Rattle.std.specs.Prelude.{ℕ, pred, ◌+◌, ◌-◌, ◌%◌, ◌*◌, Bool, true, false, not, ◌&&◌, ◌||◌, nat_lt, nat_le, bit_xor, if◌then◌else◌, pos, ◌+ℤ◌, ◌-ℤ◌, ◌*ℤ◌, neg_ℤ, int_lt, int_le, List, [], ◌∷◌, map, get_or}
use Rattle.gb_core.specs.declared.ty.Ty.{Ty, Row_of-Ty, end_of-Ty, more_of-Ty}
use Rattle.gb_core.specs.declared.ty.Ty.TheVariants as ty
use Rattle.gb_core.specs.declared.value.Value.{Value}
use Rattle.gb_core.specs.declared.value.Value.TheVariants.{Num, Many}
use Rattle.gb_core.specs.Numbering.{Numbering, parts_of, first_or, key_of, value_of}
use Rattle.gb_dist.specs.WeightedList.{weight, unit}
use Rattle.gb_terms.specs.declared.op.Op.{Op}
use Rattle.gb_terms.specs.declared.op.Op.TheVariants as op
use Rattle.gb_meaning.specs.Values.{Types, values, first, value_eq}
use Rattle.gb_meaning.specs.Fractions.{is_at_most, is_below, plus, minus, times, opposite, absolute, quotient}
use Rattle.gb_meaning.specs.Setting.{Meaning}
use Rattle.gb_meaning.specs.Setting.Meaning.{finite, whole, fraction, weights}
use Rattle.gb_meaning.specs.Meanings.{nothing, of_truth, of_number, value_in, number_in, truth, whole_in, fraction_in, weights_in, scaled, same}
use Rattle.gb_meaning.specs.Distributions.{coin, uniform, product}

-- an argument of an operator: what it means, and the denominator of its tree
pub record Argument : Type 0 where
  pub meaning : Meaning
  pub denominator : ℕ

-- the bound of a type of numbers modulo a bound, else 1
abbrev pub modulus : Ty → ℕ
modulus (ty.Mod n) = n
modulus _ = 1

abbrev pub only_type : {n : _} → Row_of-Ty n → Ty
only_type end_of-Ty = ty.Unit
only_type (more_of-Ty t r) = t

-- the type of the outcomes of a distribution
abbrev pub outcome_type : Ty → Ty
outcome_type (ty.Distr' p x) = only_type x
outcome_type _ = ty.Unit

abbrev pub is_distribution : Ty → Bool
is_distribution (ty.Distr' p x) = true
is_distribution _ = false

-- the denominator of what has this type: what is no distribution has 1
abbrev pub denominator_over : Ty → ℕ → ℕ
denominator_over t k = if is_distribution t then k else 1

-- the type of the keys of a map
abbrev pub key_type : Ty → Ty
key_type (ty.Map' p k q x) = only_type k
key_type _ = ty.Unit

-- Arithmetic: modulo the bound of the type, on whole numbers, or on fractions.

abbrev pub sum_at : Ty → Meaning → Meaning → Meaning
sum_at t (whole a) (whole b) = whole (a +ℤ b)
sum_at t (fraction a) (fraction b) = fraction (plus a b)
sum_at t a b = of_number ((number_in a + number_in b) % modulus t)

abbrev pub difference_at : Ty → Meaning → Meaning → Meaning
difference_at t (whole a) (whole b) = whole (a -ℤ b)
difference_at t (fraction a) (fraction b) = fraction (minus a b)
difference_at t a b = of_number ((number_in a + (modulus t - number_in b)) % modulus t)

abbrev pub product_at : Ty → Meaning → Meaning → Meaning
product_at t (whole a) (whole b) = whole (a *ℤ b)
product_at t (fraction a) (fraction b) = fraction (times a b)
product_at t a b = of_number ((number_in a * number_in b) % modulus t)

abbrev pub negated : Meaning → Meaning
negated (fraction a) = fraction (opposite a)
negated a = whole (neg_ℤ (whole_in a))

-- `<`, by number or by cross products
abbrev pub less : Meaning → Meaning → Bool
less (whole a) (whole b) = int_lt a b
less (fraction a) (fraction b) = is_below a b
less a b = nat_lt (number_in a) (number_in b)

abbrev pub at_most : Meaning → Meaning → Bool
at_most (whole a) (whole b) = int_le a b
at_most (fraction a) (fraction b) = is_at_most a b
at_most a b = nat_le (number_in a) (number_in b)

abbrev pub alike : Bool → Bool → Bool
alike true b = b
alike false b = not b

-- Maps are lists of pairs of a key and a value, in the order of their keys.

abbrev pub entry_of : List Value → Value → List Value
entry_of [] k = []
entry_of (p ∷ ps) k = if value_eq (key_of p) k then value_of p ∷ [] else entry_of ps k

abbrev pub entry_set : Numbering → List Value → Value → Value → List Value
entry_set t [] k v = Many (k ∷ v ∷ []) ∷ []
entry_set t (p ∷ ps) k v =
    if nat_lt (t.place (key_of p)) (t.place k) then p ∷ entry_set t ps k v
    else if nat_lt (t.place k) (t.place (key_of p)) then Many (k ∷ v ∷ []) ∷ p ∷ ps
    else Many (k ∷ v ∷ []) ∷ ps

abbrev pub is_none : List Value → Bool
is_none [] = true
is_none (v ∷ vs) = false

-- the weight of a value
abbrev pub weight_of : Meaning → Meaning → ℕ
weight_of d v = weight (weights_in d) (λ w. value_eq w (value_in v))

-- a distribution's side of a conditional is scaled by the denominator of the other side
abbrev pub chosen : Bool → Argument → Argument → Meaning
chosen true a b = scaled b.denominator a.meaning
chosen false a b = scaled a.denominator b.meaning

abbrev pub nullary : Types → Op → Ty → Meaning
nullary t op.None ty = finite (Many [])
nullary t op.Empty ty = finite (Many [])
nullary t op.Coin ty = weights coin
nullary t op.Uniform ty = weights (uniform (values t (outcome_type ty)))
nullary t _ ty = nothing

abbrev pub unary : Types → Op → Ty → Meaning → Meaning
unary t op.Not ty a = of_truth (not (truth a))
unary t op.Negate ty a = negated a
unary t op.ToReal ty a = fraction (fraction_in a)
unary t op.Abs ty a = fraction (absolute (fraction_in a))
unary t (op.Part i) ty a = finite (get_or (parts_of (value_in a)) (pred i) (Num 0))
unary t op.Some ty a = finite (Many (value_in a ∷ []))
unary t op.Oget ty a = finite (first_or (parts_of (value_in a)) (first t ty))
unary t op.Dunit ty a = weights (unit (value_in a))
unary t _ ty a = nothing

abbrev pub binary : Types → Op → Ty → Argument → Argument → Meaning
binary t op.And ty a b = of_truth (truth a.meaning && truth b.meaning)
binary t op.Or ty a b = of_truth (truth a.meaning || truth b.meaning)
binary t op.Implies ty a b = of_truth (not (truth a.meaning) || truth b.meaning)
binary t op.Iff ty a b = of_truth (alike (truth a.meaning) (truth b.meaning))
binary t op.Equal ty a b = of_truth (same a.meaning b.meaning)
binary t op.NotEqual ty a b = of_truth (not (same a.meaning b.meaning))
binary t op.Less ty a b = of_truth (less a.meaning b.meaning)
binary t op.AtMost ty a b = of_truth (at_most a.meaning b.meaning)
binary t op.Plus ty a b = sum_at ty a.meaning b.meaning
binary t op.Minus ty a b = difference_at ty a.meaning b.meaning
binary t op.Times ty a b = product_at ty a.meaning b.meaning
binary t op.Xor ty a b = of_number (bit_xor (number_in a.meaning) (number_in b.meaning))
binary t op.Divide ty a b = fraction (quotient (fraction_in a.meaning) (fraction_in b.meaning))
binary t op.Get ty a b = finite (Many (entry_of (parts_of (value_in a.meaning)) (value_in b.meaning)))
binary t op.InMap ty a b = of_truth (not (is_none (entry_of (parts_of (value_in b.meaning)) (value_in a.meaning))))
binary t op.InSupport ty a b = of_truth (nat_lt 0 (weight_of b.meaning a.meaning))
binary t op.Mu1 ty a b = fraction (pos (weight_of a.meaning b.meaning), a.denominator)
binary t op.Product ty a b = weights (product (weights_in a.meaning) (weights_in b.meaning))
binary t _ ty a b = nothing

abbrev pub ternary : Types → Op → Ty → Argument → Argument → Argument → Meaning
ternary t op.If ty a b c = chosen (truth a.meaning) b c
ternary t op.Set ty a b c =
    finite (Many (entry_set (values t (key_type ty)) (parts_of (value_in a.meaning)) (value_in b.meaning) (value_in c.meaning)))
ternary t _ ty a b c = nothing

-- An operator at its arguments and the type of its result. `oget` of none is the first value of its type.
abbrev pub operated : Types → Op → Ty → List Argument → Meaning
operated t op.Tuple ty xs = finite (Many (map (λ x. value_in x.meaning) xs))
operated t o ty [] = nullary t o ty
operated t o ty (a ∷ []) = unary t o ty a.meaning
operated t o ty (a ∷ b ∷ []) = binary t o ty a b
operated t o ty (a ∷ b ∷ c ∷ []) = ternary t o ty a b c
operated t o ty _ = nothing

-- The denominator of an operator's result, from those of its arguments. What is no distribution has 1.
abbrev pub denominator_at : Types → Op → Ty → List ℕ → ℕ
denominator_at t op.Coin ty ks = 2
denominator_at t op.Uniform ty ks = (values t (outcome_type ty)).size
denominator_at t op.Product ty (j ∷ k ∷ []) = j * k
denominator_at t op.If ty (i ∷ j ∷ k ∷ []) = j * k
denominator_at t _ ty ks = 1
