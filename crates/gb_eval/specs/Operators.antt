-- Operators at what their arguments come to.
use Rattle.std.specs.Prelude.{ℕ, zero, suc, pred, ◌+◌, ◌-◌, ◌*◌, ◌%◌, Bool, true, false, not, ◌&&◌, ◌==◌, nat_lt, nat_le, bit_xor, if◌then◌else◌, ℤ, pos, ◌+ℤ◌, ◌-ℤ◌, ◌*ℤ◌, int_lt, Option, Some, None, List, [], ◌∷◌, ◌++◌}
use Rattle.std.specs.declared.cmp.Ordering.{Ordering}
use Rattle.std.specs.Ordering.{is_lt, is_le, is_eq, nat_cmp, int_cmp, int_eq}
use Rattle.gb_core.specs.declared.ty.Ty.{Ty}
use Rattle.gb_core.specs.declared.ty.Ty.TheVariants as ty
use Rattle.gb_core.specs.declared.value.Value.{Value}
use Rattle.gb_core.specs.declared.value.Value.TheVariants.{Many}
use Rattle.gb_core.specs.declared.value.Card.{Card}
use Rattle.gb_core.specs.declared.value.Card.TheVariants.{Exact, Above}
use Rattle.gb_core.specs.Numbering.{parts_of}
use Rattle.gb_core.specs.Types.{card_of, numbering, value_at}
use Rattle.gb_terms.specs.declared.op.Op.{Op}
use Rattle.gb_terms.specs.declared.op.Op.TheVariants as op
use Rattle.gb_dist.specs.WeightedList.{WeightedList, weight, unit}
use Rattle.gb_dist.specs.Fractions.{Fraction, plus, minus, times, over, absolute, of_whole, reduced}
use Rattle.gb_dist.specs.Fractions as fractions
use Rattle.gb_dist.specs.Operations.{is_small, product_of, sum_of, difference_of, crossings, plus_steps, minus_steps, times_steps, over_steps}
use Rattle.gb_dist.specs.Lists.{coin, uniform, product}
use Rattle.gb_dist.specs.Rows.{product_steps}
use Rattle.gb_labels.specs.Keys.{are_keys, is_key}
use Rattle.gb_meaning.specs.Values.{value_eq}
use Rattle.gb_meaning.specs.Operators.{outcome_type, key_type, entry_of, entry_set, is_none}
use Rattle.gb_eval.specs.Findings.{Finding, Comes, ◌>>=◌, after, of_number, of_truth, number_in, truth_in, value_in, fraction_in, with_table}
use Rattle.gb_eval.specs.Findings.Finding.{value, whole, fraction, table}
use Rattle.gb_eval.specs.Findings.Comes.{found, unknown}

-- Arithmetic: on whole numbers, on fractions, and modulo the bound of a type.

abbrev pub whole_at : Op → ℤ → ℤ → Comes Finding
whole_at op.Plus a b = after (sum_of a b ∷ []) (whole (a +ℤ b))
whole_at op.Minus a b = after (difference_of a b ∷ []) (whole (a -ℤ b))
whole_at op.Times a b = after (product_of a b ∷ []) (whole (a *ℤ b))
whole_at _ a b = unknown

-- a whole number above 0
abbrev pub is_divisor : Fraction → Bool
is_divisor b = (b.1 == 1) && int_lt (pos 0) b.0

abbrev pub fraction_at : Op → Fraction → Fraction → Comes Finding
fraction_at op.Plus a b = after (plus_steps a b) (fraction (reduced (plus a b)))
fraction_at op.Minus a b = after (minus_steps a b) (fraction (reduced (minus a b)))
fraction_at op.Times a b = after (times_steps a b) (fraction (reduced (times a b)))
fraction_at op.Divide a b = if is_divisor b then after (over_steps a b.0) (fraction (reduced (over a b.0))) else unknown
fraction_at _ a b = unknown

abbrev pub modulo : ℕ → ℕ → Comes Finding
modulo n k = if nat_lt 0 n then found (of_number (k % n)) else unknown

abbrev pub number_at : Op → Ty → ℕ → ℕ → Comes Finding
number_at op.Plus (ty.Mod n) a b = modulo n (a + b)
number_at op.Minus (ty.Mod n) a b = modulo n (a + (n - b))
number_at op.Times (ty.Mod n) a b = modulo n (a * b)
number_at op.Xor t a b = found (of_number (bit_xor a b))
number_at _ t a b = unknown

abbrev pub arithmetic : Op → Ty → Finding → Finding → Comes Finding
arithmetic o t (whole a) (whole b) = whole_at o a b
arithmetic o t (fraction a) (fraction b) = fraction_at o a b
arithmetic o t (value v) (value w) = number_in (value v) >>= λ a. number_in (value w) >>= λ b. number_at o t a b
arithmetic o t _ _ = unknown

-- how numbers compare
abbrev pub order : Finding → Finding → Comes Ordering
order (whole a) (whole b) = found (int_cmp a b)
order (fraction a) (fraction b) = after (crossings a b) (fractions.order a b)
order (value v) (value w) = number_in (value v) >>= λ a. number_in (value w) >>= λ b. found (nat_cmp a b)
order _ _ = unknown

-- whether values, whole numbers or fractions are the same
abbrev pub same : Finding → Finding → Comes Bool
same (value v) (value w) = found (value_eq v w)
same (whole a) (whole b) = found (int_eq a b)
same (fraction a) (fraction b) = after (crossings a b) (is_eq (fractions.order a b))
same _ _ = unknown

-- The prefix `-` takes its operand from 0.

abbrev pub zero_fraction : Fraction
zero_fraction = of_whole (pos 0)

abbrev pub opposite : Finding → Comes Finding
opposite (whole a) = whole_at op.Minus (pos 0) a
opposite (fraction a) = fraction_at op.Minus zero_fraction a
opposite _ = unknown

-- a whole number, or one of a type of numbers, as a fraction
abbrev pub whole_fraction : ℤ → Comes Finding
whole_fraction a = if is_small a then found (fraction (of_whole a)) else unknown

abbrev pub as_fraction : Finding → Comes Finding
as_fraction (whole a) = whole_fraction a
as_fraction x = number_in x >>= λ n. whole_fraction (pos n)

-- a real, or a whole number as a fraction of denominator 1
abbrev pub real_in : Finding → Comes Fraction
real_in (whole a) = whole_fraction a >>= fraction_in
real_in x = fraction_in x

abbrev pub absolute_of : Finding → Comes Finding
absolute_of (fraction a) = found (fraction (absolute a))
absolute_of _ = unknown

abbrev pub part : ℕ → List Value → Comes Finding
part n [] = unknown
part zero (v ∷ vs) = found (value v)
part (suc n) (v ∷ vs) = part n vs

abbrev pub first_among : Card → Ty → Comes Finding
first_among (Exact n) t = if nat_lt 0 n then found (value (value_at t 0)) else unknown
first_among Above t = unknown

-- what stands in an option, or the first value of the type
abbrev pub opened : Ty → List Value → Comes Finding
opened t [] = first_among (card_of t) t
opened t (v ∷ vs) = found (value v)

abbrev pub uniform_over : Card → Ty → Comes Finding
uniform_over (Exact n) t = if nat_lt 0 n && nat_le n 65536 then found (table n (uniform (numbering t))) else unknown
uniform_over Above t = unknown

abbrev pub nullary : Op → Ty → Comes Finding
nullary op.None t = found (value (Many []))
nullary op.Empty t = found (value (Many []))
nullary op.Coin t = found (table 2 coin)
nullary op.Uniform t = uniform_over (card_of (outcome_type t)) (outcome_type t)
nullary _ t = unknown

-- an operator at one value
abbrev pub unary_at : Op → Ty → Value → Comes Finding
unary_at (op.Part i) t v = part (pred i) (parts_of v)
unary_at op.Some t v = found (value (Many (v ∷ [])))
unary_at op.Oget t v = opened t (parts_of v)
unary_at op.Dunit t v = found (table 1 (unit v))
unary_at _ t v = unknown

abbrev pub unary : Op → Ty → Finding → Comes Finding
unary op.Not t x = truth_in x >>= λ a. found (of_truth (not a))
unary op.Negate t x = opposite x
unary op.ToReal t x = as_fraction x
unary op.Abs t x = absolute_of x
unary o t x = value_in x >>= λ v. unary_at o t v

-- the weight of a value
abbrev pub weight_of : Value → WeightedList Value → ℕ
weight_of v l = weight l (λ w. value_eq w v)

-- a weight over a denominator
abbrev pub chance : ℕ → ℕ → Comes Finding
chance w n = if nat_lt 0 n then found (fraction (reduced (pos w, n))) else unknown

abbrev pub probability : Finding → Finding → Comes Finding
probability x y = value_in y >>= λ v. with_table x (λ n l. chance (weight_of v l) n)

abbrev pub in_support : Finding → Finding → Comes Bool
in_support x y = value_in x >>= λ v. with_table y (λ n l. found (nat_lt 0 (weight_of v l)))

abbrev pub paired : Finding → Finding → Comes Finding
paired x y = with_table x (λ m d. with_table y (λ n e. after (product_steps d e ++ product_of (pos m) (pos n) ∷ []) (table (m * n) (product d e))))

-- what a map gives a key, as an option
abbrev pub looked_up : Finding → Finding → Comes Finding
looked_up x y = value_in x >>= λ m. value_in y >>= λ k. found (value (Many (entry_of (parts_of m) k)))

abbrev pub in_map : Finding → Finding → Comes Bool
in_map x y = value_in x >>= λ k. value_in y >>= λ m. found (not (is_none (entry_of (parts_of m) k)))

abbrev pub is_map : Ty → Bool
is_map (ty.Map' p k q x) = true
is_map _ = false

-- a map with a value for a key, in the order of the values of the type of its keys, where each key has a place in that
abbrev pub with_entry : Ty → List Value → Value → Value → Comes Finding
with_entry t ps k v =
    if is_map t && is_key (key_type t) k && are_keys (key_type t) ps then found (value (Many (entry_set (numbering (key_type t)) ps k v))) else unknown

abbrev pub updated : Ty → Finding → Finding → Finding → Comes Finding
updated t x y z = value_in x >>= λ m. value_in y >>= λ k. value_in z >>= λ v. with_entry t (parts_of m) k v

abbrev pub is_test : Op → Bool
is_test op.Equal = true
is_test op.NotEqual = true
is_test op.Less = true
is_test op.AtMost = true
is_test op.InSupport = true
is_test op.InMap = true
is_test _ = false

abbrev pub tested : Op → Finding → Finding → Comes Bool
tested op.Equal x y = same x y
tested op.NotEqual x y = same x y >>= λ a. found (not a)
tested op.Less x y = order x y >>= λ o. found (is_lt o)
tested op.AtMost x y = order x y >>= λ o. found (is_le o)
tested op.InSupport x y = in_support x y
tested op.InMap x y = in_map x y
tested _ x y = unknown

abbrev pub combined : Op → Ty → Finding → Finding → Comes Finding
combined op.Mu1 t x y = probability x y
combined op.Product t x y = paired x y
combined op.Get t x y = looked_up x y
combined o t x y = arithmetic o t x y

abbrev pub binary : Op → Ty → Finding → Finding → Comes Finding
binary o t x y = if is_test o then (tested o x y >>= λ a. found (of_truth a)) else combined o t x y

-- Connectives leave out what the left side decides.

abbrev pub is_connective : Op → Bool
is_connective op.And = true
is_connective op.Or = true
is_connective op.Implies = true
is_connective op.Iff = true
is_connective _ = false

-- what the left side of a connective decides alone
abbrev pub left_decides : Op → Bool → Option Bool
left_decides op.And false = Some false
left_decides op.Or true = Some true
left_decides op.Implies false = Some true
left_decides _ _ = None

-- what the right side decides where the left one doesn't
abbrev pub right_decides : Op → Bool → Bool → Bool
right_decides op.Iff false b = not b
right_decides _ a b = b

abbrev pub decided_or : Option Bool → Comes Bool → Comes Bool
decided_or (Some b) c = found b
decided_or None c = c

abbrev pub connective : Op → Comes Bool → Comes Bool → Comes Bool
connective o x y = x >>= λ a. decided_or (left_decides o a) (y >>= λ b. found (right_decides o a b))
