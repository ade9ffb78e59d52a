-- What a meaning of a type is.
use Rattle.std.proofs.Common.{◌≡◌, ℕ, zero, suc, ◌%◌, ◌^◌, ◌<◌, Bool, true, false, ◌&&◌, ℤ, pos, bit_xor, List, refl, ap, sym, ◌∙◌, subst, arith}
use Rattle.std.proofs.Math.Nat.{mul-pos, mod-lt}
use Rattle.std.proofs.lemmas.Bool.{false≢true, and_parts}
use Rattle.std.proofs.lemmas.Nat.{xor_lt}
use Rattle.gb_core.specs.declared.ty.Ty.{Ty}
use Rattle.gb_core.specs.declared.ty.Ty.TheVariants as ty
use Rattle.gb_core.specs.declared.value.Value.{Value}
use Rattle.gb_core.specs.declared.value.Value.TheVariants.{Num, Many}
use Rattle.gb_core.specs.Numbering.{numbers, is_many_in, parts_in, parts_of, is_many}
use Rattle.gb_core.proofs.Lawful.{Lawful-numbers, out-Many}
use Rattle.gb_dist.specs.WeightedList.{Every, bit}
use Rattle.gb_dist.proofs.Entries.{Every-scale}
use Rattle.gb_meaning.specs.Fractions.{Fraction, quotient}
use Rattle.gb_meaning.specs.Values.{Types, has}
use Rattle.gb_meaning.specs.Setting.{Meaning}
use Rattle.gb_meaning.specs.Setting.Meaning.{finite, whole, fraction, weights}
use Rattle.gb_meaning.specs.Meanings.{of_truth, of_number, value_in, number_in, whole_in, fraction_in, weights_in, scaled}
use Rattle.gb_meaning.specs.Operators.{outcome_type, sum_at, difference_at, product_at, negated}
use Rattle.gb_laws.specs.Finite.{IsFinite}
use Rattle.gb_laws.specs.Operators.{IsArithmetic, IsSigned, IsOfBits}
use Rattle.gb_laws.specs.Meant.{IsInt, IsReal, IsOfDistributions, IsOf}

-- a number below a bound is one of the numbers
pub number_has : (n i : ℕ) → i < n → (numbers n).has (Num i) ≡ true
number_has n i h = (Lawful-numbers n).has_at i h

-- a value of parts, by a test of its parts
pub many_has : (test : List Value → Bool) (xs : List Value) → test xs ≡ true → (is_many (Many xs) && test (parts_of (Many xs))) ≡ true
many_has test xs h = ap (λ z. is_many_in z && test (parts_in z)) (out-Many xs) ∙ h

pub parts_have : (test : List Value → Bool) (v : Value) → (is_many v && test (parts_of v)) ≡ true → test (parts_of v) ≡ true
parts_have test v h = (and_parts (is_many v) (test (parts_of v)) h).1

not_int : (t : Ty) → IsFinite t → IsInt t → ⊥
not_int ty.Int f i = f
not_int _ f i = i

not_real : (t : Ty) → IsFinite t → IsReal t → ⊥
not_real ty.Real f i = f
not_real _ f i = i

not_drawn : (t : Ty) → IsFinite t → IsOfDistributions t → ⊥
not_drawn (ty.Distr' p x) f i = f
not_drawn _ f i = i

module _ (ts : Types) where
  -- a meaning of a finite type is a value
  pub finite_is : (t : Ty) (x : Meaning) → IsFinite t → IsOf ts t x → x ≡ finite (value_in x)
  finite_is t (finite v) f h = refl
  finite_is t (whole n) f h = absurd (not_int t f h)
  finite_is t (fraction a) f h = absurd (not_real t f h.0)
  finite_is t (weights d) f h = absurd (not_drawn t f h.0)

  -- it has a value of the type
  pub finite_has : (t : Ty) (x : Meaning) → IsFinite t → IsOf ts t x → has ts t (value_in x) ≡ true
  finite_has t (finite v) f h = h
  finite_has t (whole n) f h = absurd (not_int t f h)
  finite_has t (fraction a) f h = absurd (not_real t f h.0)
  finite_has t (weights d) f h = absurd (not_drawn t f h.0)

  pub int_is : (x : Meaning) → IsOf ts ty.Int x → x ≡ whole (whole_in x)
  int_is (finite v) h = absurd (false≢true h)
  int_is (whole n) h = refl
  int_is (fraction a) h = absurd h.0
  int_is (weights d) h = absurd h.0

  pub real_is : (x : Meaning) → IsOf ts ty.Real x → x ≡ fraction (fraction_in x)
  real_is (finite v) h = absurd (false≢true h)
  real_is (whole n) h = absurd h
  real_is (fraction a) h = refl
  real_is (weights d) h = absurd h.0

  -- a meaning as a fraction has a denominator above 0
  pub fraction_above : (t : Ty) (x : Meaning) → IsOf ts t x → 0 < (fraction_in x).1
  fraction_above t (finite v) h = omega arith
  fraction_above t (whole n) h = omega arith
  fraction_above t (fraction a) h = h.1
  fraction_above t (weights d) h = omega arith

  -- a meaning's weights are of outcomes of the type
  pub weights_have : (t : Ty) (x : Meaning) → IsOf ts t x → Every (λ v. has ts (outcome_type t) v ≡ true) (weights_in x)
  weights_have t (finite v) h = tt
  weights_have t (whole n) h = tt
  weights_have t (fraction a) h = tt
  weights_have t (weights d) h = h.1

  bit_below : (b : Bool) → bit b < 2
  bit_below true = omega arith
  bit_below false = omega arith

  -- a truth is a value of type `bool`
  pub truth_in : (b : Bool) → IsOf ts ty.Bool (of_truth b)
  truth_in b = number_has 2 (bit b) (bit_below b)

  pub bool_in : (t : Ty) (b : Bool) → t ≡ ty.Bool → IsOf ts t (of_truth b)
  bool_in t b e = subst (λ z. IsOf ts z (of_truth b)) (sym e) (truth_in b)

  pub real_in : (t : Ty) (a : Fraction) → 0 < a.1 → t ≡ ty.Real → IsOf ts t (fraction a)
  real_in t a h e = subst (λ z. IsOf ts z (fraction a)) (sym e) (tt, h)

  -- the same at an equal type
  pub at_type : (t u : Ty) (x : Meaning) → t ≡ u → IsOf ts t x → IsOf ts u x
  at_type t u x e h = subst (λ z. IsOf ts z x) e h

  -- a scaled meaning is of the same type
  pub scaled_in : (k : ℕ) (t : Ty) (x : Meaning) → IsOf ts t x → IsOf ts t (scaled k x)
  scaled_in k t (finite v) h = h
  scaled_in k t (whole n) h = h
  scaled_in k t (fraction a) h = h
  scaled_in k t (weights d) h = (h.0, Every-scale _ k d h.1)

  -- Arithmetic gives whole numbers from whole numbers, fractions from fractions, and numbers below the bound from such.
  module _ (f : Ty → Meaning → Meaning → Meaning)
      (wholes : (a b : ℤ) → IsOf ts ty.Int (f ty.Int (whole a) (whole b)))
      (fractions : (a b : Fraction) → 0 < a.1 → 0 < b.1 → IsOf ts ty.Real (f ty.Real (fraction a) (fraction b)))
      (residues : (n : ℕ) (v w : Value) → 0 < n → IsOf ts (ty.Mod n) (f (ty.Mod n) (finite v) (finite w))) where
    pub arithmetic_in : (t : Ty) (x y : Meaning) → IsArithmetic t → IsOf ts t x → IsOf ts t y → IsOf ts t (f t x y)
    arithmetic_in ty.Int x y k h l = subst (λ z. IsOf ts ty.Int z) (sym (λ i. f ty.Int (int_is x h i) (int_is y l i))) (wholes _ _)
    arithmetic_in ty.Real x y k h l = subst (λ z. IsOf ts ty.Real z) (sym (λ i. f ty.Real (real_is x h i) (real_is y l i)))
        (fractions _ _ (fraction_above ty.Real x h) (fraction_above ty.Real y l))
    arithmetic_in (ty.Mod n) x y k h l = subst (λ z. IsOf ts (ty.Mod n) z) (sym (λ i. f (ty.Mod n) (finite_is (ty.Mod n) x k h i) (finite_is (ty.Mod n) y k l i))) (residues n _ _ k)
    arithmetic_in _ x y k h l = absurd k

  residue : (n i : ℕ) → 0 < n → (numbers n).has (Num (i % n)) ≡ true
  residue n i h = number_has n (i % n) (mod-lt i h)

  pub sum_in : (t : Ty) (x y : Meaning) → IsArithmetic t → IsOf ts t x → IsOf ts t y → IsOf ts t (sum_at t x y)
  sum_in = arithmetic_in sum_at (λ a b. tt) (λ a b p q. (tt, mul-pos p q)) (λ n v w h. residue n _ h)

  pub difference_in : (t : Ty) (x y : Meaning) → IsArithmetic t → IsOf ts t x → IsOf ts t y → IsOf ts t (difference_at t x y)
  difference_in = arithmetic_in difference_at (λ a b. tt) (λ a b p q. (tt, mul-pos p q)) (λ n v w h. residue n _ h)

  pub product_in : (t : Ty) (x y : Meaning) → IsArithmetic t → IsOf ts t x → IsOf ts t y → IsOf ts t (product_at t x y)
  product_in = arithmetic_in product_at (λ a b. tt) (λ a b p q. (tt, mul-pos p q)) (λ n v w h. residue n _ h)

  pub negated_in : (t : Ty) (x : Meaning) → IsSigned t → IsOf ts t x → IsOf ts t (negated x)
  negated_in ty.Int x k h = subst (λ z. IsOf ts ty.Int z) (sym (ap negated (int_is x h))) tt
  negated_in ty.Real x k h = subst (λ z. IsOf ts ty.Real z) (sym (ap negated (real_is x h))) (tt, fraction_above ty.Real x h)
  negated_in _ x k h = absurd k

  -- a number below a power of 2
  bits_below : (n : ℕ) (v : Value) → (numbers n).has v ≡ true → number_in (finite v) < n
  bits_below n v h = (Lawful-numbers n).below v h

  pub xor_in : (t : Ty) (x y : Meaning) → IsOfBits t → IsOf ts t x → IsOf ts t y → IsOf ts t (of_number (bit_xor (number_in x) (number_in y)))
  xor_in ty.Bool x y k h l = number_has 2 _ (xor_lt 1 _ _ (bits_below 2 _ (finite_has ty.Bool x tt h)) (bits_below 2 _ (finite_has ty.Bool y tt l)))
  xor_in (ty.Bits n) x y k h l = number_has (2 ^ n) _ (xor_lt n _ _ (bits_below _ _ (finite_has (ty.Bits n) x tt h)) (bits_below _ _ (finite_has (ty.Bits n) y tt l)))
  xor_in _ x y k h l = absurd k

pub quotient_above : (a b : Fraction) → 0 < a.1 → 0 < (quotient a b).1
quotient_above a (pos (suc n), d) h = mul-pos h (omega arith)
quotient_above a (pos zero, d) h = omega arith
quotient_above a (_, d) h = omega arith
