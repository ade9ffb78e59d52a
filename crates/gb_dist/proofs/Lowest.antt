-- Fractions in lowest terms: a fraction that is reduced is the same one in lowest terms, and there is one such.
use Rattle.std.proofs.Common.{◌≡◌, ℕ, zero, suc, ◌*◌, ◌/◌, ◌<◌, ◌≤◌, ◌^◌, ℤ, pos, negsuc, ◌*ℤ◌, unsigned_abs, refl, sym, ap, ◌∙◌, arith, subst}
use Rattle.std.specs.Prelude.{int_div, neg_ℤ, ◌<ℤ◌}
use Rattle.std.specs.Int.{IsGcd, ◌∣◌}
use Rattle.std.specs.Prelude.{List, Option, None, Some, Result, IfOk}
use Rattle.gb_dist.specs.declared.whole.Overflow.{Overflow}
use Rattle.gb_dist.specs.Operations.{Operation, unless, outcome, first_overflow}
use Rattle.std.proofs.lemmas.Int.{ints, unsigned_abs-mul}
use Rattle.std.proofs.Math.Nat.{mul-div_assoc, div-mul_cancel, div-le_self, pos_of_ne-zero, mul_comm, mul-div_cancel, mul-pos, one-dvd}
use Rattle.std.proofs.Math.IntN.{pos-ne-negsuc}
use Rattle.gb_dist.specs.Fractions.{Fraction, IsSame, IsLowest, IsBounded, gcd, reduced, absolute, of_whole}
use Rattle.gb_dist.proofs.Divisors.{IsGcd-gcd, pos_of_IsGcd, coprime_quotients, same_denominators}

size_of_opposite : (m : ℕ) → unsigned_abs (neg_ℤ (pos m)) ≡ m
size_of_opposite zero = refl
size_of_opposite (suc m) = refl

opposite_times : (m c : ℕ) → neg_ℤ (pos m) *ℤ pos c ≡ neg_ℤ (pos (m * c))
opposite_times zero c = let none : 0 * c ≡ 0 = omega arith in ap pos none ∙ ap (λ k. neg_ℤ (pos k)) (sym none)
opposite_times (suc m) c = refl

pub size_of_quotient : (z : ℤ) (g : ℕ) → unsigned_abs (int_div z (pos g)) ≡ unsigned_abs z / g
size_of_quotient (pos n) g = refl
size_of_quotient (negsuc n) g = size_of_opposite (suc n / g)

quotients_cross : (n b g : ℕ) → g ∣ n → g ∣ b → n / g * b ≡ n * (b / g)
quotients_cross n b g p q = mul_comm (n / g) b ∙ sym (mul-div_assoc g b p) ∙ ap (λ k. k / g) (mul_comm b n) ∙ mul-div_assoc g n q

signed_quotients_cross : (z : ℤ) (b g : ℕ) → g ∣ unsigned_abs z → g ∣ b → int_div z (pos g) *ℤ pos b ≡ z *ℤ pos (b / g)
signed_quotients_cross (pos n) b g p q = ap pos (quotients_cross n b g p q)
signed_quotients_cross (negsuc n) b g p q = opposite_times (suc n / g) b ∙ ap (λ k. neg_ℤ (pos k)) (quotients_cross (suc n) b g p q)

pub IsSame-reduced : (a : Fraction) → 0 < a.1 → IsSame (reduced a) a
unfolding reduced
IsSame-reduced a h =
    let divisor = IsGcd-gcd (unsigned_abs a.0) a.1 in
    signed_quotients_cross a.0 a.1 (gcd (unsigned_abs a.0) a.1) divisor.0 divisor.1

pos_quotient : (b g : ℕ) → g ∣ b → 0 < b → 0 < b / g
pos_quotient b g d h = pos_of_ne-zero (λ e. omega (arith, ap (λ k. k * g) e, div-mul_cancel g d))

pub IsLowest-reduced : (a : Fraction) → 0 < a.1 → IsLowest (reduced a)
unfolding reduced
IsLowest-reduced a h =
    let g = gcd (unsigned_abs a.0) a.1 in
    let divisor : IsGcd (unsigned_abs a.0) a.1 g = IsGcd-gcd (unsigned_abs a.0) a.1 in
    record {
      above = pos_quotient a.1 g divisor.1 h;
      coprime = subst (λ n. IsGcd n (a.1 / g) 1) (sym (size_of_quotient a.0 g)) (coprime_quotients _ _ g divisor (pos_of_IsGcd _ _ g divisor h));
    }

pub num_of_reduced : (a : Fraction) → 0 < a.1 → unsigned_abs (reduced a).0 ≤ unsigned_abs a.0
unfolding reduced
num_of_reduced a h = rw (size_of_quotient a.0 (gcd (unsigned_abs a.0) a.1)) (div-le_self _ _)

pub den_of_reduced : (a : Fraction) → 0 < a.1 → (reduced a).1 ≤ a.1
unfolding reduced
den_of_reduced a h = div-le_self _ _

pub IsBounded-reduced : (a : Fraction) → 0 < a.1 → unsigned_abs a.0 < 2 ^ 127 → a.1 < 2 ^ 127 → IsBounded (reduced a)
IsBounded-reduced a h p q = record {
  lowest = IsLowest-reduced a h;
  num = omega (arith, num_of_reduced a h);
  den = omega (arith, den_of_reduced a h);
}

apart : (m k : ℕ) → 0 < k → pos m ≡ neg_ℤ (pos k) → ⊥
apart m zero h e = omega arith
apart m (suc k) h e = pos-ne-negsuc m k e

times_cancel : (m n b : ℕ) → 0 < b → m * b ≡ n * b → m ≡ n
times_cancel m n b h e = sym (mul-div_cancel m h) ∙ ap (λ k. k / b) e ∙ mul-div_cancel n h

cancel : (x y : ℤ) (b : ℕ) → 0 < b → x *ℤ pos b ≡ y *ℤ pos b → x ≡ y
cancel (pos m) (pos n) b h e = ap pos (times_cancel m n b h (ap unsigned_abs e))
cancel (pos m) (negsuc n) b h e = absurd (apart (m * b) (suc n * b) (mul-pos (omega arith) h) e)
cancel (negsuc m) (pos n) b h e = absurd (apart (n * b) (suc m * b) (mul-pos (omega arith) h) (sym e))
cancel (negsuc m) (negsuc n) b h e =
    let k : suc m ≡ suc n = times_cancel (suc m) (suc n) b h (sym (size_of_opposite (suc m * b)) ∙ ap unsigned_abs e ∙ size_of_opposite (suc n * b)) in
    cc

sizes_cross : (x y : ℤ) (b d : ℕ) → x *ℤ pos d ≡ y *ℤ pos b → unsigned_abs x * d ≡ unsigned_abs y * b
sizes_cross x y b d e = sym (unsigned_abs-mul x (pos d)) ∙ ap unsigned_abs e ∙ unsigned_abs-mul y (pos b)

same_numerators : (x y : ℤ) (b d : ℕ) → 0 < b → b ≡ d → x *ℤ pos d ≡ y *ℤ pos b → x ≡ y
same_numerators x y b d h e k = cancel x y b h (ap (λ n. x *ℤ pos n) e ∙ k)

pub same_lowest : (a b : Fraction) → IsLowest a → IsLowest b → IsSame a b → a ≡ b
same_lowest (x, b) (y, d) h k e =
    let dens : b ≡ d = same_denominators (unsigned_abs x) (unsigned_abs y) b d h.above k.above h.coprime k.coprime (sizes_cross x y b d e) in
    let nums : x ≡ y = same_numerators x y b d h.above dens e in
    cc

pub reduced_lowest : (a : Fraction) → IsLowest a → reduced a ≡ a
reduced_lowest a h = same_lowest (reduced a) a (IsLowest-reduced a h.above) h (IsSame-reduced a h.above)

-- the parts of a fraction without its sign
pub IsBounded-absolute : (a : Fraction) → IsBounded a → IsBounded (absolute a)
IsBounded-absolute a h = record { lowest = record { above = h.lowest.above; coprime = h.lowest.coprime }; num = h.num; den = h.den }

pub IsBounded-of_whole : (n : ℤ) → unsigned_abs n < 2 ^ 127 → IsBounded (of_whole n)
IsBounded-of_whole n h = record { lowest = record { above = omega arith; coprime = (one-dvd _, one-dvd _, λ d p q. q) }; num = h; den = omega arith }

pub pos_of_positive : (z : ℤ) → pos 0 <ℤ z → pos (unsigned_abs z) ≡ z
pos_of_positive (pos n) h = refl
pos_of_positive (negsuc n) h = absurd (omega (arith, ints))

pub size_of_positive : (z : ℤ) → pos 0 <ℤ z → 0 < unsigned_abs z
size_of_positive (pos n) h = omega (arith, ints)
size_of_positive (negsuc n) h = absurd (omega (arith, ints))

-- quotients by the greatest common divisor, as the code computes them
pub reduced_parts : (num den : ℤ) (g : ℕ) → g ≡ gcd (unsigned_abs num) (unsigned_abs den) → (int_div num (pos g), unsigned_abs (int_div den (pos g))) ≡ reduced (num, unsigned_abs den)
unfolding reduced
reduced_parts num den g e = rw (e, size_of_quotient den (gcd (unsigned_abs num) (unsigned_abs den))) refl

pub positive_quotient : (z : ℤ) (g : ℕ) → g ∣ unsigned_abs z → pos 0 <ℤ z → pos 0 <ℤ int_div z (pos g)
positive_quotient (pos n) g d h = let above : 0 < n / g = pos_quotient n g d (omega (arith, ints)) in omega (arith, ints)
positive_quotient (negsuc n) g d h = absurd (omega (arith, ints))

pub positive_product : (x y : ℤ) → pos 0 <ℤ x → pos 0 <ℤ y → pos 0 <ℤ (x *ℤ y)
positive_product (pos m) (pos n) h k = let above : 0 < m * n = mul-pos (omega (arith, ints)) (omega (arith, ints)) in omega (arith, ints)
positive_product (pos m) (negsuc n) h k = absurd (omega (arith, ints))
positive_product (negsuc m) y h k = absurd (omega (arith, ints))

pub reduced_is_kept : (num den : ℤ) (g : ℕ) → g ≡ gcd (unsigned_abs num) (unsigned_abs den) → pos 0 <ℤ den → unsigned_abs num < 2 ^ 127 → unsigned_abs den < 2 ^ 127
    → (pos 0 <ℤ int_div den (pos g)) × IsBounded (int_div num (pos g), unsigned_abs (int_div den (pos g)))
reduced_is_kept num den g e h p q =
    let divides : g ∣ unsigned_abs den = subst (λ k. k ∣ unsigned_abs den) (sym e) (IsGcd-gcd (unsigned_abs num) (unsigned_abs den)).1 in
    (positive_quotient den g divides h, subst IsBounded (sym (reduced_parts num den g e)) (IsBounded-reduced (num, unsigned_abs den) (size_of_positive den h) p q))

same_unless : (x : Option Overflow) (f : Fraction) (q : Result Fraction Overflow) → 0 < f.1 → q ≡ unless x (reduced f) → IfOk q (λ r. IsSame r f)
same_unless None f q h e = rw e (IsSame-reduced f h)
same_unless (Some o) f q h e = rw e tt

-- what an exact computation gives is the same fraction as the one that isn't reduced
pub same_of_exact : (os : List Operation) (f : Fraction) (q : Result Fraction Overflow) → 0 < f.1 → q ≡ outcome os (reduced f) → IfOk q (λ r. IsSame r f)
same_of_exact os f q h e = same_unless (first_overflow os) f q h e
