-- Divisors: Euclid's algorithm gives the greatest common one, and numbers divided by it have no common one but 1.
use Rattle.std.proofs.Common.{◌≡◌, ℕ, zero, suc, ◌*◌, ◌/◌, ◌%◌, ◌+◌, ◌<◌, ◌≤◌, refl, sym, ap, ◌∙◌, arith, subst}
use Rattle.std.specs.Int.{IsGcd, ◌∣◌}
use Rattle.std.proofs.lemmas.Nat.{mod-mul-add, div-add-mod'}
use Rattle.std.proofs.lemmas.Nat.Gcd.{IsGcd-from_zero, IsGcd-from_mod, same_from_IsGcd, le_of_dvd, dvd_antisymm}
use Rattle.std.proofs.Math.Nat.{mod-lt, pos_of_dvd_of_pos, div-mul_cancel, dvd_of_mul-dvd-mul_right, mul-dvd-mul_right, dvd-mul_left, dvd-mul_right, one-dvd, mul-lt-mul_of_pos_right, one-mul}
use Rattle.gb_dist.specs.Fractions.{euclid, gcd}

pub IsGcd-euclid : (n a b : ℕ) → b ≤ n → IsGcd a b (euclid n a b)
unfolding euclid
IsGcd-euclid zero a b h = IsGcd-from_zero a b (omega arith)
IsGcd-euclid (suc n) a zero h = IsGcd-from_zero a zero refl
IsGcd-euclid (suc n) a (suc b) h =
    let below : a % suc b < suc b = mod-lt a (omega arith) in
    IsGcd-from_mod a (suc b) _ (IsGcd-euclid n (suc b) (a % suc b) (omega arith))

pub IsGcd-gcd : (a b : ℕ) → IsGcd a b (gcd a b)
unfolding gcd
IsGcd-gcd a b = IsGcd-euclid b a b (omega arith)

pub gcd_is : (a b g : ℕ) → IsGcd a b g → g ≡ gcd a b
gcd_is a b g h = same_from_IsGcd a b g (gcd a b) h (IsGcd-gcd a b)

pub pos_of_IsGcd : (a b g : ℕ) → IsGcd a b g → 0 < b → 0 < g
pos_of_IsGcd a b g h p = pos_of_dvd_of_pos h.1 p

pub below_of_IsGcd : (a b g : ℕ) → IsGcd a b g → 0 < b → g ≤ b
below_of_IsGcd a b g h p = le_of_dvd p h.1

-- the quotients by the greatest common divisor have no common divisor but 1
pub coprime_quotients : (a b g : ℕ) → IsGcd a b g → 0 < g → IsGcd (a / g) (b / g) 1
coprime_quotients a b g h p = (
  one-dvd _,
  one-dvd _,
  λ d q r.
      let left : d * g ∣ a = subst (λ n. d * g ∣ n) (div-mul_cancel g h.0) (mul-dvd-mul_right d q g) in
      let right : d * g ∣ b = subst (λ n. d * g ∣ n) (div-mul_cancel g h.1) (mul-dvd-mul_right d r g) in
      dvd_of_mul-dvd-mul_right d p (subst (λ n. d * g ∣ n) (sym (one-mul g)) (h.2 (d * g) left right)),
)

mod_scaled : (a b k : ℕ) → 0 < b → 0 < k → (a * k) % (b * k) ≡ (a % b) * k
mod_scaled a b k p q =
    let below : (a % b) * k < b * k = mul-lt-mul_of_pos_right (mod-lt a p) q in
    let split : a * k ≡ a / b * (b * k) + (a % b) * k = omega (arith, ap (λ n. n * k) (div-add-mod' a b)) in
    rw split (mod-mul-add (a / b) (b * k) ((a % b) * k) below)

-- the greatest common divisor of multiples is the multiple of that of the numbers
pub IsGcd-scaled : (n a b k : ℕ) → b ≤ n → 0 < k → IsGcd (a * k) (b * k) (euclid n a b * k)
unfolding euclid
IsGcd-scaled zero a zero k h p = IsGcd-from_zero (a * k) (zero * k) (omega arith)
IsGcd-scaled zero a (suc b) k h p = absurd (omega arith)
IsGcd-scaled (suc n) a zero k h p = IsGcd-from_zero (a * k) (zero * k) (omega arith)
IsGcd-scaled (suc n) a (suc b) k h p =
    let below : a % suc b < suc b = mod-lt a (omega arith) in
    let inner = IsGcd-scaled n (suc b) (a % suc b) k (omega arith) p in
    IsGcd-from_mod (a * k) (suc b * k) _ (subst (λ m. IsGcd (suc b * k) m (euclid n (suc b) (a % suc b) * k)) (sym (mod_scaled a (suc b) k (omega arith) p)) inner)

-- what divides a product, and has no common divisor with one factor, divides the other one
pub divides_factor : (x y b d : ℕ) → 0 < d → IsGcd x b 1 → x * d ≡ y * b → b ∣ d
unfolding gcd
divides_factor x y b d p h e =
    let scaled : IsGcd (x * d) (b * d) (gcd x b * d) = IsGcd-scaled b x b d (omega arith) p in
    let divides : b ∣ gcd x b * d = scaled.2 b (subst (λ n. b ∣ n) (sym e) (dvd-mul_left b y)) (dvd-mul_right b d) in
    subst (λ n. b ∣ n) (ap (λ g. g * d) (sym (gcd_is x b 1 h)) ∙ one-mul d) divides

-- fractions in lowest terms that are the same have equal denominators
pub same_denominators : (x y b d : ℕ) → 0 < b → 0 < d → IsGcd x b 1 → IsGcd y d 1 → x * d ≡ y * b → b ≡ d
same_denominators x y b d p q h k e = dvd_antisymm (divides_factor x y b d q h e) (divides_factor y x d b p k (sym e))
