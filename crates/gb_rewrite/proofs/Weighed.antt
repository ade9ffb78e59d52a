-- Sums and differences of probabilities over one denominator.
use Rattle.std.proofs.Common.{◌≡◌, ℕ, ◌+◌, ◌*◌, pos, ◌-ℤ◌, ap, arith}
use Rattle.std.proofs.lemmas.Int.{ints}
use borrow.Author.Differences.{up, down}
use Rattle.gb_meaning.specs.Fractions.{plus, minus}
use Rattle.gb_smt_laws.proofs.Fractions.{Same}

difference : (x y : ℕ) → up (pos x -ℤ pos y) + y ≡ down (pos x -ℤ pos y) + x
difference x y = omega (arith, ints)

-- of natural numbers

three : (p q a b c d k : ℕ) → p + c * (k * k) ≡ q + (a * k + b * k) * k → d + c ≡ a + b → p * k + 0 * (k * k * k) ≡ d * (k * k * k) + q * k
three p q a b c d k e h = omega (arith, ap (λ z. z * k) e, ap (λ z. z * (k * k * k)) h)

from_one : (p q a d k : ℕ) → p + a * 1 ≡ q + 1 * k → a + d ≡ k → p * k + 0 * (1 * k) ≡ d * (1 * k) + q * k
from_one p q a d k e h = omega (arith, ap (λ z. z * k) e, ap (λ z. z * k) h)

from_all : (p q t a d k : ℕ) → p + a * k ≡ q + t * k → a + d ≡ t → p * k + 0 * (k * k) ≡ d * (k * k) + q * k
from_all p q t a d k e h = omega (arith, ap (λ z. z * k) e, ap (λ z. z * (k * k)) h)

two : (a b d k : ℕ) → a + b ≡ d → (a * k + b * k) * k + 0 * (k * k) ≡ d * (k * k) + 0 * k
two a b d k h = omega (arith, ap (λ z. z * (k * k)) h)

-- a disjunction: what both weigh, without what they weigh together
pub of_either : (a b c d k : ℕ) → d + c ≡ a + b → Same (minus (plus (pos a, k) (pos b, k)) (pos c, k)) (pos d, k)
of_either a b c d k h =
    let x = (a * k + b * k) * k in
    let y = c * (k * k) in
    three (up (pos x -ℤ pos y)) (down (pos x -ℤ pos y)) a b c d k (difference x y) h

-- what is left of 1, and of what all weigh
pub left_of_one : (a d k : ℕ) → a + d ≡ k → Same (minus (pos 1, 1) (pos a, k)) (pos d, k)
left_of_one a d k h = from_one (up (pos (1 * k) -ℤ pos (a * 1))) (down (pos (1 * k) -ℤ pos (a * 1))) a d k (difference (1 * k) (a * 1)) h

pub left_of_all : (t a d k : ℕ) → a + d ≡ t → Same (minus (pos t, k) (pos a, k)) (pos d, k)
left_of_all t a d k h = from_all (up (pos (t * k) -ℤ pos (a * k))) (down (pos (t * k) -ℤ pos (a * k))) t a d k (difference (t * k) (a * k)) h

-- nothing
pub of_nothing : (d k : ℕ) → d ≡ 0 → Same (pos 0, 1) (pos d, k)
of_nothing d k h = omega (arith, h)

-- two parts
pub of_parts : (a b d k : ℕ) → a + b ≡ d → Same (plus (pos a, k) (pos b, k)) (pos d, k)
of_parts a b d k h = two a b d k h
