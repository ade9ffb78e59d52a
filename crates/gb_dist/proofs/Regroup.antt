-- A sum over one list as a sum over another whose outcomes have the same keys. What stands at a key is spread over the entries there; the
-- factorial of the total is a number that the weight at each key divides.
use Rattle.std.proofs.Common.{◌≡◌, ℕ, zero, suc, ◌*◌, ◌<◌, ◌≤◌, ap, sym, ◌∙◌, arith}
use Rattle.std.proofs.Math.Nat.{mul-pos}
use native.Mathlib.Decide.{ℕ_discrete}
use Rattle.gb_dist.specs.WeightedList.{WeightedList, mass, total, indicator, On, IsPositive}
use Rattle.gb_dist.proofs.Masses.{mass-times, mass-same, mass-on, mass-swap, mass-le}
use Rattle.gb_dist.proofs.Indicators.{indicator-le_one, indicator_move}

abbrev pub factorial : ℕ → ℕ
factorial zero = 1
factorial (suc n) = suc n * factorial n

-- the factorial of n over m, where m is from 1 to n
abbrev pub quotient : ℕ → ℕ → ℕ
quotient zero m = 1
quotient (suc n) m = elim (ℕ_discrete m (suc n)) [ yes p ↦ factorial n | no q ↦ suc n * quotient n m ]

pub factorial_pos : (n : ℕ) → 0 < factorial n
factorial_pos zero = omega arith
factorial_pos (suc n) = mul-pos {m = suc n} (omega arith) (factorial_pos n)

pub quotient_pos : (n m : ℕ) → 0 < quotient n m
quotient_pos zero m = omega arith
quotient_pos (suc n) m = elim (ℕ_discrete m (suc n)) as (λ v. 0 < elim v [ yes p ↦ factorial n | no q ↦ suc n * quotient n m ])
    [ yes p ↦ factorial_pos n | no q ↦ mul-pos {m = suc n} (omega arith) (quotient_pos n m) ]

pub quotient-mul : (n m : ℕ) → 0 < m → m ≤ n → quotient n m * m ≡ factorial n
quotient-mul zero m h l = absurd (omega arith)
quotient-mul (suc n) m h l =
    elim (ℕ_discrete m (suc n)) as (λ v. (elim v [ yes p ↦ factorial n | no q ↦ suc n * quotient n m ]) * m ≡ suc n * factorial n) [
      | yes p ↦ omega (arith, ap (λ x. factorial n * x) p)
      | no q ↦ omega (arith, ap (λ x. suc n * x) (quotient-mul n m h (below q)))
    ]
  where
    below : ¬ (m ≡ suc n) → m ≤ n
    below q = omega arith

module _ {B C : Type 0} (d : Discrete B) (s : WeightedList C) (positive : IsPositive s) (key : C → B) where
  -- the weight of s at a key
  abbrev pub weight_at_key : B → ℕ
  weight_at_key y = mass s (λ c. indicator d y (key c))

  -- the factor that makes it the factorial of the total
  abbrev pub factor : B → ℕ
  factor y = quotient (total s) (weight_at_key y)

  pub factor-mul : (y : B) → 0 < weight_at_key y → factor y * weight_at_key y ≡ factorial (total s)
  factor-mul y h =
      quotient-mul (total s) (weight_at_key y) h (mass-le s (λ c. indicator d y (key c)) (λ c. 1) positive (λ c p. indicator-le_one d y (key c)))

  pub regroup : {A : Type 0} (l : WeightedList A) (name : A → B) (f : A → ℕ) → On (λ a. 0 < weight_at_key (name a)) l →
      mass s (λ c. factor (key c) * mass l (λ a. indicator d (key c) (name a) * f a)) ≡ factorial (total s) * mass l f
  regroup {A} l name f o =
      mass-same s _ _ (λ c. sym (mass-times (factor (key c)) l (λ a. indicator d (key c) (name a) * f a)))
      ∙ sym (mass-swap l s (λ a c. factor (key c) * (indicator d (key c) (name a) * f a)))
      ∙ mass-same l _ _ (λ a. mass-same s _ _ (moved a) ∙ mass-times (factor (name a) * f a) s (λ c. indicator d (name a) (key c)))
      ∙ mass-on {P = λ a. 0 < weight_at_key (name a)} l (λ a. factor (name a) * f a * weight_at_key (name a)) (λ a. factorial (total s) * f a) o
      (λ a h. omega (arith, ap (λ z. z * f a) (factor-mul (name a) h)))
      ∙ mass-times (factorial (total s)) l f
    where
      moved : (a : A) (c : C) → factor (key c) * (indicator d (key c) (name a) * f a) ≡ factor (name a) * f a * indicator d (name a) (key c)
      moved a c = omega (arith, ap (λ z. z * f a) (indicator_move d factor (key c) (name a)))
