-- Parts of a weighted list: one unit of weight, and what is inside and outside an event.
use Rattle.std.proofs.Common.{◌≡◌, ℕ, zero, suc, ◌+◌, ◌*◌, ◌<◌, Bool, true, false, not, ◌&&◌, ◌||◌, [], ◌∷◌, refl, ap, arith}
use Rattle.gb_dist.specs.WeightedList.{WeightedList, mass, total, bit, weight}

-- a list with one unit less, at an outcome where f is positive
pub record UnitTaken {A : Type 0} (l : WeightedList A) (f : A → ℕ) : Type 0 where
  pub outcome : A
  pub rest : WeightedList A
  pub positive : 0 < f outcome
  pub less : (g : A → ℕ) → mass l g ≡ g outcome + mass rest g

take_later : {A : Type 0} (e : A × ℕ) (l : WeightedList A) (f : A → ℕ) → UnitTaken l f → UnitTaken (e ∷ l) f
take_later e l f t = record { outcome = t.outcome; rest = e ∷ t.rest; positive = t.positive; less = λ g. omega (arith, t.less g) }

pub take_unit : {A : Type 0} (l : WeightedList A) (f : A → ℕ) → 0 < mass l f → UnitTaken l f
take_unit [] f h = absurd (omega arith)
take_unit ((x, zero) ∷ l) f h = take_later (x, 0) l f (take_unit l f (omega arith))
take_unit ((x, suc w) ∷ l) f h = go (f x) refl (take_unit l f)
  where
    go : (v : ℕ) → f x ≡ v → (0 < mass l f → UnitTaken l f) → UnitTaken ((x, suc w) ∷ l) f
    go zero e later = take_later (x, suc w) l f (later (omega (arith, ap (λ z. suc w * z) e)))
    go (suc v) e later = record { outcome = x; rest = (x, w) ∷ l; positive = omega arith; less = λ g. omega arith }

-- the part of a list inside an event
pub inside : {A : Type 0} → (A → Bool) → WeightedList A → WeightedList A
inside s [] = []
inside s (e ∷ l) = (e.0, e.1 * bit (s e.0)) ∷ inside s l

-- the part outside
abbrev pub outside : {A : Type 0} → (A → Bool) → WeightedList A → WeightedList A
outside s l = inside (λ x. not (s x)) l

pub total-inside : {A : Type 0} (s : A → Bool) (l : WeightedList A) → total (inside s l) ≡ weight l s
unfolding inside
total-inside s [] = refl
total-inside s (e ∷ l) = omega (arith, total-inside s l)

pub mass-split : {A : Type 0} (s : A → Bool) (l : WeightedList A) (f : A → ℕ) →
    mass l f ≡ mass (inside s l) f + mass (outside s l) f
unfolding inside
mass-split s [] f = refl
mass-split s (e ∷ l) f = omega (arith, at (s e.0) e.1 (f e.0), mass-split s l f)
  where
    at : (v : Bool) (w y : ℕ) → w * y ≡ w * bit v * y + w * bit (not v) * y
    at true w y = omega arith
    at false w y = omega arith

pub weight-inside : {A : Type 0} (s t : A → Bool) (l : WeightedList A) → weight (inside s l) t ≡ weight l (λ x. s x && t x)
unfolding inside
weight-inside s t [] = refl
weight-inside s t (e ∷ l) = omega (arith, at (s e.0) (t e.0) e.1, weight-inside s t l)
  where
    at : (u v : Bool) (w : ℕ) → w * bit u * bit v ≡ w * bit (u && v)
    at true v w = omega arith
    at false v w = omega arith

pub weight-outside : {A : Type 0} (s t : A → Bool) (l : WeightedList A) →
    weight (outside s l) t + weight l s ≡ weight l (λ x. s x || t x)
unfolding inside
weight-outside s t [] = refl
weight-outside s t (e ∷ l) = omega (arith, at (s e.0) (t e.0) e.1, weight-outside s t l)
  where
    at : (u v : Bool) (w : ℕ) → w * bit (not u) * bit v + w * bit u ≡ w * bit (u || v)
    at true v w = omega arith
    at false v w = omega arith
