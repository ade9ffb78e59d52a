-- Sums over weighted lists.
use Rattle.std.proofs.Common.{◌≡◌, ℕ, ◌+◌, ◌*◌, ◌≤◌, [], ◌∷◌, ◌++◌, refl, ap, sym, ◌∙◌, arith}
use Rattle.std.proofs.Math.Path.{fun_ext}
use Rattle.std.proofs.Math.Nat.{mul-le-mul_left}
use Rattle.gb_dist.specs.WeightedList.{WeightedList, mass, total, scale, bind, dmap, On, Every}
use Rattle.gb_dist.proofs.Entries.{Every_of_On}

pub mass-append : {A : Type 0} (l r : WeightedList A) (f : A → ℕ) → mass (l ++ r) f ≡ mass l f + mass r f
mass-append [] r f = omega arith
mass-append (e ∷ l) r f = omega (arith, mass-append l r f)

pub mass-scale : {A : Type 0} (c : ℕ) (l : WeightedList A) (f : A → ℕ) → mass (scale c l) f ≡ c * mass l f
mass-scale c [] f = omega arith
mass-scale c (e ∷ l) f = omega (arith, mass-scale c l f)

pub mass-bind : {A B : Type 0} (l : WeightedList A) (k : A → WeightedList B) (f : B → ℕ) →
    mass (bind l k) f ≡ mass l (λ a. mass (k a) f)
mass-bind [] k f = refl
mass-bind (e ∷ l) k f =
    omega (arith, mass-append (scale e.1 (k e.0)) (bind l k) f, mass-scale e.1 (k e.0) f, mass-bind l k f)

pub mass-dmap : {A B : Type 0} (g : A → B) (l : WeightedList A) (f : B → ℕ) → mass (dmap g l) f ≡ mass l (λ a. f (g a))
mass-dmap g [] f = refl
mass-dmap g (e ∷ l) f = omega (arith, mass-dmap g l f)

-- a constant factor
pub mass-times : {A : Type 0} (c : ℕ) (l : WeightedList A) (f : A → ℕ) → mass l (λ a. c * f a) ≡ c * mass l f
mass-times c [] f = omega arith
mass-times c (e ∷ l) f = omega (arith, mass-times c l f)

pub mass-plus : {A : Type 0} (l : WeightedList A) (f g : A → ℕ) → mass l (λ a. f a + g a) ≡ mass l f + mass l g
mass-plus [] f g = refl
mass-plus (e ∷ l) f g = omega (arith, mass-plus l f g)

pub mass-constant : {A : Type 0} (l : WeightedList A) (c : ℕ) → mass l (λ a. c) ≡ total l * c
mass-constant [] c = omega arith
mass-constant (e ∷ l) c = omega (arith, mass-constant l c)

-- functions that are equal everywhere
pub mass-same : {A : Type 0} (l : WeightedList A) (f g : A → ℕ) → ((a : A) → f a ≡ g a) → mass l f ≡ mass l g
mass-same l f g h = ap (mass l) (fun_ext h)

-- functions that are equal on the outcomes
pub mass-every : {A : Type 0} {P : A → Type 0} (l : WeightedList A) (f g : A → ℕ) → Every P l → ((a : A) → P a → f a ≡ g a) →
    mass l f ≡ mass l g
mass-every [] f g o h = refl
mass-every (e ∷ l) f g o h = omega (arith, ap (λ x. e.1 * x) (h e.0 o.0), mass-every l f g o.1 h)

pub mass-on : {A : Type 0} {P : A → Type 0} (l : WeightedList A) (f g : A → ℕ) → On P l → ((a : A) → P a → f a ≡ g a) →
    mass l f ≡ mass l g
mass-on {P = P} l f g o h = mass-every {P = P} l f g (Every_of_On P l o) h

-- functions in order on the outcomes
pub mass-le_every : {A : Type 0} {P : A → Type 0} (l : WeightedList A) (f g : A → ℕ) → Every P l → ((a : A) → P a → f a ≤ g a) →
    mass l f ≤ mass l g
mass-le_every [] f g o h = omega arith
mass-le_every (e ∷ l) f g o h = omega (arith, mul-le-mul_left e.1 (h e.0 o.0), mass-le_every l f g o.1 h)

pub mass-le : {A : Type 0} {P : A → Type 0} (l : WeightedList A) (f g : A → ℕ) → On P l → ((a : A) → P a → f a ≤ g a) →
    mass l f ≤ mass l g
mass-le {P = P} l f g o h = mass-le_every {P = P} l f g (Every_of_On P l o) h

-- a function that is 0 on the entries
pub mass-zero : {A : Type 0} {P : A → Type 0} (l : WeightedList A) (f : A → ℕ) → On P l → ((a : A) → P a → f a ≡ 0) → mass l f ≡ 0
mass-zero [] f o h = refl
mass-zero (e ∷ l) f o h = omega (arith, ap (λ x. e.1 * x) (h e.0 o.1), mass-zero l f o.2 h)

-- a list of total 0
pub mass-none : {A : Type 0} (l : WeightedList A) (f : A → ℕ) → total l ≡ 0 → mass l f ≡ 0
mass-none [] f h = refl
mass-none (e ∷ l) f h = omega (arith, ap (λ z. z * f e.0) first, mass-none l f (omega arith))
  where
    first : e.1 ≡ 0
    first = omega arith

-- two sums in the other order
pub mass-swap : {A B : Type 0} (l : WeightedList A) (r : WeightedList B) (f : A → B → ℕ) →
    mass l (λ a. mass r (λ b. f a b)) ≡ mass r (λ b. mass l (λ a. f a b))
mass-swap [] r f = sym (zeros r)
  where
    zeros : {B : Type 0} (r : WeightedList B) → mass r (λ b. 0) ≡ 0
    zeros [] = refl
    zeros (e ∷ r) = omega (arith, zeros r)
mass-swap (e ∷ l) r f =
    omega (arith, mass-swap l r f, mass-plus r (λ b. e.1 * f e.0 b) (λ b. mass l (λ a. f a b)), mass-times e.1 r (f e.0))

-- the total of a bind whose parts have one total
pub total-bind : {A B : Type 0} (l : WeightedList A) (k : A → WeightedList B) (c : ℕ) → ((a : A) → total (k a) ≡ c) →
    total (bind l k) ≡ total l * c
total-bind l k c h = mass-bind l k (λ b. 1) ∙ mass-same l _ _ h ∙ mass-constant l c

-- a bind whose parts have bounds in the outcomes that they follow
pub mass-bind_le : {A B : Type 0} {P : A → Type 0} (l : WeightedList A) (k : A → WeightedList B) (f : B → ℕ) (n : A → ℕ) (d : ℕ) →
    Every P l → ((a : A) → P a → mass (k a) f * d ≤ n a) → mass (bind l k) f * d ≤ mass l n
mass-bind_le {P = P} l k f n d o h =
    omega (
      arith,
      ap (λ z. d * z) (mass-bind l k f),
      mass-times d l (λ a. mass (k a) f),
      mass-le_every {P = P} l (λ a. d * mass (k a) f) n o (λ a p. omega (arith, h a p)),
    )

pub mass-bind_ge : {A B : Type 0} {P : A → Type 0} (l : WeightedList A) (k : A → WeightedList B) (f : B → ℕ) (n : A → ℕ) (d : ℕ) →
    Every P l → ((a : A) → P a → n a ≤ mass (k a) f * d) → mass l n ≤ mass (bind l k) f * d
mass-bind_ge {P = P} l k f n d o h =
    omega (
      arith,
      ap (λ z. d * z) (mass-bind l k f),
      mass-times d l (λ a. mass (k a) f),
      mass-le_every {P = P} l n (λ a. d * mass (k a) f) o (λ a p. omega (arith, h a p)),
    )

pub mass-bind_every : {A B : Type 0} {P : A → Type 0} (l : WeightedList A) (k : A → WeightedList B) (f : B → ℕ) (n : A → ℕ) (d : ℕ) →
    Every P l → ((a : A) → P a → mass (k a) f * d ≡ n a) → mass (bind l k) f * d ≡ mass l n
mass-bind_every {P = P} l k f n d o h =
    omega (
      arith,
      ap (λ z. d * z) (mass-bind l k f),
      mass-times d l (λ a. mass (k a) f),
      mass-every {P = P} l (λ a. d * mass (k a) f) n o (λ a p. omega (arith, h a p)),
    )
