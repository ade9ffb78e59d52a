-- Lists that are one distribution.
use Rattle.std.proofs.Common.{◌≡◌, ℕ, ◌*◌, ◌<◌, refl, ap, sym, ◌∙◌, arith}
use Rattle.std.proofs.Math.Nat.{eq_of_mul-eq-mul_right}
use Rattle.gb_dist.specs.WeightedList.{WeightedList, mass, weight_at, scale, bind, IsPositive, SameDistribution}
use Rattle.gb_dist.specs.Coupling.{Coupling}
use Rattle.gb_dist.proofs.Masses.{mass-scale, mass-bind, mass-times, mass-same, mass-swap}
use Rattle.gb_dist.proofs.Pointwise.{mass_of_weights}
use Rattle.gb_dist.proofs.Basic.{coupling_identity, coupling_weakening, coupling_same}
use Rattle.gb_dist.proofs.CoupledEvents.{coupled_masses}

pub same_reflexive : {A : Type 0} (l : WeightedList A) (k : ℕ) → SameDistribution l k l k
same_reflexive l k f = refl

pub same_symmetric : {A : Type 0} (l1 : WeightedList A) (k1 : ℕ) (l2 : WeightedList A) (k2 : ℕ) →
    SameDistribution l1 k1 l2 k2 → SameDistribution l2 k2 l1 k1
same_symmetric l1 k1 l2 k2 e f = sym (e f)

pub same_transitive : {A : Type 0} (l1 : WeightedList A) (k1 : ℕ) (l2 : WeightedList A) (k2 : ℕ) (l3 : WeightedList A) (k3 : ℕ) → 0 < k2 →
    SameDistribution l1 k1 l2 k2 → SameDistribution l2 k2 l3 k3 → SameDistribution l1 k1 l3 k3
same_transitive l1 k1 l2 k2 l3 k3 h e d f =
    eq_of_mul-eq-mul_right k2 h _ _ (omega (arith, ap (λ z. z * k3) (e f), ap (λ z. z * k1) (d f)))

pub same_scale : {A : Type 0} (c : ℕ) (l : WeightedList A) (k : ℕ) → SameDistribution (scale c l) (c * k) l k
same_scale c l k f = omega (arith, ap (λ z. z * k) (mass-scale c l f))

pub same_bind : {A B : Type 0} (l1 : WeightedList A) (j1 : ℕ) (l2 : WeightedList A) (j2 : ℕ)
    (m1 : A → WeightedList B) (k1 : ℕ) (m2 : A → WeightedList B) (k2 : ℕ) → SameDistribution l1 j1 l2 j2 →
    ((a : A) → SameDistribution (m1 a) k1 (m2 a) k2) → SameDistribution (bind l1 m1) (j1 * k1) (bind l2 m2) (j2 * k2)
same_bind l1 j1 l2 j2 m1 k1 m2 k2 e d f =
    omega (
      arith,
      ap (λ z. z * (j2 * k2)) (mass-bind l1 m1 f),
      ap (λ z. z * (j1 * k1)) (mass-bind l2 m2 f),
      ap (λ z. z * j2) parts,
      ap (λ z. k1 * z) (e (λ a. mass (m2 a) f)),
    )
  where
    parts : k2 * mass l1 (λ a. mass (m1 a) f) ≡ k1 * mass l1 (λ a. mass (m2 a) f)
    parts =
        sym (mass-times k2 l1 (λ a. mass (m1 a) f))
        ∙ mass-same l1 (λ a. k2 * mass (m1 a) f) (λ a. k1 * mass (m2 a) f) (λ a. omega (arith, d a f))
        ∙ mass-times k1 l1 (λ a. mass (m2 a) f)

-- lists that are drawn in the other order
pub same_order : {A B C : Type 0} (l : WeightedList A) (r : WeightedList B) (h : A → B → WeightedList C) (k : ℕ) →
    SameDistribution (bind l (λ a. bind r (λ b. h a b))) k (bind r (λ b. bind l (λ a. h a b))) k
same_order {C} l r h k f = ap (λ z. z * k) (there ∙ mass-swap l r (λ a b. mass (h a b) f) ∙ sym back)
  where
    there : mass (bind l (λ a. bind r (λ b. h a b))) f ≡ mass l (λ a. mass r (λ b. mass (h a b) f))
    there = mass-bind l (λ a. bind r (λ b. h a b)) f ∙ mass-same l _ _ (λ a. mass-bind r (λ b. h a b) f)

    back : mass (bind r (λ b. bind l (λ a. h a b))) f ≡ mass r (λ b. mass l (λ a. mass (h a b) f))
    back = mass-bind r (λ b. bind l (λ a. h a b)) f ∙ mass-same r _ _ (λ b. mass-bind l (λ a. h a b) f)

pub same_of_weights : {A : Type 0} (d : Discrete A) (l1 : WeightedList A) (k1 : ℕ) (l2 : WeightedList A) (k2 : ℕ) →
    ((x : A) → weight_at d l1 x * k2 ≡ weight_at d l2 x * k1) → SameDistribution l1 k1 l2 k2
same_of_weights d l1 k1 l2 k2 h f = mass_of_weights d k2 k1 f l1 l2 h

pub same_of_equality : {A : Type 0} {l1 : WeightedList A} {k1 : ℕ} {l2 : WeightedList A} {k2 : ℕ} →
    Coupling (λ (a b : A). a ≡ b) l1 k1 l2 k2 →
    SameDistribution l1 k1 l2 k2
same_of_equality c f = coupled_masses c f f (λ a b e. ap f e)

pub coupling_equality : {A : Type 0} (l1 : WeightedList A) (k1 : ℕ) (l2 : WeightedList A) (k2 : ℕ) → 0 < k1 → IsPositive l1 →
    SameDistribution l1 k1 l2 k2 → Coupling (λ (a b : A). a ≡ b) l1 k1 l2 k2
coupling_equality {A} l1 k1 l2 k2 h o e =
    coupling_same {l1 = l1} {k1 = k1} {l2 = l1} {k2 = k1} l1 k1 l2 k2 h h (same_reflexive l1 k1) e
    (coupling_weakening {Q = λ (a b : A). Unit {0} × (a ≡ b)} {R = λ a b. a ≡ b} (λ a b q. q.1) (coupling_identity (λ a. Unit {0}) l1 k1 h o))
