-- Weighted lists that agree entry by entry are coupled, and what a coupling says of events that are the same on related outcomes.
use Rattle.std.proofs.Common.{◌≡◌, ℕ, ◌+◌, ◌*◌, ◌<◌, Bool, true, false, not, pos, [], ◌∷◌, refl, ap, sym, ◌∙◌, arith}
use Rattle.std.proofs.lemmas.Bool.{false≢true}
use Rattle.std.proofs.Math.Nat.{eq_of_mul-eq-mul_right}
use Rattle.gb_terms.specs.declared.op.Rel.{Rel}
use Rattle.gb_dist.specs.WeightedList.{WeightedList, mass, weight, bit, scale, On, Every, IsPositive}
use Rattle.gb_dist.specs.Coupling.{Coupling}
use Rattle.gb_dist.proofs.Entries.{Every-weaken}
use Rattle.gb_dist.proofs.CoupledEvents.{coupled_event}
use Rattle.gb_dist.proofs.Masses.{mass-scale}
use Rattle.gb_dist.proofs.Weights.{weight-every, weight-false}
use Rattle.gb_meaning.specs.Fractions.{Fraction}
use Rattle.gb_meaning.specs.Judgments.{compares, chance}
use Rattle.gb_meaning.specs.Memory.{Memory}
use Rattle.gb_laws.specs.Pairs.{Zip}
use Rattle.gb_typing.proofs.Chances.{chance_scaled}
use Rattle.gb_prog.proofs.Loops.{weightless}

module _ {A B : Type 0} (R : A → B → Type 0) where
  abbrev pairs : WeightedList A → WeightedList B → WeightedList (A × B)
  pairs [] r = []
  pairs (e ∷ l) [] = []
  pairs (e ∷ l) (f ∷ r) = ((e.0, f.0), e.1) ∷ pairs l r

  lefts : (l : WeightedList A) (r : WeightedList B) → Zip R l r → (h : A → ℕ) → mass (pairs l r) (λ p. h p.0) ≡ mass l h
  lefts [] r z h = refl
  lefts (e ∷ l) [] z h = absurd z
  lefts (e ∷ l) (f ∷ r) z h = ap (λ n. e.1 * h e.0 + n) (lefts l r z.2 h)

  rights : (l : WeightedList A) (r : WeightedList B) → Zip R l r → (h : B → ℕ) → mass (pairs l r) (λ p. h p.1) ≡ mass r h
  rights [] [] z h = refl
  rights [] (f ∷ r) z h = absurd z
  rights (e ∷ l) [] z h = refl
  rights (e ∷ l) (f ∷ r) z h = let a = z.0 in let b = rights l r z.2 h in λ i. a i * h f.0 + b i

  all_related : (l : WeightedList A) (r : WeightedList B) → Zip R l r → IsPositive l → On (λ p. R p.0 p.1) (pairs l r)
  all_related [] r z p = tt
  all_related (e ∷ l) [] z p = absurd z
  all_related (e ∷ l) (f ∷ r) z p = (p.0, z.1, all_related l r z.2 p.2)

  pub zip_coupled : (l : WeightedList A) (r : WeightedList B) (k : ℕ) → 0 < k → IsPositive l → Zip R l r → Coupling R l k r k
  zip_coupled l r k h p z = record {
    denominator = k;
    positive = h;
    pairs = pairs l r;
    related = all_related l r z p;
    left = λ f. ap (λ n. n * k) (lefts l r z f);
    right = λ f. ap (λ n. n * k) (rights l r z f);
  }

module _ (R : Memory → Memory → Type 0) (l : WeightedList Memory) (j : ℕ) (r : WeightedList Memory) (k : ℕ) (p : 0 < j) (q : 0 < k) (c : Coupling R l j r k)
    (event : Memory → Bool) (same : (x y : Memory) → R x y → event x ≡ event y) where
  -- an event that always occurs
  pub coupled_ends : IsPositive r → Every (λ n. event n ≡ true) l → Every (λ n. event n ≡ true) r
  coupled_ends o x = Every-weaken {P = λ n. not (event n) ≡ false} r (λ n e. truth_of (event n) e) (weightless r (λ n. not (event n)) o none)
    where
      truth_of : (t : Bool) → not t ≡ false → t ≡ true
      truth_of true e = refl
      truth_of false e = absurd (false≢true (sym e))

      first : weight l (λ n. not (event n)) ≡ 0
      first = weight-every l (λ n. not (event n)) (λ n. false) (Every-weaken {P = λ n. event n ≡ true} l (λ n e. ap not e) x) ∙ weight-false l

      both : weight l (λ n. not (event n)) * k ≡ weight r (λ n. not (event n)) * j
      both = coupled_event c (λ n. not (event n)) (λ n. not (event n)) (λ x y e. ap not (same x y e))

      none : weight r (λ n. not (event n)) ≡ 0
      none = eq_of_mul-eq-mul_right j p _ _ (omega (arith, both, ap (λ z. z * k) first))

  -- its chance
  pub coupled_chances : (o : Rel) (b : Fraction) → compares o (chance l j event) b ≡ compares o (chance r k event) b
  coupled_chances o b = sym (chance_scaled k q l j event o b) ∙ (λ i. compares o (pos (weights i), turned i) b) ∙ chance_scaled j p r k event o b
    where
      turned : k * j ≡ j * k
      turned = omega arith

      weights : weight (scale k l) event ≡ weight (scale j r) event
      weights = omega (arith, mass-scale k l (λ a. bit (event a)), mass-scale j r (λ a. bit (event a)), coupled_event c event event same)
