-- Weighted lists that agree entry by entry are coupled.
use Rattle.std.proofs.Common.{◌≡◌, ℕ, ◌*◌, ◌+◌, ◌<◌, [], ◌∷◌, refl, ap}
use Rattle.gb_dist.specs.WeightedList.{WeightedList, IsPositive, On, mass}
use Rattle.gb_dist.specs.Coupling.{Coupling}
use Rattle.gb_laws.specs.Pairs.{Zip}

module _ {A B : Type 0} (R : A → B → Type 0) where
  abbrev paired : (l : WeightedList A) (r : WeightedList B) → Zip R l r → WeightedList (A × B)
  paired [] [] z = []
  paired [] (f ∷ r) z = absurd z
  paired (e ∷ l) [] z = absurd z
  paired (e ∷ l) (f ∷ r) z = ((e.0, f.0), e.1) ∷ paired l r z.2

  paired_related : (l : WeightedList A) (r : WeightedList B) (z : Zip R l r) → IsPositive l → On (λ p. R p.0 p.1) (paired l r z)
  paired_related [] [] z h = tt
  paired_related [] (f ∷ r) z h = absurd z
  paired_related (e ∷ l) [] z h = absurd z
  paired_related (e ∷ l) (f ∷ r) z h = (h.0, z.1, paired_related l r z.2 h.2)

  paired_left : (l : WeightedList A) (r : WeightedList B) (z : Zip R l r) (f : A → ℕ) → mass (paired l r z) (λ p. f p.0) ≡ mass l f
  paired_left [] [] z f = refl
  paired_left [] (b ∷ r) z f = absurd z
  paired_left (a ∷ l) [] z f = absurd z
  paired_left (a ∷ l) (b ∷ r) z f = ap (λ n. a.1 * f a.0 + n) (paired_left l r z.2 f)

  paired_right : (l : WeightedList A) (r : WeightedList B) (z : Zip R l r) (f : B → ℕ) → mass (paired l r z) (λ p. f p.1) ≡ mass r f
  paired_right [] [] z f = refl
  paired_right [] (b ∷ r) z f = absurd z
  paired_right (a ∷ l) [] z f = absurd z
  paired_right (a ∷ l) (b ∷ r) z f = let rest = paired_right l r z.2 f in λ i. z.0 i * f b.0 + rest i

  pub zip_coupled : (l : WeightedList A) (r : WeightedList B) (k : ℕ) → 0 < k → IsPositive l → Zip R l r → Coupling R l k r k
  zip_coupled l r k p h z = record {
    denominator = k;
    positive = p;
    pairs = paired l r z;
    related = paired_related l r z h;
    left = λ f. ap (λ n. n * k) (paired_left l r z f);
    right = λ f. ap (λ n. n * k) (paired_right l r z f);
  }
