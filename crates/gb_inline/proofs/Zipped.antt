-- Weighted lists that agree entry by entry are coupled.
use Rattle.std.proofs.Common.{◌≡◌, ℕ, ◌+◌, ◌*◌, ◌<◌, [], ◌∷◌, refl, ap}
use Rattle.gb_dist.specs.WeightedList.{WeightedList, mass, On, IsPositive}
use Rattle.gb_dist.specs.Coupling.{Coupling}
use Rattle.gb_laws.proofs.Zips.{Zip}

module _ {A B : Type 0} (R : A → B → Type 0) where
  abbrev pairs : WeightedList A → WeightedList B → WeightedList (A × B)
  pairs [] r = []
  pairs (e ∷ l) [] = []
  pairs (e ∷ l) (f ∷ r) = ((e.0, f.0), e.1) ∷ pairs l r

  lefts : (l : WeightedList A) (r : WeightedList B) → Zip R l r → (h : A → ℕ) → mass (pairs l r) (λ p. h p.0) ≡ mass l h
  lefts [] r z h = refl
  lefts (e ∷ l) [] z h = absurd z
  lefts (e ∷ l) (f ∷ r) z h = ap (λ n. e.1 * h e.0 + n) (lefts l r z.2 h)

  rights : (l : WeightedList A) (r : WeightedList B) → Zip R l r → (h : B → ℕ) → mass (pairs l r) (λ p. h p.1) ≡ mass r h
  rights [] [] z h = refl
  rights [] (f ∷ r) z h = absurd z
  rights (e ∷ l) [] z h = absurd z
  rights (e ∷ l) (f ∷ r) z h = let a = z.0 in let b = rights l r z.2 h in λ i. a i * h f.0 + b i

  related : (l : WeightedList A) (r : WeightedList B) → Zip R l r → IsPositive l → On (λ p. R p.0 p.1) (pairs l r)
  related [] r z p = tt
  related (e ∷ l) [] z p = absurd z
  related (e ∷ l) (f ∷ r) z p = (p.0, z.1, related l r z.2 p.2)

  pub zip_coupled : (l : WeightedList A) (r : WeightedList B) (k : ℕ) → 0 < k → IsPositive l → Zip R l r → Coupling R l k r k
  zip_coupled l r k h p z = record {
    denominator = k;
    positive = h;
    pairs = pairs l r;
    related = related l r z p;
    left = λ f. ap (λ n. n * k) (lefts l r z f);
    right = λ f. ap (λ n. n * k) (rights l r z f);
  }
