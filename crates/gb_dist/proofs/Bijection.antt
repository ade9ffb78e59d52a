-- Couplings along a bijection of supports.
use Rattle.std.proofs.Common.{◌≡◌, ℕ, zero, suc, ◌*◌, ◌<◌, ◌⊎◌, inl, inr, refl, ap, sym, ◌∙◌, subst, arith}
use Rattle.gb_dist.specs.WeightedList.{WeightedList, mass, dmap, indicator, weight_at, IsInSupport, On, IsPositive}
use Rattle.gb_dist.specs.Coupling.{Coupling}
use Rattle.gb_dist.proofs.Masses.{mass-dmap, mass-on, mass-zero}
use Rattle.gb_dist.proofs.Entries.{On-weaken, On-dmap}
use Rattle.gb_dist.proofs.Indicators.{indicator_cases, indicator_same, On-support}
use Rattle.gb_dist.proofs.Pointwise.{mass_of_keys}

-- f and g are inverse on the supports and keep probabilities; the denominators may differ
pub coupling_bijection : {A B : Type 0} (da : Discrete A) (db : Discrete B) (f : A → B) (g : B → A)
    (l1 : WeightedList A) (k1 : ℕ) (l2 : WeightedList B) (k2 : ℕ) → 0 < k1 → IsPositive l1 →
    ((b : B) → IsInSupport db l2 b → b ≡ f (g b)) →
    ((b : B) → IsInSupport db l2 b → weight_at db l2 b * k1 ≡ weight_at da l1 (g b) * k2) →
    ((a : A) → IsInSupport da l1 a → IsInSupport db l2 (f a)) →
    ((a : A) → IsInSupport da l1 a → a ≡ g (f a)) →
    Coupling (λ a b. IsInSupport da l1 a × (b ≡ f a)) l1 k1 l2 k2
coupling_bijection {A} {B} da db f g l1 k1 l2 k2 h o back weights there inverse = record {
  denominator = k1;
  positive = h;
  pairs = dmap graph l1;
  related = On-dmap {P = IsInSupport da l1} (λ p. IsInSupport da l1 p.0 × (p.1 ≡ f p.0)) graph l1 (λ a i. (i, refl)) own;
  left = λ u. ap (λ z. z * k1) (mass-dmap graph l1 (λ p. u p.0));
  right = λ u. ap (λ z. z * k2) (mass-dmap graph l1 (λ p. u p.1)) ∙ mass_of_keys db k2 k1 l1 f l2 (λ b. at b (weight_at db l2 b) refl) u;
}
  where
    graph : A → A × B
    graph a = (a, f a)

    own : On (IsInSupport da l1) l1
    own =
        On-weaken {P = λ a. Unit {0} × IsInSupport da l1 a} {Q = IsInSupport da l1} l1 (λ a p. p.1) (On-support da (λ a. Unit {0}) l1 o)

    moved : (b : B) → b ≡ f (g b) → (a : A) → IsInSupport da l1 a → indicator db b (f a) ≡ indicator da (g b) a
    moved b e a i = indicator_same db da b (f a) (g b) a (λ p. ap g p ∙ sym (inverse a i)) (λ p. e ∙ ap f p)

    at : (b : B) (w : ℕ) → weight_at db l2 b ≡ w → mass l1 (λ a. indicator db b (f a)) * k2 ≡ weight_at db l2 b * k1
    at b zero q =
        rw (mass-zero {P = IsInSupport da l1} l1 (λ a. indicator db b (f a)) own (λ a i. outside a i (indicator_cases db b (f a))), q) (omega arith)
      where
        outside : (a : A) → IsInSupport da l1 a → (indicator db b (f a) ≡ 0) ⊎ (b ≡ f a) → indicator db b (f a) ≡ 0
        outside a i (inl r) = r
        outside a i (inr r) =
            absurd (let s : 0 < weight_at db l2 b = subst (IsInSupport db l2) (sym r) (there a i) in omega (arith, q))
    at b (suc w) q =
        let i : IsInSupport db l2 b = omega (arith, q) in
        ap (λ z. z * k2) (mass-on {P = IsInSupport da l1} l1 (λ a. indicator db b (f a)) (indicator da (g b)) own (moved b (back b i))) ∙ sym (weights b i)
