-- Events that are given by tests.
use Rattle.std.proofs.Common.{◌≡◌, Bool, true, false, [], ◌∷◌, map, refl, ap, arith, ◌+◌, ◌*◌}
use Rattle.std.specs.Prelude.{ℕ, if◌then◌else◌}
use Rattle.gb_core.specs.declared.value.Value.{Value}
use Rattle.gb_dist.specs.WeightedList.{WeightedList, total, weight, bit}
use Rattle.gb_dist.specs.Lists.{kept, restricted}
use Rattle.gb_dist.specs.Places.{outcomes}

one_kept : (b : Bool) (bs : _) (e : Value × ℕ) (l r : WeightedList Value) → kept bs l ≡ r → kept (b ∷ bs) (e ∷ l) ≡ (if b then e ∷ r else r)
one_kept true bs e l r h = ap (λ (k : WeightedList Value). e ∷ k) h
one_kept false bs e l r h = h

-- what is kept where a test is true
pub kept_is : (p : Value → Bool) (l : WeightedList Value) → kept (map p (outcomes l)) l ≡ restricted l p
kept_is p [] = refl
kept_is p (e ∷ l) = one_kept (p e.0) (map p (outcomes l)) e l (restricted l p) (kept_is p l)

one_weighed : (b : Bool) (bs : _) (e : Value × ℕ) (l : WeightedList Value) (n : ℕ) → total (kept bs l) ≡ n → total (kept (b ∷ bs) (e ∷ l)) ≡ e.1 * bit b + n
one_weighed true bs e l n h = omega (arith, h)
one_weighed false bs e l n h = omega (arith, h)

-- and its weight
pub kept_mass : (p : Value → Bool) (l : WeightedList Value) → total (kept (map p (outcomes l)) l) ≡ weight l p
kept_mass p [] = refl
kept_mass p (e ∷ l) = one_weighed (p e.0) (map p (outcomes l)) e l (weight l p) (kept_mass p l)
