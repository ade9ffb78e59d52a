-- When two weighted lists have a coupling: a condition on closed pairs of events, and a test that computes.
-- Sources: P. Hall, "On Representatives of Subsets", 1935, for the condition; V. Strassen, "The Existence of
-- Probability Measures with Given Marginals", 1965, for distributions.
use Rattle.std.specs.Prelude.{◌≡◌, ℕ, ◌+◌, ◌*◌, ◌<◌, ◌≤◌, Bool, true, false, ◌&&◌, ◌||◌, leb, eqb, [], ◌∷◌}
use Rattle.gb_dist.specs.WeightedList.{WeightedList, total, weight, scale}

-- Q leads from s into u alone
abbrev pub IsClosed : {A B : Type 0} → (A → B → Type 0) → (A → Bool) → (B → Bool) → Type 0
IsClosed Q s u = (x : _) (y : _) → s x ≡ true → Q x y → u y ≡ true

-- the lists have the same total, and no event is more probable than one that it leads into
pub record IsDominated {A B : Type 0} (Q : A → B → Type 0)
    (l1 : WeightedList A) (k1 : ℕ) (l2 : WeightedList B) (k2 : ℕ) : Type 0 where
  pub totals : total l1 * k2 ≡ total l2 * k1
  pub events : (s : A → Bool) (u : B → Bool) → IsClosed Q s u → weight l1 s * k2 ≤ weight l2 u * k1

-- a closed pair of events of which the first is more probable
pub record Obstruction {A B : Type 0} (Q : A → B → Type 0)
    (l1 : WeightedList A) (k1 : ℕ) (l2 : WeightedList B) (k2 : ℕ) : Type 0 where
  pub s : A → Bool
  pub u : B → Bool
  pub closed : IsClosed Q s u
  pub heavier : weight l2 u * k1 < weight l1 s * k2

-- Each choice of entries of a, beside others of weight x with the neighbours c in b, weighs at most its neighbours.
abbrev pub passes_hall_beside : {A B : Type 0} → (A → B → Bool) →
    WeightedList A → WeightedList B → (B → Bool) → ℕ → Bool
passes_hall_beside r [] b c x = leb x (weight b c)
passes_hall_beside r (e ∷ a) b c x =
    passes_hall_beside r a b c x && passes_hall_beside r a b (λ y. c y || r e.0 y) (x + e.1)

-- each choice of entries of a weighs at most its neighbours in b
abbrev pub passes_hall : {A B : Type 0} → (A → B → Bool) → WeightedList A → WeightedList B → Bool
passes_hall r a b = passes_hall_beside r a b (λ y. false) 0

-- the test: both lists over one denominator have the same total and pass Hall's test
abbrev pub has_coupling : {A B : Type 0} → (A → B → Bool) → WeightedList A → ℕ → WeightedList B → ℕ → Bool
has_coupling r l1 k1 l2 k2 =
    eqb (total l1 * k2) (total l2 * k1) && passes_hall r (scale k2 l1) (scale k1 l2)
