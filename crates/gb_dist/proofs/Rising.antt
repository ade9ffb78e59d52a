-- Lists of numbers that increase.
use Rattle.std.proofs.Common.{ℕ, ◌<◌, List, [], ◌∷◌, ◌++◌}
use Rattle.gb_dist.specs.Lists.{IsAbove, IsIncreasing}

-- each number is below n
abbrev pub IsUnder : List ℕ → ℕ → Type 0
IsUnder [] n = Unit {0}
IsUnder (x ∷ xs) n = (x < n) × IsUnder xs n

IsAbove-push : (k : ℕ) (xs : List ℕ) (n : ℕ) → IsAbove k xs → k < n → IsUnder xs n → IsAbove k (xs ++ n ∷ [])
IsAbove-push k [] n h l u = (l, tt)
IsAbove-push k (x ∷ xs) n h l u = (h.0, IsAbove-push x xs n h.1 u.0 u.1)

pub IsIncreasing-push : (xs : List ℕ) (n : ℕ) → IsIncreasing xs → IsUnder xs n → IsIncreasing (xs ++ n ∷ [])
IsIncreasing-push [] n h u = tt
IsIncreasing-push (x ∷ xs) n h u = IsAbove-push x xs n h u.0 u.1

pub IsUnder-push : (xs : List ℕ) (m n : ℕ) → IsUnder xs n → m < n → IsUnder (xs ++ m ∷ []) n
IsUnder-push [] m n u l = (l, tt)
IsUnder-push (x ∷ xs) m n u l = (u.0, IsUnder-push xs m n u.1 l)
