-- Weighted lists that agree entry by entry, and what the ends of two runs have in common.
use Rattle.std.specs.Prelude.{◌≡◌, [], ◌∷◌, ◌⊎◌}
use Rattle.gb_dist.specs.WeightedList.{WeightedList}
use Rattle.gb_meaning.specs.Names.{Path, Map, get}
use Rattle.gb_meaning.specs.Memory.{Memory}
use Rattle.gb_laws.specs.Cells.{Key, get_at}

-- lists of the same length, with equal weights and related outcomes, entry by entry
abbrev pub Zip : {A B : Type 0} → (A → B → Type 0) → WeightedList A → WeightedList B → Type 0
Zip R [] [] = Unit {0}
Zip R [] (f ∷ r) = ⊥
Zip R (e ∷ l) [] = ⊥
Zip R (e ∷ l) (f ∷ r) = (e.1 ≡ f.1) × R e.0 f.0 × Zip R l r

-- where runs from m and n ended in a and b: each place is the same in both, or each holds there what it held
abbrev pub SameOrKept : Memory → Memory → Memory → Memory → Type 0
SameOrKept m n a b = (k : Key) → (get_at a k ≡ get_at b k) ⊎ ((get_at a k ≡ get_at m k) × (get_at b k ≡ get_at n k))

-- where a procedure, from the globals m and n, ended in a and b: the same result, and each global is the same or what it was
pub record SameOutcome (m n : Map) (a b : Memory) : Type 0 where
  pub frame : a.frame ≡ b.frame
  pub globals : (p : Path) → (get a.globals p ≡ get b.globals p) ⊎ ((get a.globals p ≡ get m p) × (get b.globals p ≡ get n p))
