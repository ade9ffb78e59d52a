-- Sets of the names of locals.
use Rattle.std.specs.Prelude.{◌≡◌, ℕ, true, false, ◌||◌, ◌≤◌, ◌<◌, ◌^◌, List, Option, Some, None, String, bytes_eq}
use Rattle.std.specs.HashSet.{HashSet, contains_text}
use Rattle.gb_core.specs.declared.var.Var.{Var}
use Rattle.gb_meaning.specs.Names.{Name}
use Rattle.gb_inline.specs.Fresh.{is_taken, numbered}

module _ {Y S : Type 0} where
  -- these are the names of the locals among these variables
  abbrev pub AreNamesOf : List Var → HashSet (String Y) S → Type 0
  AreNamesOf used names = (x : Name) → contains_text names x ≡ is_taken used x

  -- one name more is among the second names than among the first
  abbrev pub Adds : HashSet (String Y) S → Name → HashSet (String Y) S → Type 0
  Adds names n more = (x : Name) → contains_text more x ≡ (bytes_eq x n || contains_text names x)

  -- each number from one on, up to another, makes one of these names
  abbrev pub AreTaken : HashSet (String Y) S → ℕ → ℕ → Type 0
  AreTaken names first end = (k : ℕ) → first ≤ k → k < end → contains_text names (numbered k) ≡ true

  -- the first number from one on that makes none of these names
  abbrev pub IsFirstFree : HashSet (String Y) S → ℕ → Option ℕ → Type 0
  IsFirstFree names first None = AreTaken names first (2 ^ 32)
  IsFirstFree names first (Some k) = (k < 2 ^ 32) × (contains_text names (numbered k) ≡ false) × AreTaken names first k
