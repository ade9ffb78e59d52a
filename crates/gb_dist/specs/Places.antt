-- The order of values in a type, and lists that are in this order.
use Rattle.std.specs.Prelude.{◌≡◌, ℕ, ◌*◌, ◌<◌, Bool, true, false, List, [], ◌∷◌, map, length, slice_index_or}
use Rattle.std.specs.List.{sum_by}
use Rattle.gb_core.specs.declared.ty.Ty.{Ty}
use Rattle.gb_core.specs.declared.ty.Ty.TheOpen as t
use Rattle.gb_core.specs.declared.ty.Ty.TheFolds.{fold-Ty}
use Rattle.gb_core.specs.declared.value.Value.{Value}
use Rattle.gb_core.specs.Numbering.{is_many}
use Rattle.gb_core.specs.Types.{IsValue, place_of}
use Rattle.gb_dist.specs.WeightedList.{WeightedList, mass}
use Rattle.gb_dist.specs.declared.row.Row.{Row}
use Rattle.gb_dist.specs.declared.sort.Placed.{Placed}
use Rattle.gb_dist.specs.Lists.{IsIncreasing}
use Rattle.gb_dist.specs.Rows.{entries, are_positive}

abbrev pub glob_step : t.Ty-F Bool → Bool
glob_step (t.Glob name) = true
glob_step _ = false

-- the type of the globals of a module
abbrev pub is_glob : Ty → Bool
is_glob = fold-Ty Bool glob_step

-- A value has a place in a type: it is one of a type whose number of values is exact, or a label of the globals of a module.
abbrev pub IsPlaced : Ty → Value → Type 0
IsPlaced ty v = (is_glob ty ≡ false → IsValue ty v) × (is_glob ty ≡ true → is_many v ≡ false)

abbrev pub ArePlaced : Ty → List Value → Type 0
ArePlaced ty [] = Unit {0}
ArePlaced ty (v ∷ vs) = IsPlaced ty v × ArePlaced ty vs

abbrev pub outcomes : WeightedList Value → List Value
outcomes l = map (λ e. e.0) l

-- the places of the outcomes of a list
abbrev pub places : (Value → ℕ) → WeightedList Value → List ℕ
places p l = map (λ e. p e.0) l

-- the sum of weight times f
abbrev pub placed_mass : (Value → ℕ) → List Placed → ℕ
placed_mass f ps = sum_by (λ p. p.weight * f p.value) ps

-- each value has the place that stands beside it
abbrev pub ArePlacedBy : (Value → ℕ) → List Placed → Type 0
ArePlacedBy p ps = (k : ℕ) (d : Placed) → k < length ps → (slice_index_or ps k d).place ≡ p (slice_index_or ps k d).value

-- one place, one value
abbrev pub AreSameAtPlaces : List Placed → Type 0
AreSameAtPlaces ps = (i j : ℕ) (d : Placed) → i < length ps → j < length ps → (slice_index_or ps i d).place ≡ (slice_index_or ps j d).place
    → (slice_index_or ps i d).value ≡ (slice_index_or ps j d).value

-- Rows give each function the expectation that a list gives it, and their values stand in the order of the type, each once.
pub record IsGathered (ty : Ty) (l : WeightedList Value) (rs : List Row) : Type 0 where
  pub same : (f : Value → ℕ) → mass (entries rs) f ≡ mass l f
  pub positive : are_positive rs ≡ true
  pub increasing : IsIncreasing (places (place_of ty) (entries rs))
