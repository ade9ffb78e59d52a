-- The finite types, and the order of their values.
use Rattle.std.specs.Prelude.{ℕ, ◌^◌, ◌<◌, Bool, true, false, ◌&&◌, nat_lt, if◌then◌else◌, IsTrue, List, [], ◌∷◌}
use Rattle.gb_core.specs.declared.ty.Ty.{Ty}
use Rattle.gb_core.specs.declared.ty.Ty.TheOpen as t
use Rattle.gb_core.specs.declared.ty.Ty.TheFolds.{fold-Ty}
use Rattle.gb_core.specs.declared.value.Value.{Value}
use Rattle.gb_core.specs.declared.value.Card.{Card}
use Rattle.gb_core.specs.declared.value.Card.TheVariants.{Exact, Above}
use Rattle.gb_core.specs.Numbering.{Numbering, numbers, uncounted, tuple_of, option_of, map_of}

abbrev pub numbering_step : t.Ty-F Numbering → Numbering
numbering_step t.Unit = numbers 1
numbering_step t.Bool = numbers 2
numbering_step (t.Bits n) = numbers (2 ^ n)
numbering_step (t.Mod n) = numbers n
numbering_step (t.Enumeration name n) = numbers n
numbering_step (t.Tuple ts) = tuple_of ts
numbering_step (t.Opt x) = option_of x
numbering_step (t.Map k x) = map_of k x
numbering_step (t.Abstract name) = uncounted
numbering_step (t.Glob name) = uncounted
numbering_step (t.Distr x) = uncounted
numbering_step t.Int = uncounted
numbering_step t.Real = uncounted

-- the values of a type, in order
abbrev pub numbering : Ty → Numbering
numbering = fold-Ty Numbering numbering_step

abbrev pub all_true : List Bool → Bool
all_true [] = true
all_true (b ∷ bs) = b && all_true bs

abbrev pub finite_step : t.Ty-F Bool → Bool
finite_step (t.Tuple ts) = all_true ts
finite_step (t.Opt x) = x
finite_step (t.Map k x) = k && x
finite_step (t.Abstract name) = false
finite_step (t.Glob name) = false
finite_step (t.Distr x) = false
finite_step t.Int = false
finite_step t.Real = false
finite_step _ = true

-- a type has a number of values of its own
abbrev pub is_finite : Ty → Bool
is_finite = fold-Ty Bool finite_step

-- how many values a type has
abbrev pub size_of : Ty → ℕ
size_of ty = (numbering ty).size

-- the value at a place
abbrev pub value_at : Ty → ℕ → Value
value_at ty i = (numbering ty).at i

-- the place of a value
abbrev pub place_of : Ty → Value → ℕ
place_of ty x = (numbering ty).place x

abbrev pub card_of : Ty → Card
card_of ty = if is_finite ty && nat_lt (size_of ty) (2 ^ 63) then Exact (size_of ty) else Above

-- a place below an exact number
abbrev pub IsPlaceBelow : ℕ → Card → Type 0
IsPlaceBelow i (Exact n) = i < n
IsPlaceBelow i Above = ⊥

abbrev pub IsExact : Card → Type 0
IsExact (Exact n) = Unit {0}
IsExact Above = ⊥

-- the value is one of the type, whose number of values is exact
abbrev pub IsValue : Ty → Value → Type 0
IsValue ty x = IsExact (card_of ty) × IsTrue ((numbering ty).has x)
