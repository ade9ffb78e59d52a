-- Keys of maps.
use Rattle.std.specs.Prelude.{Bool, true, false, ◌||◌, List}
use Rattle.std.specs.List.{list_all}
use Rattle.gb_core.specs.declared.ty.Ty.{Ty}
use Rattle.gb_core.specs.declared.ty.Ty.TheVariants as ty
use Rattle.gb_core.specs.declared.value.Value.{Value}
use Rattle.gb_core.specs.declared.value.Card.{Card}
use Rattle.gb_core.specs.declared.value.Card.TheVariants.{Exact, Above}
use Rattle.gb_core.specs.Numbering.{key_of}
use Rattle.gb_core.specs.Types.{card_of, numbering}

-- types whose values are numbers, each its own place
abbrev pub is_of_numbers : Ty → Bool
is_of_numbers ty.Unit = true
is_of_numbers ty.Bool = true
is_of_numbers (ty.Bits n) = true
is_of_numbers (ty.Mod n) = true
is_of_numbers (ty.Enumeration name n) = true
is_of_numbers _ = false

-- the value is one of a type with so many values
abbrev pub is_among : Card → Ty → Value → Bool
is_among (Exact n) u v = (numbering u).has v
is_among Above u v = false

-- A value has a place among the keys of a type: any number has one where keys are numbers; else a value of the type has, where the
-- number of these is exact.
abbrev pub is_key : Ty → Value → Bool
is_key u k = is_of_numbers u || is_among (card_of u) u k

-- and so have the keys of entries
abbrev pub are_keys : Ty → List Value → Bool
are_keys u ps = list_all (λ p. is_key u (key_of p)) ps
