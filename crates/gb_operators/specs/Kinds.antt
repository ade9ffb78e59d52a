-- What operators ask of types.
use Rattle.std.specs.Prelude.{ℕ, ◌==◌, ◌-◌, Bool, true, false, ◌&&◌, nat_lt, if◌then◌else◌, List, slice_get, Option, Some, None}
use Rattle.gb_core.specs.declared.ty.Ty.{Ty, out-Ty}
use Rattle.gb_core.specs.declared.ty.Ty.TheOpen as layer
use Rattle.gb_core.specs.Types.{is_finite, size_of}

abbrev pub is_ordered_layer : layer.Ty-F Ty → Bool
is_ordered_layer (layer.Mod n) = true
is_ordered_layer (layer.Bits n) = true
is_ordered_layer layer.Int = true
is_ordered_layer layer.Real = true
is_ordered_layer _ = false

-- `int[n]`, texts of bits, whole numbers and fractions are in order
abbrev pub is_ordered : Ty → Bool
is_ordered t = is_ordered_layer (out-Ty t)

abbrev pub is_arithmetic_layer : layer.Ty-F Ty → Bool
is_arithmetic_layer (layer.Mod n) = nat_lt 0 n
is_arithmetic_layer layer.Int = true
is_arithmetic_layer layer.Real = true
is_arithmetic_layer _ = false

-- there are sums of `int[n]`, of whole numbers and of fractions
abbrev pub is_arithmetic : Ty → Bool
is_arithmetic t = is_arithmetic_layer (out-Ty t)

abbrev pub is_signed_layer : layer.Ty-F Ty → Bool
is_signed_layer layer.Int = true
is_signed_layer layer.Real = true
is_signed_layer _ = false

-- whole numbers and fractions have signs
abbrev pub is_signed : Ty → Bool
is_signed t = is_signed_layer (out-Ty t)

abbrev pub is_of_bits_layer : layer.Ty-F Ty → Bool
is_of_bits_layer layer.Bool = true
is_of_bits_layer (layer.Bits n) = true
is_of_bits_layer _ = false

-- what exclusive or combines
abbrev pub is_of_bits : Ty → Bool
is_of_bits t = is_of_bits_layer (out-Ty t)

abbrev pub is_of_numbers_layer : layer.Ty-F Ty → Bool
is_of_numbers_layer (layer.Mod n) = true
is_of_numbers_layer layer.Int = true
is_of_numbers_layer _ = false

-- whole numbers, and those below a bound, are fractions too
abbrev pub is_of_numbers : Ty → Bool
is_of_numbers t = is_of_numbers_layer (out-Ty t)

abbrev pub is_of_values_layer : layer.Ty-F Ty → Bool
is_of_values_layer layer.Int = false
is_of_values_layer layer.Real = false
is_of_values_layer (layer.Distr t) = false
is_of_values_layer _ = true

-- a type of values, of which there are options, tuples, maps and distributions
abbrev pub is_of_values : Ty → Bool
is_of_values t = is_of_values_layer (out-Ty t)

-- `uniform` has at most 65,536 values, and no part whose number of values is open
abbrev pub is_small : Ty → Bool
is_small t = is_finite t && nat_lt (size_of t) 65537

abbrev pub option_layer : layer.Ty-F Ty → Option Ty
option_layer (layer.Opt t) = Some t
option_layer _ = None

-- the type of the values of an option
abbrev pub inside_option : Ty → Option Ty
inside_option t = option_layer (out-Ty t)

abbrev pub outcome_layer : layer.Ty-F Ty → Option Ty
outcome_layer (layer.Distr t) = Some t
outcome_layer _ = None

-- the type of the outcomes of a distribution
abbrev pub outcome : Ty → Option Ty
outcome t = outcome_layer (out-Ty t)

abbrev pub entries_layer : layer.Ty-F Ty → Option (Ty × Ty)
entries_layer (layer.Map k t) = Some (k, t)
entries_layer _ = None

-- the types of the keys and of the values of a map
abbrev pub entries : Ty → Option (Ty × Ty)
entries t = entries_layer (out-Ty t)

abbrev pub components_layer : layer.Ty-F Ty → Option (List Ty)
components_layer (layer.Tuple ts) = Some ts
components_layer _ = None

-- the types of the parts of a tuple
abbrev pub components : Ty → Option (List Ty)
components t = components_layer (out-Ty t)

-- the part of a number, counted from 1
abbrev pub component : List Ty → ℕ → Option Ty
component ts n = if n == 0 then None else slice_get ts (n - 1)

abbrev pub element_layer : layer.Ty-F Ty → Option Ty
element_layer (layer.Map k t) = Some k
element_layer (layer.Distr t) = Some t
element_layer _ = None

-- what `\in` asks of: a key of a map, or an outcome of a distribution
abbrev pub element : Ty → Option Ty
element t = element_layer (out-Ty t)
