-- Names, and finite maps whose keys are lists of names.
use Rattle.std.specs.Prelude.{ℕ, T, List, [], Option}
use Rattle.std.specs.Cmp.Lexicographic.{slice_cmp, lists_total, nat_list_cmp_total}
use Rattle.std.specs.Cmp.{IsTotalOrder}
use Rattle.std.specs.declared.cmp.Ordering.{Ordering}
use Rattle.std.specs.Ordering.{nat_cmp}
use Rattle.std.specs.FinMap.{find, put, is_sorted}
use Rattle.std.specs.FinMap.Entries.{is_sorted-put}
use Rattle.gb_core.specs.declared.value.Value.{Value}

-- a name, by its bytes
abbrev pub Name : Type 0
Name = List ℕ

-- a path of names: of a module and a global in it, or of a local alone
abbrev pub Path : Type 0
Path = List Name

abbrev pub path_order : Path → Path → Ordering
path_order = slice_cmp (slice_cmp nat_cmp)

pub path_order_total : IsTotalOrder path_order
path_order_total = lists_total nat_list_cmp_total

-- A finite map from paths to values: its entries, the paths strictly rising. So equal maps have equal entries.
pub record Map : Type 0 where
  pub entries : List (Path × Value)
  pub sorted : T (is_sorted path_order entries)

abbrev pub empty : Map
empty = record { entries = []; sorted = tt }

-- the value at a path, if there is one
abbrev pub get : Map → Path → Option Value
get m x = find path_order x m.entries

-- the map, with this value at the path
abbrev pub set : Map → Path → Value → Map
set m x v = record {
  entries = put path_order x v m.entries;
  sorted = is_sorted-put path_order path_order_total x v m.entries m.sorted;
}
