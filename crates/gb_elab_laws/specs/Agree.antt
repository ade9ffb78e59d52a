-- Globals that hold the same where variables say.
use Rattle.std.specs.Prelude.{◌≡◌, List}
use Rattle.std.specs.List.{AllByRecursion}
use Rattle.gb_core.specs.declared.var.Var.{Var}
use Rattle.gb_meaning.specs.Names.{Map, get}
use Rattle.gb_meaning.specs.Values.{Types}
use Rattle.gb_laws.specs.Cells.{Key}
use Rattle.gb_laws.specs.Cells.Key.{global, local}
use Rattle.gb_laws.specs.Writes.{keys_of}

-- the place holds the same in both, if it is that of a global
abbrev pub HoldsSame : Map → Map → Key → Type 0
HoldsSame m n (global p) = get m p ≡ get n p
HoldsSame m n (local p) = Unit {0}

-- so does each place that one of these variables names
abbrev pub HoldSame : Types → List Var → Map → Map → Type 0
HoldSame t xs m n = AllByRecursion (λ x. AllByRecursion (HoldsSame m n) (keys_of t x)) xs
