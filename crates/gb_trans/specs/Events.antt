-- Events that read some variables alone.
use Rattle.std.specs.Prelude.{◌≡◌, Bool, List}
use Rattle.std.specs.List.{AllByRecursion}
use Rattle.gb_core.specs.declared.var.Var.{Var}
use Rattle.gb_meaning.specs.Memory.{Memory}
use Rattle.gb_meaning.specs.Values.{Types}
use Rattle.gb_laws.specs.Cells.{get_at}
use Rattle.gb_laws.specs.Writes.{keys_of}

-- memories that hold the same at each place that one of these variables names
abbrev pub HoldTheSame : Types → List Var → Memory → Memory → Type 0
HoldTheSame t xs m n = AllByRecursion (λ x. AllByRecursion (λ k. get_at m k ≡ get_at n k) (keys_of t x)) xs

-- an event that is the same in such memories
abbrev pub ReadsAlone : Types → List Var → (Memory → Bool) → Type 0
ReadsAlone t xs event = (m n : Memory) → HoldTheSame t xs m n → event m ≡ event n
