-- States that agree on what a term uses.
use Rattle.std.specs.Prelude.{◌≡◌, true}
use Rattle.gb_meaning.specs.Memory.{read_globals}
use Rattle.gb_meaning.specs.Setting.{Setting}
use Rattle.gb_meaning.specs.State.{State, binding, meaning_in, memory_of}
use Rattle.gb_meaning.specs.Terms.{read_at}
use Rattle.gb_laws.specs.Uses.{Use, Uses}
use Rattle.gb_laws.specs.Uses.Use.{read, bound, globals, starts}

-- the use is the same in both states
abbrev pub IsSame : Setting → State → State → Use → Type 0
IsSame g s q (read r ty) = read_at g r ty s ≡ read_at g r ty q
IsSame g s q (bound i) = meaning_in (binding s i) ≡ meaning_in (binding q i)
IsSame g s q (globals m r) = read_globals g.types (memory_of s r) (g.types.footprint m) ≡ read_globals g.types (memory_of q r) (g.types.footprint m)
IsSame g s q (starts r) = memory_of s r ≡ memory_of q r
IsSame g s q u = Unit {0}

abbrev pub Agree : Setting → Uses → State → State → Type 0
Agree g K s q = (u : Use) → K u ≡ true → IsSame g s q u
