-- The calls of an object in memory: how many there were, the numbers of those that fail, and how many failed.
use Rattle.std.specs.Prelude.{ℕ, Bool, List, ◌==◌, if◌then◌else◌}
use Rattle.std.specs.List.{list_any}
use Rattle.gb_outside.specs.Counts.{next_count}
use Rattle.gb_outside.specs.declared.memory.calls.Calls.{Calls}

-- no call was made yet
abbrev pub no_calls : List ℕ → Calls
no_calls failing = record { made = 0; failing = failing; faults = 0 }

-- the next call is one of those that fail
abbrev pub fails_next : Calls → Bool
fails_next calls = list_any (λ number. number == next_count calls.made) calls.failing

-- one call more, which failed or not
abbrev pub after_call : Calls → Bool → Calls
after_call calls failed =
    record { made = next_count calls.made; failing = calls.failing; faults = if failed then next_count calls.faults else calls.faults }
