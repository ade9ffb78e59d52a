use Rattle.std.proofs.Common.{◌≡◌, ◌+◌, drop}
use Rattle.gb_names.specs.Names.{names_before}
use Rattle.gb_names.proofs.memories.names_before.Given as goal

abbrev pub invariant-loop-i : goal.invariant-loop-i
invariant-loop-i l = l.i + names_before (drop l.i l.list) l.name ≡ names_before l.list l.name
