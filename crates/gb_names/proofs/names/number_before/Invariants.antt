use Rattle.std.proofs.Common.{◌≡◌, ◌+◌, drop}
use Rattle.gb_names.specs.Names.{number_before}
use Rattle.gb_names.proofs.names.number_before.Given as goal

abbrev pub invariant-loop-i : goal.invariant-loop-i
invariant-loop-i l = l.i + number_before (drop l.i l.list) l.name ≡ number_before l.list l.name
