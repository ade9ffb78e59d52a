use Rattle.std.proofs.Common.{◌≡◌, drop}
use Rattle.gb_theory.specs.Commands.{brought}
use Rattle.gb_theory.proofs.fold.require_files.Given as goal

abbrev pub invariant-loop-name : goal.invariant-loop-name
invariant-loop-name l = brought (drop l.name-index l.names) ≡ brought l.names
