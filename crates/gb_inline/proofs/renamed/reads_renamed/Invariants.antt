use Rattle.std.proofs.Common.{◌≡◌, take}
use Rattle.gb_inline.specs.Renamed.{reads_renamed}
use Rattle.gb_inline.proofs.renamed.reads_renamed.Given as goal

abbrev pub invariant-loop-renaming : goal.invariant-loop-renaming
invariant-loop-renaming l = l.all ≡ reads_renamed (take l.renaming-index l.names)
