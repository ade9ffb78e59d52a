use Rattle.std.proofs.Common.{◌≡◌, drop}
use Rattle.gb_inline.specs.Renamed.{name_renamed}
use Rattle.gb_inline.proofs.renamed.name_renamed.Given as goal

abbrev pub invariant-loop-renaming : goal.invariant-loop-renaming
invariant-loop-renaming l = name_renamed (drop l.renaming-index l.names) l.name ≡ name_renamed l.names l.name
