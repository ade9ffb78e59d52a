use Rattle.std.proofs.Common.{◌≡◌, ◌++◌, drop}
use Rattle.gb_inline.specs.Renamed.{each_renamed}
use Rattle.gb_inline.proofs.renamed.+renamed.Given as goal

abbrev pub invariant-with_renamed-loop-statement : goal.invariant-with_renamed-loop-statement
invariant-with_renamed-loop-statement l = l.all ++ each_renamed l.reads l.names (drop l.statement-index l.list) ≡ l.fn.found ++ each_renamed l.reads l.names l.list
