use Rattle.std.proofs.Common.{◌≡◌, ◌++◌, drop}
use Rattle.gb_full.specs.Loss.{each_named}
use Rattle.gb_full.proofs.loss.+naming.Given as goal

abbrev pub invariant-each_named-loop-term : goal.invariant-each_named-loop-term
invariant-each_named-loop-term l = l.all ++ each_named (drop l.term-index l.list) ≡ l.fn.found ++ each_named l.list
