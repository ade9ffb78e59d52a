use Rattle.std.proofs.Common.{◌≡◌, ◌++◌, drop}
use Rattle.gb_mods.specs.Read.{each_read}
use Rattle.gb_mods.proofs.read.+each_read.Given as goal

abbrev pub invariant-each_read-loop-statement : goal.invariant-each_read-loop-statement
invariant-each_read-loop-statement l = l.all ++ each_read (drop l.statement-index l.list) ≡ l.fn.found ++ each_read l.list
