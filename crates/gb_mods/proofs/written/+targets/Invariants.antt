use Rattle.std.proofs.Common.{◌≡◌, ◌++◌, drop}
use Rattle.gb_mods.specs.Written.{targets}
use Rattle.gb_mods.proofs.written.+targets.Given as goal

abbrev pub invariant-targets-loop-statement : goal.invariant-targets-loop-statement
invariant-targets-loop-statement l = l.all ++ targets (drop l.statement-index l.list) ≡ l.fn.found ++ targets l.list
