use Rattle.std.proofs.Common.{◌≡◌, ◌++◌, drop}
use Rattle.gb_mods.specs.Called.{calls}
use Rattle.gb_mods.proofs.called.+calls.Given as goal

abbrev pub invariant-calls-loop-statement : goal.invariant-calls-loop-statement
invariant-calls-loop-statement l = l.all ++ calls (drop l.statement-index l.list) ≡ l.fn.found ++ calls l.list
