use Rattle.std.proofs.Common.{◌≡◌, drop}
use Rattle.gb_ended.specs.Loops.{has_loop}
use Rattle.gb_ended.proofs.loops.+loops.Given as goal

abbrev pub invariant-has_loop-loop-statement : goal.invariant-has_loop-loop-statement
invariant-has_loop-loop-statement l = has_loop (drop l.statement-index l.list) ≡ has_loop l.list
