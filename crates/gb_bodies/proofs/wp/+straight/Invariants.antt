use Rattle.std.proofs.Common.{◌≡◌, drop}
use Rattle.gb_bodies.specs.Wp.{are_straight}
use Rattle.gb_bodies.proofs.wp.+straight.Given as goal

abbrev pub invariant-are_straight-loop-statement : goal.invariant-are_straight-loop-statement
invariant-are_straight-loop-statement l = are_straight (drop l.statement-index l.list) ≡ are_straight l.list
