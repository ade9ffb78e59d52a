use Rattle.std.proofs.Common.{◌≡◌, ◌-◌, true, drop, length}
use Rattle.gb_bodies.specs.Wp.{are_straight}
use Rattle.gb_bodies.proofs.wp.staying.Given as goal

abbrev pub invariant-loop-k : goal.invariant-loop-k
invariant-loop-k l = are_straight (drop (length l.list - l.k) l.list) ≡ true
