use Rattle.std.proofs.Common.{◌≡◌, ◌-◌, take, length}
use Rattle.gb_bodies.specs.Wp.{before_all}
use Rattle.gb_bodies.proofs.wp.+wp.Given as goal

abbrev pub invariant-before_all-loop-k : goal.invariant-before_all-loop-k
invariant-before_all-loop-k l = before_all l.exclusions l.side (take (length l.list - l.k) l.list) l.form ≡ before_all l.exclusions l.side l.list l.post
