use Rattle.std.proofs.Common.{◌≡◌, ◌-◌, length, take}
use Rattle.gb_sim.specs.Need.{need}
use Rattle.gb_sim.proofs.need.+need.Given as goal

abbrev pub invariant-need-loop-k : goal.invariant-need-loop-k
invariant-need-loop-k l = need l.exclusions l.scope (take (length l.list - l.k) l.list) l.known ≡ need l.exclusions l.scope l.list l.after
