use Rattle.std.proofs.Common.{◌≡◌, take, drop}
use Rattle.gb_rewrite.specs.Events.{any_by_law}
use Rattle.gb_rewrite.proofs.Layered.{passing}
use Rattle.gb_rewrite.proofs.events.+by_first.Given as goal

abbrev pub invariant-any_by_law-loop-at : goal.invariant-any_by_law-loop-at
invariant-any_by_law-loop-at l = passing l.scope l.law (take l.at l.list) (drop l.at l.list) ≡ any_by_law l.scope l.law l.list
