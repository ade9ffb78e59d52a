use Rattle.std.proofs.Common.{◌≡◌, drop}
use Rattle.std.specs.List.{list_any}
use Rattle.gb_full.specs.Loss.{loses_by}
use Rattle.gb_full.proofs.loss.+losing.Given as goal

abbrev pub invariant-any_may_lose-loop-term : goal.invariant-any_may_lose-loop-term
invariant-any_may_lose-loop-term l = list_any (loses_by l.scope l.full) (drop l.term-index l.list) ≡ list_any (loses_by l.scope l.full) l.list
