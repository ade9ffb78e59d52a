use Rattle.std.proofs.Common.{◌≡◌, drop}
use Rattle.std.specs.List.{list_any}
use Rattle.gb_full.specs.Loss.{body_loses}
use Rattle.gb_full.proofs.loss.+bodies.Given as goal

abbrev pub invariant-any_body_loses-loop-term : goal.invariant-any_body_loses-loop-term
invariant-any_body_loses-loop-term l = list_any (body_loses l.full) (drop l.term-index l.list) ≡ list_any (body_loses l.full) l.list
