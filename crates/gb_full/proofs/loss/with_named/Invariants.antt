use Rattle.std.proofs.Common.{◌≡◌, drop}
use Rattle.gb_full.specs.Loss.{with_named}
use Rattle.gb_full.proofs.loss.with_named.Given as goal

abbrev pub invariant-loop-name : goal.invariant-loop-name
invariant-loop-name l = with_named l.scope l.all (drop l.name-index l.list) ≡ with_named l.scope l.initial.all l.list
