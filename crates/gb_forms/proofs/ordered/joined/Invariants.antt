use Rattle.std.proofs.Common.{◌≡◌, ◌-◌, length, take}
use Rattle.gb_forms.specs.Ordered.{joined}
use Rattle.gb_forms.proofs.ordered.joined.Given as goal

abbrev pub invariant-loop-k : goal.invariant-loop-k
invariant-loop-k l = joined (take (length l.list - l.k) l.list) l.all ≡ joined l.list l.fn.ordered
