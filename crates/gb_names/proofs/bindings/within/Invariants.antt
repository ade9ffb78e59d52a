use Rattle.std.proofs.Common.{◌≡◌, ◌++◌, length, reverse}
use Rattle.gb_names.proofs.bindings.within.Given as goal

abbrev pub invariant-loop-x : goal.invariant-loop-x
invariant-loop-x l = l.all ++ reverse l.rest ≡ reverse l.fn.bindings

abbrev pub decreases-loop-x : goal.decreases-loop-x
decreases-loop-x l = length l.rest
