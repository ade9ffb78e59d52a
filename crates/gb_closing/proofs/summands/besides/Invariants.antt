use Rattle.std.proofs.Common.{◌≡◌, drop}
use Rattle.gb_closing.specs.Summands.{behind, besides}
use Rattle.gb_closing.proofs.summands.besides.Given as goal

abbrev pub invariant-loop-y : goal.invariant-loop-y
invariant-loop-y l = behind l.out (besides l.sign (drop l.y-index l.second)) ≡ behind l.fn.first (besides l.sign l.second)
