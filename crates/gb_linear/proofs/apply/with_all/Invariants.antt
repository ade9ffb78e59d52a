use Rattle.std.proofs.Common.{◌≡◌, drop}
use Rattle.gb_linear.specs.Closing.{with_all}
use Rattle.gb_linear.proofs.apply.with_all.Given as goal

abbrev pub invariant-loop-assumption : goal.invariant-loop-assumption
invariant-loop-assumption l = with_all l.sum (drop l.assumption-index l.assumptions) ≡ with_all l.fn.form l.assumptions
