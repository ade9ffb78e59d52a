use Rattle.std.proofs.Common.{◌≡◌, drop}
use Rattle.gb_smt.specs.Equations.{first_usable}
use Rattle.gb_smt.proofs.Uses.{further}
use Rattle.gb_smt.proofs.equations.first_usable.Given as goal

abbrev pub invariant-loop-place : goal.invariant-loop-place
invariant-loop-place l = further l.place (first_usable (drop l.place l.hyps)) ≡ first_usable l.hyps
