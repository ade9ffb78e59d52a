use Rattle.std.proofs.Common.{◌≡◌, drop}
use Rattle.gb_steps.specs.First.{first_in}
use Rattle.gb_steps.proofs.first.+first.Given as goal

abbrev pub invariant-first_in-loop-term : goal.invariant-first_in-loop-term
invariant-first_in-loop-term l = first_in (drop l.term-index l.list) ≡ first_in l.list
