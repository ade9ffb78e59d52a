use Rattle.std.proofs.Common.{◌≡◌, ◌+◌, drop}
use Rattle.gb_elab_mod.specs.Multiples.{hyps_before}
use Rattle.gb_elab_mod.proofs.multiples.hyps_before.Given as goal

abbrev pub invariant-loop-i : goal.invariant-loop-i
invariant-loop-i l = l.i + hyps_before (drop l.i l.hyps) l.name ≡ hyps_before l.hyps l.name
