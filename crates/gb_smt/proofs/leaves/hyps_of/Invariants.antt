use Rattle.std.proofs.Common.{◌≡◌, take}
use Rattle.std.specs.List.{flat_map}
use Rattle.gb_smt.specs.Leaves.{assumed_of}
use Rattle.gb_smt.proofs.leaves.hyps_of.Given as goal

abbrev pub invariant-loop-hyp : goal.invariant-loop-hyp
invariant-loop-hyp l = l.hyps ≡ flat_map assumed_of (take l.hyp-index l.list)
