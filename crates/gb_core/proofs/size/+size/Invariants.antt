use Rattle.std.proofs.Common.{◌≡◌, ◌^◌, min, map, take}
use Rattle.gb_core.specs.Numbering.{tuples}
use Rattle.gb_core.specs.Types.{numbering}
use Rattle.gb_core.proofs.size.+size.Given as goal

abbrev pub invariant-size_of_tuple-loop-part : goal.invariant-size_of_tuple-loop-part
invariant-size_of_tuple-loop-part l = l.all ≡ min (tuples (map numbering (take l.part-index l.parts))) (2 ^ 63)
