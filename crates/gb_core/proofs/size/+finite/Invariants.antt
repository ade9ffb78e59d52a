use Rattle.std.proofs.Common.{◌≡◌, map, drop}
use Rattle.gb_core.specs.Types.{all_true, is_finite}
use Rattle.gb_core.proofs.size.+finite.Given as goal

abbrev pub invariant-all_finite-loop-part : goal.invariant-all_finite-loop-part
invariant-all_finite-loop-part l = all_true (map is_finite (drop l.part-index l.parts)) ≡ all_true (map is_finite l.parts)
