use Rattle.std.proofs.Common.{◌≡◌, ◌++◌, drop}
use Rattle.gb_mods.specs.Meets.{left_open}
use Rattle.gb_mods.proofs.meets.left_open.Given as goal

abbrev pub invariant-loop-q : goal.invariant-loop-q
invariant-loop-q l = l.all ++ left_open (drop l.q-index l.params) ≡ left_open l.params
