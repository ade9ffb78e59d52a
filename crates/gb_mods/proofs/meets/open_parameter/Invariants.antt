use Rattle.std.proofs.Common.{◌≡◌, drop}
use Rattle.gb_mods.specs.Meets.{open_parameter}
use Rattle.gb_mods.proofs.meets.open_parameter.Given as goal

abbrev pub invariant-loop-q : goal.invariant-loop-q
invariant-loop-q l = open_parameter (drop l.q-index l.params) l.«module» ≡ open_parameter l.params l.«module»
