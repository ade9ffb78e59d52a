use Rattle.std.proofs.Common.{◌≡◌, drop}
use Rattle.gb_mods.specs.Called.{is_among}
use Rattle.gb_mods.proofs.called.is_among.Given as goal

abbrev pub invariant-loop-x : goal.invariant-loop-x
invariant-loop-x l = is_among (drop l.x-index l.list) l.procedure ≡ is_among l.list l.procedure
