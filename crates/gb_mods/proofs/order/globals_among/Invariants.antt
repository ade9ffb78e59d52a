use Rattle.std.proofs.Common.{◌≡◌, ◌++◌, drop}
use Rattle.gb_meaning.specs.Footprints.{globals_among}
use Rattle.gb_mods.proofs.order.globals_among.Given as goal

abbrev pub invariant-loop-variable : goal.invariant-loop-variable
invariant-loop-variable l = l.all ++ globals_among (drop l.variable-index l.list) ≡ globals_among l.list
