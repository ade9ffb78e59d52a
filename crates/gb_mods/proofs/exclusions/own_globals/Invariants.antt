use Rattle.std.proofs.Common.{◌≡◌, ◌++◌, drop}
use Rattle.gb_mods.specs.Exclusions.{own_globals}
use Rattle.gb_mods.proofs.exclusions.own_globals.Given as goal

abbrev pub invariant-loop-x : goal.invariant-loop-x
invariant-loop-x l = l.all ++ own_globals l.«module» (drop l.x-index l.list) ≡ l.fn.found ++ own_globals l.«module» l.list
