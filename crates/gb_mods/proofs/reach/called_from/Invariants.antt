use Rattle.std.proofs.Common.{◌≡◌, ◌++◌, drop}
use Rattle.gb_mods.specs.Reach.{called_from_all}
use Rattle.std.specs.Option.{option_copied}
use Rattle.gb_mods.proofs.reach.called_from.Given as goal

abbrev pub invariant-loop-x : goal.invariant-loop-x
invariant-loop-x l = l.all ++ called_from_all l.scope (option_copied l.around) (drop l.x-index l.list) ≡ called_from_all l.scope (option_copied l.around) l.list
