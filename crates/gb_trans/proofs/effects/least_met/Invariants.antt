use Rattle.std.proofs.Common.{◌≡◌, filter, drop}
use Rattle.std.specs.Option.{option_copied}
use Rattle.gb_walk.specs.Clash.{least_from}
use Rattle.gb_trans.specs.Effects.{meets}
use Rattle.gb_trans.proofs.effects.least_met.Given as goal

abbrev pub invariant-loop-x : goal.invariant-loop-x
invariant-loop-x l =
    least_from (option_copied l.least) (filter (meets l.exclusions l.others) (drop l.x-index l.list)) ≡ least_from (option_copied l.fn.found) (filter (meets l.exclusions l.others) l.list)
