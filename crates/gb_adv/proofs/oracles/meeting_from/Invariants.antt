use Rattle.std.proofs.Common.{◌≡◌, drop, filter}
use Rattle.std.specs.Option.{option_copied}
use Rattle.gb_walk.specs.Clash.{clashes, least_from}
use Rattle.gb_adv.proofs.oracles.meeting_from.Given as goal

abbrev pub invariant-loop-variable : goal.invariant-loop-variable
invariant-loop-variable l =
    least_from (option_copied l.least) (filter (clashes l.exclusions l.owner) (drop l.variable-index l.list)) ≡ least_from (option_copied l.fn.found) (filter (clashes l.exclusions l.owner) l.list)
