use Rattle.std.proofs.Common.{◌≡◌, drop, filter}
use Rattle.std.specs.Option.{option_copied}
use Rattle.gb_walk.specs.Clash.{least_from}
use Rattle.gb_prog.specs.Assigned.{is_clashing}
use Rattle.gb_loops.proofs.both_loops.clashing_from.Given as goal

abbrev pub invariant-loop-variable : goal.invariant-loop-variable
invariant-loop-variable l =
    least_from (option_copied l.least) (filter (is_clashing l.exclusions l.side l.form) (drop l.variable-index l.list)) ≡ least_from (option_copied l.fn.found) (filter (is_clashing l.exclusions l.side l.form) l.list)
