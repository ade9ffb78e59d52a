use Rattle.std.proofs.Common.{◌≡◌, ◌++◌, drop, filter}
use Rattle.std.specs.Option.{option_copied}
use Rattle.gb_walk.specs.Clash.{least_from}
use Rattle.gb_prog.specs.Assigned.{is_clashing}
use Rattle.gb_call.specs.Outcomes.{clashing_after, is_clashing_after}
use Rattle.gb_call.proofs.outcomes.clashing_after.Given as goal

abbrev pub invariant-loop-target : goal.invariant-loop-target
invariant-loop-target l =
    least_from (option_copied l.found) (filter (is_clashing l.exclusions l.side l.form) (drop l.target-index l.targets) ++ filter (is_clashing_after l.exclusions l.side l.said l.form) l.written)
    ≡ least_from (option_copied l.fn.before) (clashing_after l.exclusions l.side l.targets l.written l.said l.form)

abbrev pub invariant-loop-global : goal.invariant-loop-global
invariant-loop-global l =
    least_from (option_copied l.found) (filter (is_clashing_after l.exclusions l.side l.said l.form) (drop l.global-index l.written)) ≡ least_from (option_copied l.fn.before) (clashing_after l.exclusions l.side l.targets l.written l.said l.form)
