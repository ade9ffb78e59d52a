use Rattle.std.proofs.Common.{◌≡◌, filter, drop}
use Rattle.std.specs.Option.{option_copied}
use Rattle.gb_walk.specs.Clash.{least_from}
use Rattle.gb_prog.specs.Assigned.{clashing, is_clashing}
use Rattle.gb_prog.proofs.assigned.clashing.Given as goal

abbrev pub invariant-loop-target : goal.invariant-loop-target
invariant-loop-target l = least_from (option_copied l.found) (filter (is_clashing l.exclusions l.side l.form) (drop l.target-index l.targets)) ≡ clashing l.exclusions l.side l.targets l.form
