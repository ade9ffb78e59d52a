use Rattle.std.proofs.Common.{◌≡◌, map, take}
use Rattle.std.specs.List.{filter}
use Rattle.std.specs.Option.{option_copied}
use Rattle.gb_walk.specs.Clash.{all_of, variables_read, clashes_beside, least_from}
use Rattle.gb_walk.proofs.clash.+clash.Given as goal

abbrev pub invariant-in_terms-loop-i : goal.invariant-in_terms-loop-i
invariant-in_terms-loop-i l =
    option_copied l.least ≡ least_from (option_copied l.fn.found) (filter (clashes_beside l.exclusions l.x) (all_of (map (variables_read l.side) (take l.i l.list))))
