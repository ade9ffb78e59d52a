use Rattle.std.proofs.Common.{◌≡◌, map, drop}
use Rattle.gb_walk.specs.Layers.{seen_by}
use Rattle.gb_print_names.specs.Open.{first_found, type_read}
use Rattle.gb_print_names.proofs.open.+found.Given as goal

abbrev pub invariant-type_read_in-loop-i : goal.invariant-type_read_in-loop-i
invariant-type_read_in-loop-i l =
    first_found (seen_by l.k l.last (map type_read (drop l.i l.args))) ≡ first_found (seen_by l.k l.last (map type_read l.args))
