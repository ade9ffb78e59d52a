use Rattle.std.proofs.Common.{◌≡◌, drop, map}
use Rattle.gb_names.specs.Locals.{first_some, read_type}
use Rattle.gb_names.proofs.locals.+read_type.Given as goal

abbrev pub invariant-read_type_among-loop-term : goal.invariant-read_type_among-loop-term
invariant-read_type_among-loop-term l = first_some (map (read_type l.side l.name) (drop l.term-index l.list)) ≡ first_some (map (read_type l.side l.name) l.list)
