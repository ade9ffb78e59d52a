use Rattle.std.proofs.Common.{◌≡◌, drop}
use Rattle.gb_print_names.specs.Names.{constants}
use Rattle.gb_print_names.proofs.place.constants.Given as goal

abbrev pub invariant-loop-e : goal.invariant-loop-e
invariant-loop-e l = constants (drop l.e-index l.enumerations) l.name ≡ constants l.enumerations l.name
