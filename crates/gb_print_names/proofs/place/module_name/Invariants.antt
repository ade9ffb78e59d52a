use Rattle.std.proofs.Common.{◌≡◌, drop}
use Rattle.gb_print_names.specs.Names.{module_name}
use Rattle.gb_print_names.proofs.place.module_name.Given as goal

abbrev pub invariant-loop-i : goal.invariant-loop-i
invariant-loop-i l = module_name (drop l.i l.bound) l.name ≡ module_name l.bound l.name
