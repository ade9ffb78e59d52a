use Rattle.std.proofs.Common.{◌≡◌, drop}
use Rattle.gb_print_names.specs.Text.{each}
use Rattle.gb_print_names.specs.Occurring.{local}
use Rattle.gb_print_names.proofs.occurring.note_vars.Given as goal

abbrev pub invariant-loop-x : goal.invariant-loop-x
invariant-loop-x l = each local (drop l.x-index l.list) l.names ≡ each local l.list l.initial.names
