use Rattle.std.proofs.Common.{◌≡◌, drop}
use Rattle.gb_print_names.specs.Text.{each}
use Rattle.gb_print.specs.GoalText.{with_enumeration}
use Rattle.gb_print.proofs.goal.note_enumerations.Given as goal

abbrev pub invariant-loop-e : goal.invariant-loop-e
invariant-loop-e l = each with_enumeration (drop l.e-index l.list) l.names ≡ each with_enumeration l.list l.initial.names
