use Rattle.std.proofs.Common.{◌≡◌, drop}
use Rattle.gb_print_names.specs.Text.{each}
use Rattle.gb_print.specs.GoalText.{memory_line}
use Rattle.gb_print.proofs.goal.put_memories.Given as goal

abbrev pub invariant-loop-name : goal.invariant-loop-name
invariant-loop-name l = each memory_line (drop l.name-index l.list) l.text ≡ each memory_line l.list l.initial.text
