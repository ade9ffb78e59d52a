use Rattle.std.proofs.Common.{◌≡◌, drop}
use Rattle.gb_print_names.specs.Text.{each}
use Rattle.gb_print_names.specs.Occurring.{instr_locals}
use Rattle.gb_print_names.proofs.occurring.+programs.Given as goal

abbrev pub invariant-note_instrs-loop-i : goal.invariant-note_instrs-loop-i
invariant-note_instrs-loop-i l = each instr_locals (drop l.i-index l.list) l.names ≡ each instr_locals l.list l.initial.names
