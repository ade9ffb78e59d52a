use Rattle.std.proofs.Common.{◌≡◌, drop}
use Rattle.gb_print_names.specs.Text.{each}
use Rattle.gb_print_names.specs.Occurring.{term_locals}
use Rattle.gb_print_names.proofs.occurring.+locals.Given as goal

abbrev pub invariant-note_terms-loop-t : goal.invariant-note_terms-loop-t
invariant-note_terms-loop-t l = each term_locals (drop l.t-index l.list) l.names ≡ each term_locals l.list l.initial.names
