use Rattle.std.proofs.Common.{◌≡◌, map, drop}
use Rattle.std.specs.List.{list_any}
use Rattle.gb_terms.specs.Equal.{is_of}
use Rattle.gb_terms.specs.Reads.{joined, term_reads, instr_reads}
use Rattle.gb_terms.proofs.reads.+reads_var.Given as goal

abbrev pub invariant-reads_var_in_terms-loop-t : goal.invariant-reads_var_in_terms-loop-t
invariant-reads_var_in_terms-loop-t l =
    list_any (is_of l.v) (joined (map term_reads (drop l.t-index l.list))) ≡ list_any (is_of l.v) (joined (map term_reads l.list))

abbrev pub invariant-reads_var_in_instrs-loop-i : goal.invariant-reads_var_in_instrs-loop-i
invariant-reads_var_in_instrs-loop-i l =
    list_any (is_of l.v) (joined (map instr_reads (drop l.i-index l.list))) ≡ list_any (is_of l.v) (joined (map instr_reads l.list))
