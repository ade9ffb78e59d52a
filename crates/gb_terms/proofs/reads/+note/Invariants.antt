use Rattle.std.proofs.Common.{◌≡◌, map, drop}
use Rattle.gb_terms.specs.Reads.{joined, term_reads, instr_reads, noted}
use Rattle.gb_terms.proofs.reads.+note.Given as goal

abbrev pub invariant-note_terms-loop-t : goal.invariant-note_terms-loop-t
invariant-note_terms-loop-t l =
    noted l.seen (joined (map term_reads (drop l.t-index l.list))) ≡ noted l.initial.seen (joined (map term_reads l.list))

abbrev pub invariant-note_instrs-loop-i : goal.invariant-note_instrs-loop-i
invariant-note_instrs-loop-i l =
    noted l.seen (joined (map instr_reads (drop l.i-index l.list))) ≡ noted l.initial.seen (joined (map instr_reads l.list))
