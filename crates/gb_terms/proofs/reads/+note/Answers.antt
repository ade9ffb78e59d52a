use Rattle.std.proofs.Common.{rules, ap, ◌∙◌}
use Rattle.gb_terms.specs.Reads.{noted, term_reads, head_reads, instr_reads}
use Rattle.gb_terms.proofs.NoteSteps.{note_out, note_Equiv, note_If, note_While, note_more}
use Rattle.gb_terms.proofs.reads.+note.Goals as goal

pub note_term-returns : goal.note_term-returns
note_term-returns t c = let e = note_out c.args.seen.now c.args.t.now in search (rules, e)

pub note_terms-loop-t-preserved : goal.note_terms-loop-t-preserved
note_terms-loop-t-preserved t c =
    let e = note_more term_reads c.loop-t.seen c.args.list.now c.loop-t.t-index c.t-item.result c.loop-t-test.true c.t-item.is in search (rules, e)

pub note_head-returns-in_ok-note_subject-in-Equiv : goal.note_head-returns-in_ok-note_subject-in-Equiv
note_head-returns-in_ok-note_subject-in-Equiv t c =
    let e = ap (λ h. noted c.args.seen.now (head_reads h)) c.in-Equiv.is ∙ note_Equiv c.args.seen.now c.in-Equiv.s c.in-Equiv.t in search (rules, e)

pub note_instrs-loop-i-preserved : goal.note_instrs-loop-i-preserved
note_instrs-loop-i-preserved t c =
    let e = note_more instr_reads c.loop-i.seen c.args.list.now c.loop-i.i-index c.i-item.result c.loop-i-test.true c.i-item.is in search (rules, e)

pub note_instr-returns-in_ok-note_cmd-in-If : goal.note_instr-returns-in_ok-note_cmd-in-If
note_instr-returns-in_ok-note_cmd-in-If t c =
    let e = ap (λ i. noted c.args.seen.now (instr_reads i)) c.in-If.is ∙ note_If c.args.seen.now c.in-If.e c.in-If.a c.in-If.b in search (rules, e)

pub note_instr-returns-in_ok-note_term-in-While-2 : goal.note_instr-returns-in_ok-note_term-in-While-2
note_instr-returns-in_ok-note_term-in-While-2 t c =
    let e = ap (λ i. noted c.args.seen.now (instr_reads i)) c.in-While.is ∙ note_While c.args.seen.now c.in-While.e c.in-While.v c.in-While.a in search (rules, e)
