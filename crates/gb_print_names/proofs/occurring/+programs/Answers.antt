use Rattle.std.proofs.Common.{rules, ap, ◌∙◌}
use Rattle.gb_print_names.specs.Occurring.{instr_locals}
use Rattle.gb_print_names.proofs.Lists.{each_more}
use Rattle.gb_print_names.proofs.LocalSteps.{call_is, if_is, while_is}
use Rattle.gb_print_names.proofs.occurring.+programs.Goals as goal

pub note_instr-returns-in_ok-note_vars-in-Call : goal.note_instr-returns-in_ok-note_vars-in-Call
note_instr-returns-in_ok-note_vars-in-Call t c =
    let e = ap (λ i. instr_locals i c.args.names.now) c.in-Call.is ∙ call_is c.in-Call.targets c.in-Call.field-1 c.in-Call.args c.args.names.now in search (rules, e)

pub note_instr-returns-in_ok-note_instrs-in-If : goal.note_instr-returns-in_ok-note_instrs-in-If
note_instr-returns-in_ok-note_instrs-in-If t c =
    let e = ap (λ i. instr_locals i c.args.names.now) c.in-If.is ∙ if_is c.in-If.e c.in-If.a c.in-If.b c.args.names.now in search (rules, e)

pub note_instr-returns-in_ok-note_term-in-While-2 : goal.note_instr-returns-in_ok-note_term-in-While-2
note_instr-returns-in_ok-note_term-in-While-2 t c =
    let e = ap (λ i. instr_locals i c.args.names.now) c.in-While.is ∙ while_is c.in-While.e c.in-While.v c.in-While.a c.args.names.now in search (rules, e)

pub note_instrs-loop-i-preserved : goal.note_instrs-loop-i-preserved
note_instrs-loop-i-preserved t c =
    each_more _ c.loop-i.i-index c.i-item.result c.loop-i-test.true c.i-item.is instr_locals c.loop-i.names _ _ c.in_ok-note_instr.ensures c.loop-i.invariant
