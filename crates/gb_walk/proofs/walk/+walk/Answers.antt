use Rattle.std.proofs.Common.{◌≡◌, IfOk, unwrap_or, option_map, subst, sym, ap, ◌∙◌}
use Rattle.gb_terms.specs.declared.term.Head.TheVariants.{Call}
use Rattle.gb_walk.specs.Change.{term_changed, instr_changed}
use Rattle.gb_walk.proofs.MadeLists.{args_more, args_done, all_more, of_answer}
use Rattle.gb_walk.proofs.ChangeSteps.{cmd_changed_made, call_changed_made}
use Rattle.gb_walk.proofs.walk.+walk.Goals as goal

pub made_args-loop-i-preserved : goal.made_args-loop-i-preserved
made_args-loop-i-preserved t c =
    args_more term_changed c.args.args.now c.loop-i.i c.index-args-i.result c.loop-i-test.true c.index-args-i.is c.loop-i.out c.put_term.new.out c.in_ok-made.made
    c.in_ok-put_term.ensures c.args.changes.now c.args.last.now c.argument_sees-seen.result.now c.argument_sees-seen.ensures c.in_ok-made.ensures c.loop-i.invariant

pub made_args-returns : goal.made_args-returns
made_args-returns t c =
    subst (λ v. IfOk c.finished_terms.result (λ made. unwrap_or made c.args.args.now ≡ v))
    (args_done term_changed c.args.changes.now c.args.last.now c.args.args.now c.loop-i.i c.loop-i.out c.loop-i.invariant c.loop-i-test.false)
    c.finished_terms.ensures

pub made_cmd-loop-i-preserved : goal.made_cmd-loop-i-preserved
made_cmd-loop-i-preserved t c =
    all_more instr_changed c.as_slice-list.result.now c.loop-i.i c.index-list-i.result c.loop-i-test.true c.index-list-i.is c.loop-i.out c.put_instr.new.out c.in_ok-made.made
    c.in_ok-put_instr.ensures c.args.changes.now c.in_ok-made.ensures c.loop-i.invariant

pub made_cmd-returns : goal.made_cmd-returns
made_cmd-returns t c =
    subst (λ v. IfOk c.finished_cmd.result (λ made. unwrap_or made c.args.cmd.now ≡ v))
    (cmd_changed_made c.args.cmd.now c.args.changes.now c.as_slice-list.result.now c.loop-i.i c.loop-i.out c.as_slice-list.ensures c.loop-i.invariant c.loop-i-test.false)
    c.finished_cmd.ensures

pub made_instr-returns-in_ok-args-in-Call : goal.made_instr-returns-in_ok-args-in-Call
made_instr-returns-in_ok-args-in-Call t c =
    of_answer c.rebuilt_call.result (option_map (Call c.in-Call.targets c.in-Call.procedure) c.in_ok-args-in-Call.args) (λ made. unwrap_or made c.args.instr.now ≡ instr_changed c.args.instr.now c.args.changes.now)
    (call_changed_made c.args.instr.now c.in-Call.targets c.in-Call.procedure c.in-Call.args c.as_slice.result.now c.args.changes.now c.in_ok-args-in-Call.args c.in-Call.is c.as_slice.ensures c.in_ok-args-in-Call.ensures)
    c.rebuilt_call.ensures
