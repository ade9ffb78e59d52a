use Rattle.std.proofs.Common.{◌≡◌, IfOk, unwrap_or, option_map, subst, sym, ap, ◌∙◌}
use Rattle.gb_terms.specs.declared.term.Head.TheVariants.{Call}
use Rattle.gb_walk.specs.Raise.{term_raised, instr_raised}
use Rattle.gb_walk.proofs.MadeLists.{args_more, args_done, all_more, of_answer}
use Rattle.gb_walk.proofs.RaiseSteps.{cmd_raised_made, call_raised_made}
use Rattle.gb_walk.proofs.raise.+raise.Goals as goal

pub moved_args-loop-i-preserved : goal.moved_args-loop-i-preserved
moved_args-loop-i-preserved t c =
    args_more term_raised c.args.args.now c.loop-i.i c.index-args-i.result c.loop-i-test.true c.index-args-i.is c.loop-i.out c.put_term.new.out c.in_ok-made.made
    c.in_ok-put_term.ensures c.args.from c.args.last c.argument_from-seen.result c.argument_from-seen.ensures c.in_ok-made.ensures c.loop-i.invariant

pub moved_args-returns : goal.moved_args-returns
moved_args-returns t c =
    subst (λ v. IfOk c.finished_terms.result (λ made. unwrap_or made c.args.args.now ≡ v))
    (args_done term_raised c.args.from c.args.last c.args.args.now c.loop-i.i c.loop-i.out c.loop-i.invariant c.loop-i-test.false)
    c.finished_terms.ensures

pub moved_cmd-loop-i-preserved : goal.moved_cmd-loop-i-preserved
moved_cmd-loop-i-preserved t c =
    all_more instr_raised c.as_slice-list.result.now c.loop-i.i c.index-list-i.result c.loop-i-test.true c.index-list-i.is c.loop-i.out c.put_instr.new.out c.in_ok-made.made
    c.in_ok-put_instr.ensures c.args.from c.in_ok-made.ensures c.loop-i.invariant

pub moved_cmd-returns : goal.moved_cmd-returns
moved_cmd-returns t c =
    subst (λ v. IfOk c.finished_cmd.result (λ made. unwrap_or made c.args.cmd.now ≡ v))
    (cmd_raised_made c.args.cmd.now c.args.from c.as_slice-list.result.now c.loop-i.i c.loop-i.out c.as_slice-list.ensures c.loop-i.invariant c.loop-i-test.false)
    c.finished_cmd.ensures

pub moved_instr-returns-in_ok-args-in-Call : goal.moved_instr-returns-in_ok-args-in-Call
moved_instr-returns-in_ok-args-in-Call t c =
    of_answer c.rebuilt_call.result (option_map (Call c.in-Call.targets c.in-Call.procedure) c.in_ok-args-in-Call.args) (λ made. unwrap_or made c.args.instr.now ≡ instr_raised c.args.instr.now c.args.from)
    (call_raised_made c.args.instr.now c.in-Call.targets c.in-Call.procedure c.in-Call.args c.as_slice.result.now c.args.from c.in_ok-args-in-Call.args c.in-Call.is c.as_slice.ensures c.in_ok-args-in-Call.ensures)
    c.rebuilt_call.ensures
