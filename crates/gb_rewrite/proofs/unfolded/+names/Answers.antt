use Rattle.std.proofs.Common.{sym, ◌∙◌}
use Rattle.gb_rewrite.specs.Unfolded.{names, instr_names}
use Rattle.gb_rewrite.proofs.Loops.{none_yet, one_is, none_is}
use Rattle.gb_rewrite.proofs.unfolded.+names.Goals as goal

pub any_names-loop-t-preserved : goal.any_names-loop-t-preserved
any_names-loop-t-preserved t c =
    none_yet (names c.args.name.now) c.args.list.now c.loop-t.t-index c.loop-t.invariant c.t-item.result c.loop-t-test.true c.t-item.is (sym c.names.ensures ∙ c.if-names.false)

pub any_names-returns-then-names : goal.any_names-returns-then-names
any_names-returns-then-names t c =
    one_is (names c.args.name.now) c.args.list.now c.loop-t.t-index c.loop-t.invariant c.t-item.result c.loop-t-test.true c.t-item.is (sym c.names.ensures ∙ c.if-names.true)

pub any_names-returns : goal.any_names-returns
any_names-returns t c = none_is (names c.args.name.now) c.args.list.now c.loop-t.t-index c.loop-t.invariant c.loop-t-test.false

pub any_statement_names-loop-i-preserved : goal.any_statement_names-loop-i-preserved
any_statement_names-loop-i-preserved t c =
    none_yet (instr_names c.args.name.now) c.args.list.now c.loop-i.i-index c.loop-i.invariant c.i-item.result c.loop-i-test.true c.i-item.is (sym c.instr_names.ensures ∙ c.if-instr_names.false)

pub any_statement_names-returns-then-instr_names : goal.any_statement_names-returns-then-instr_names
any_statement_names-returns-then-instr_names t c =
    one_is (instr_names c.args.name.now) c.args.list.now c.loop-i.i-index c.loop-i.invariant c.i-item.result c.loop-i-test.true c.i-item.is (sym c.instr_names.ensures ∙ c.if-instr_names.true)

pub any_statement_names-returns : goal.any_statement_names-returns
any_statement_names-returns t c = none_is (instr_names c.args.name.now) c.args.list.now c.loop-i.i-index c.loop-i.invariant c.loop-i-test.false
