use Rattle.std.proofs.Common.{rules, ap, ◌++◌, ◌∙◌, arith}
use Rattle.gb_walk.specs.Clash.{variables_read}
use Rattle.gb_trans.proofs.ReadSteps.{more_read, term_behind}
use Rattle.gb_trans.proofs.reads.+variables.Goals as goal

pub each_variables_read-loop-i-preserved : goal.each_variables_read-loop-i-preserved
each_variables_read-loop-i-preserved t c =
    c.in_ok-all.ensures
    ∙ ap (λ l. l ++ variables_read c.args.side.now c.index-list-i.result) c.loop-i.invariant
    ∙ more_read c.args.side.now c.args.found c.args.list.now c.loop-i.i c.index-list-i.result (omega (arith, c.requires, c.loop-i-test.true)) c.index-list-i.is

pub variables_read-returns : goal.variables_read-returns
variables_read-returns t c =
    let e = term_behind c.args.side.now c.args.found c.args.term.now in
    let n = c.outside-count.ensures.many in
    search (rules, e, n)
