use Rattle.std.proofs.Common.{rules, ◌+◌, drop, ap, sym, ◌∙◌, arith}
use Rattle.std.proofs.lemmas.List.{drop_all}
use Rattle.gb_names.specs.Environment.{environment}
use Rattle.gb_names.proofs.Answers.{fails_as}
use Rattle.gb_names.proofs.Parts.{left}
use Rattle.gb_elab.specs.Equalities.{with_equalities}
use Rattle.gb_elab.proofs.Equations.{at_end, one_more, refuses}
use Rattle.gb_elab.proofs.equalities.with_equalities.Goals as goal

pub loop-x-preserved : goal.loop-x-preserved
loop-x-preserved c =
    let at = environment c.args.at.now in
    let bound = c.args.bound.now in
    let xs = c.args.list.now in
    let i = c.loop-x.x-index in
    let x = c.x-item.result in
    let f = c.loop-x.form in
    sym (one_more at bound f c.in_ok-next.next c.in_ok-form.form x (drop (i + 1) xs) c.in_ok-next.ensures c.in_ok-form.ensures)
    ∙ ap (with_equalities at bound f) (sym (left xs i x c.loop-x-test.true c.x-item.is))
    ∙ c.loop-x.invariant

pub returns-in_err-next : goal.returns-in_err-next
returns-in_err-next c =
    let at = environment c.args.at.now in
    let bound = c.args.bound.now in
    let xs = c.args.list.now in
    let i = c.loop-x.x-index in
    let x = c.x-item.result in
    let f = c.loop-x.form in
    let fails = fails_as _ _ _ (sym c.loop-x.invariant ∙ ap (with_equalities at bound f) (left xs i x c.loop-x-test.true c.x-item.is))
    (refuses at bound f x (drop (i + 1) xs) _ c.in_err-next.ensures) in
    search rules

pub returns : goal.returns
returns c =
    let at = environment c.args.at.now in
    let bound = c.args.bound.now in
    let f = c.loop-x.form in
    sym c.loop-x.invariant ∙ ap (with_equalities at bound f) (drop_all c.loop-x.x-index c.args.list.now (omega arith)) ∙ at_end at bound f
