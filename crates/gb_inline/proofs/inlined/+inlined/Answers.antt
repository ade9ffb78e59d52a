use Rattle.std.proofs.Common.{◌≡◌, IfOk, Some, None, ap, sym, subst, ◌∙◌}
use Rattle.gb_inline.specs.Asking.{expansion}
use Rattle.gb_inline.specs.Expanded.{expanded}
use Rattle.gb_inline.specs.Inlined.{asked, each_inlined, statement_inlined}
use Rattle.gb_inline.proofs.InlinedSteps.{inlined_call, inlined_false, inlined_neither, inlined_no_turn, inlined_true, inlined_turn}
use Rattle.gb_inline.proofs.inlined.+inlined.Goals as goal

pub statement_inlined-returns-in-Some : goal.statement_inlined-returns-in-Some
statement_inlined-returns-in-Some t c =
    let x = c.in-If in
    let e = expansion c.args.asks.now c.args.used.now in
    let q : Some c.in-Some.made ≡ each_inlined e x.yes.list = sym c.in-Some.is ∙ c.in_ok-made-in-If.ensures ∙ ap (each_inlined e) c.as_slice-in-If.ensures in
    ap Some c.in_ok-with_true_side-in-If.ensures ∙ inlined_true e c.args.statement.now x.test x.yes x.no c.in-Some.made x.is q

pub statement_inlined-returns-in_ok-found-in-Call : goal.statement_inlined-returns-in_ok-found-in-Call
statement_inlined-returns-in_ok-found-in-Call t c =
    let x = c.in-Call in
    let asks = c.args.asks.now in
    let used = c.args.used.now in
    let made = c.expanded in
    let f : c.in_ok-found-in-Call.found ≡ asked asks.scope.now asks.calls.now x.procedure = c.in_ok-found-in-Call.ensures ∙ ap (asked asks.scope.now asks.calls.now) c.get.ensures in
    let e : expanded used c.in_ok-found-in-Call.found x.targets c.as_slice.result.now ≡ statement_inlined (expansion asks used) c.args.statement.now =
    (λ i. expanded used (f i) x.targets (c.as_slice.ensures i)) ∙ sym (ap (statement_inlined (expansion asks used)) x.is ∙ inlined_call (expansion asks used) x.targets x.procedure x.args) in
    subst (λ o. IfOk made.result (λ m. m ≡ o)) e made.ensures

pub statement_inlined-returns-in_ok-with_false_side-in-Some-2 : goal.statement_inlined-returns-in_ok-with_false_side-in-Some-2
statement_inlined-returns-in_ok-with_false_side-in-Some-2 t c =
    let x = c.in-If in
    let e = expansion c.args.asks.now c.args.used.now in
    let q : None ≡ each_inlined e x.yes.list = sym c.in_default-2.is ∙ c.in_ok-made-in-If.ensures ∙ ap (each_inlined e) c.as_slice-in-If.ensures in
    let r : Some c.in-Some-2.made ≡ each_inlined e x.no.list = sym c.in-Some-2.is ∙ c.in_ok-made-in-If-2.ensures ∙ ap (each_inlined e) c.as_slice-in-If-2.ensures in
    ap Some c.in_ok-with_false_side-in-Some-2.ensures ∙ inlined_false e c.args.statement.now x.test x.yes x.no c.in-Some-2.made x.is q r

pub statement_inlined-returns-in-None : goal.statement_inlined-returns-in-None
statement_inlined-returns-in-None t c =
    let x = c.in-If in
    let e = expansion c.args.asks.now c.args.used.now in
    let q : None ≡ each_inlined e x.yes.list = sym c.in_default-2.is ∙ c.in_ok-made-in-If.ensures ∙ ap (each_inlined e) c.as_slice-in-If.ensures in
    let r : None ≡ each_inlined e x.no.list = sym c.in-None.is ∙ c.in_ok-made-in-If-2.ensures ∙ ap (each_inlined e) c.as_slice-in-If-2.ensures in
    inlined_neither e c.args.statement.now x.test x.yes x.no x.is q r

pub statement_inlined-returns-in_ok-with_turn-in-Some-3 : goal.statement_inlined-returns-in_ok-with_turn-in-Some-3
statement_inlined-returns-in_ok-with_turn-in-Some-3 t c =
    let x = c.in-While in
    let e = expansion c.args.asks.now c.args.used.now in
    let q : Some c.in-Some-3.made ≡ each_inlined e x.body.list = sym c.in-Some-3.is ∙ c.in_ok-made-in-While.ensures ∙ ap (each_inlined e) c.as_slice-in-While.ensures in
    ap Some c.in_ok-with_turn-in-Some-3.ensures ∙ inlined_turn e c.args.statement.now x.guard x.variant x.body c.in-Some-3.made x.is q

pub statement_inlined-returns-in-None-2 : goal.statement_inlined-returns-in-None-2
statement_inlined-returns-in-None-2 t c =
    let x = c.in-While in
    let e = expansion c.args.asks.now c.args.used.now in
    let q : None ≡ each_inlined e x.body.list = sym c.in-None-2.is ∙ c.in_ok-made-in-While.ensures ∙ ap (each_inlined e) c.as_slice-in-While.ensures in
    inlined_no_turn e c.args.statement.now x.guard x.variant x.body x.is q
