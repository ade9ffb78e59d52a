use Rattle.std.proofs.Common.{◌≡◌, IfOk, map, ap, sym, subst, ◌∙◌}
use Rattle.gb_terms.specs.declared.term.Head.TheVariants.{Call, If, While}
use Rattle.gb_walk.specs.Change.{term_changed}
use Rattle.gb_inline.specs.Renamed.{statement_renamed, var_renamed}
use Rattle.gb_inline.proofs.RenamedSteps.{renamed_call, renamed_if, renamed_while}
use Rattle.gb_inline.proofs.renamed.+renamed.Goals as goal

pub statement_renamed-returns-in-Call : goal.statement_renamed-returns-in-Call
statement_renamed-returns-in-Call t c =
    let x = c.in-Call in
    let cs = c.args.reads.now in
    let rs = c.args.names.now in
    let made = c.call_renamed in
    let e : Call (map (var_renamed rs) c.as_slice-in-Call.result.now) x.procedure (map (λ e. term_changed e cs) c.as_slice-in-Call-2.result.now) ≡ statement_renamed cs rs c.args.statement.now =
    (λ i. Call (map (var_renamed rs) (c.as_slice-in-Call.ensures i)) x.procedure (map (λ e. term_changed e cs) (c.as_slice-in-Call-2.ensures i)))
    ∙ sym (ap (statement_renamed cs rs) x.is ∙ renamed_call cs rs x.targets x.procedure x.args) in
    subst (λ i. IfOk made.result (λ s. s ≡ i)) e made.ensures

pub statement_renamed-returns-in_ok-changed-in-If : goal.statement_renamed-returns-in_ok-changed-in-If
statement_renamed-returns-in_ok-changed-in-If t c =
    let x = c.in-If in
    let cs = c.args.reads.now in
    let rs = c.args.names.now in
    (λ i. If (c.in_ok-changed-in-If.ensures i) (record { list = c.in_ok-yes-in-If.ensures i }) (record { list = c.in_ok-no-in-If.ensures i }))
    ∙ sym (ap (statement_renamed cs rs) x.is ∙ renamed_if cs rs x.test x.yes x.no)

pub statement_renamed-returns-in_ok-changed-in-While : goal.statement_renamed-returns-in_ok-changed-in-While
statement_renamed-returns-in_ok-changed-in-While t c =
    let x = c.in-While in
    let cs = c.args.reads.now in
    let rs = c.args.names.now in
    (λ i. While (c.in_ok-changed-in-While.ensures i) (c.in_ok-variant-in-While.ensures i) (record { list = c.in_ok-body-in-While.ensures i }))
    ∙ sym (ap (statement_renamed cs rs) x.is ∙ renamed_while cs rs x.guard x.variant x.body)
