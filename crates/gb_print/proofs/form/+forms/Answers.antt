use Rattle.std.proofs.Common.{rules, ◌<◌, true, codes, ◌∷◌, length, get_or, sym, subst, ap, ◌∙◌, arith}
use Rattle.std.specs.List.{between}
use Rattle.std.proofs.lemmas.Slice.{first_rest}
use Rattle.gb_print_names.specs.BoundNames.{place}
use Rattle.gb_print_names.specs.Text.{◌▸◌, word}
use Rattle.gb_print.specs.FormText.{form, forms, shown, all_shown, instr_opening, instr_text, subject_text}
use Rattle.gb_print.proofs.EachMore.{page_more, page_made_more}
use Rattle.gb_print.proofs.FormSteps.{subject_Proc, subject_Body, instr_Assign, instr_Sample, instr_Call, instr_If, instr_While, opening_Assign, opening_Sample, opening_Call, body_done, forms_done, arguments_more}
use Rattle.gb_print.proofs.form.+forms.Goals as goal

pub put_arguments-loop-i-preserved : goal.put_arguments-loop-i-preserved
put_arguments-loop-i-preserved t c =
    arguments_more c.args.head.now c.right_first-first.result c.args.known c.args.args.now c.loop-i.i c.index-args-i.result c.loop-i-test.true c.index-args-i.is
    (place c.args.at.now) c.args.page.now.bound c.loop-i.page.bound c.loop-i.invariant.same
    c.put_argument.new.page c.is_last-last.result c.tells-told.result _ c.loop-i.page.text c.is_last-last.ensures c.tells-told.ensures c.in_ok-put_argument.ensures c.loop-i.invariant.text

pub put_body-loop-i-preserved : goal.put_body-loop-i-preserved
put_body-loop-i-preserved t c =
    let s = c.as_slice-i-items.ensures in
    page_more c.args.c.now.list c.loop-i.i-index c.i-item.result (subst (λ ys. c.loop-i.i-index < length ys) s c.loop-i-test.true)
    (c.i-item.is ∙ ap (λ ys. get_or ys c.loop-i.i-index c.i-item.result) s) (codes " ") (λ k i. instr_text i (place c.args.at.now k))
    c.args.page.now.bound c.loop-i.page _ c.put-in-loop-i.new.self _ c.in_ok-put-2.ensures c.in_ok-put_instr.ensures c.loop-i.invariant.same c.loop-i.invariant.text

pub put_body-returns : goal.put_body-returns
put_body-returns t c =
    let e = body_done c.args.c.now c.as_slice-i-items.result.now c.loop-i.i-index (place c.args.at.now c.args.page.now.bound) c.args.page.now.text c.put.new.self
    c.loop-i.page.text c.as_slice-i-items.ensures c.loop-i-test.false c.in_ok-put.ensures c.loop-i.invariant.text in
    search (rules, e, c.loop-i.invariant.same)

pub put_subject-returns-in-Proc : goal.put_subject-returns-in-Proc
put_subject-returns-in-Proc t c =
    let at = place c.args.at.now c.args.page.now.bound in
    let e = ap (λ s. subject_text s at c.args.page.now.text) c.in-Proc.is ∙ subject_Proc c.in-Proc.procedure at c.args.page.now.text in
    search (rules, e)

pub put_subject-returns-in-Body : goal.put_subject-returns-in-Body
put_subject-returns-in-Body t c =
    let at = place c.args.at.now c.args.page.now.bound in
    let e = ap (λ s. subject_text s at c.args.page.now.text) c.in-Body.is ∙ subject_Body c.in-Body.c at c.args.page.now.text in
    search (rules, e)

pub put_instr-returns-in-Assign : goal.put_instr-returns-in-Assign
put_instr-returns-in-Assign t c =
    let b = c.args.page.now.bound in
    let at = place c.args.at.now b in
    let before = c.args.page.now.text in
    let o = ap (λ i. instr_opening i b before) c.in-Assign.is ∙ opening_Assign c.in-Assign.field-0 c.in-Assign.e b before in
    let e = ap (λ i. instr_text i at before) c.in-Assign.is ∙ instr_Assign c.in-Assign.field-0 c.in-Assign.e at before ∙ sym (ap (form (shown c.in-Assign.e) true at ▸ word (codes ";")) o) in
    search (rules, e)

pub put_instr-returns-in-Sample : goal.put_instr-returns-in-Sample
put_instr-returns-in-Sample t c =
    let b = c.args.page.now.bound in
    let at = place c.args.at.now b in
    let before = c.args.page.now.text in
    let o = ap (λ i. instr_opening i b before) c.in-Sample.is ∙ opening_Sample c.in-Sample.field-0 c.in-Sample.d b before in
    let e = ap (λ i. instr_text i at before) c.in-Sample.is ∙ instr_Sample c.in-Sample.field-0 c.in-Sample.d at before ∙ sym (ap (form (shown c.in-Sample.d) true at ▸ word (codes ";")) o) in
    search (rules, e)

pub put_instr-returns-in-Call : goal.put_instr-returns-in-Call
put_instr-returns-in-Call t c =
    let b = c.args.page.now.bound in
    let at = place c.args.at.now b in
    let before = c.args.page.now.text in
    let o = ap (λ i. instr_opening i b before) c.in-Call.is ∙ opening_Call c.in-Call.field-0 c.in-Call.field-1 c.in-Call.args b before in
    let e = ap (λ i. instr_text i at before) c.in-Call.is ∙ instr_Call c.in-Call.field-0 c.in-Call.field-1 c.in-Call.args at before ∙ sym (ap (forms (all_shown c.in-Call.args) at ▸ word (codes ");")) o) in
    search (rules, e)

pub put_instr-returns-in_ok-put_body-in-If : goal.put_instr-returns-in_ok-put_body-in-If
put_instr-returns-in_ok-put_body-in-If t c =
    let at = place c.args.at.now c.args.page.now.bound in
    let o = ap (λ i. instr_opening i at.bound c.args.page.now.text) c.in-If.is in
    let e = ap (λ i. instr_text i at c.args.page.now.text) c.in-If.is ∙ instr_If c.in-If.test c.in-If.yes c.in-If.no at c.args.page.now.text in
    search (rules, o, e)

pub put_instr-returns-in_ok-put-in-While : goal.put_instr-returns-in_ok-put-in-While
put_instr-returns-in_ok-put-in-While t c =
    let at = place c.args.at.now c.args.page.now.bound in
    let o = ap (λ i. instr_opening i at.bound c.args.page.now.text) c.in-While.is in
    let e = ap (λ i. instr_text i at c.args.page.now.text) c.in-While.is ∙ instr_While c.in-While.guard c.in-While.variant c.in-While.c at c.args.page.now.text in
    search (rules, o, e)

pub put_given-returns : goal.put_given-returns
put_given-returns t c =
    let q = forms_done c.args.list.now _ c.first-item.result c.loop-t.t-index (place c.args.at.now) c.args.page.now.bound c.args.page.now.text c.put_form.new.page c.loop-t.page
    (first_rest c.args.list.now c.first-item.result (omega (arith, c.in-len1-up.len_at_least))
    ∙ ap (λ y. y ∷ between 1 (length c.args.list.now) c.args.list.now) (sym c.first-item.is))
    c.loop-t-test.false c.in_ok-put_form.ensures c.loop-t.invariant.same c.loop-t.invariant.text in
    let e = ap (λ r. word (codes ");") r.text) q in
    let b = ap (λ r. r.bound) q in
    search (rules, e, b)

pub put_given-loop-t-preserved : goal.put_given-loop-t-preserved
put_given-loop-t-preserved t c =
    page_made_more _ c.loop-t.t-index c.t-item.result c.loop-t-test.true c.t-item.is (codes ", ") shown (λ k x. form x true (place c.args.at.now k))
    _ c.loop-t.page _ c.put-in-loop-t.new.self _ c.in_ok-put.ensures c.in_ok-put_form-2.ensures c.loop-t.invariant.same c.loop-t.invariant.text
