use Rattle.std.proofs.Common.{◌≡◌, map, sym, ap, subst, IfOk, ◌∙◌}
use Rattle.gb_terms.specs.declared.term.Term.{out-Term}
use Rattle.gb_terms.specs.Make.{node}
use Rattle.gb_labels.specs.Labels.{labelled_ty}
use Rattle.gb_labels.specs.Labelled.{labelled_head, labelled}
use Rattle.gb_labels.proofs.Layers.{labelled_out, unlabelled_by}
use Rattle.gb_labels.proofs.labelled.+labelled.Goals as goal

pub labelled-returns-then-is_empty : goal.labelled-returns-then-is_empty
labelled-returns-then-is_empty t c =
    subst (λ x. IfOk c.share.result (λ made. made ≡ x)) (unlabelled_by c.args.list.now c.args.t.now (sym c.is_empty.ensures ∙ c.if-is_empty.true)) c.share.ensures

pub labelled-returns : goal.labelled-returns
labelled-returns t c =
    let ls = c.args.list.now in
    let of = out-Term c.args.t.now in
    subst (λ x. IfOk c.labelled_node.result (λ made. made ≡ x))
    (ap (λ us. node (labelled_head ls of.head) us (labelled_ty ls of.ty)) (c.in_ok-args.ensures ∙ ap (map (labelled ls)) c.as_slice.ensures)
    ∙ sym (labelled_out ls c.args.t.now)) c.labelled_node.ensures
