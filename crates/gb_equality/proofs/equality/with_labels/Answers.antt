use Rattle.std.proofs.Common.{◌<◌, [], ◌∷◌, ◌++◌, length, ap, sym, ◌∙◌, arith}
use Rattle.gb_closing.specs.Labels.{label_at}
use Rattle.gb_equality.proofs.Answering.{labels_more}
use Rattle.gb_equality.proofs.equality.with_labels.Goals as goal

pub loop-at-preserved : goal.loop-at-preserved
loop-at-preserved c =
    let within : c.loop-at.at < length c.args.labels.now = omega arith in
    c.in_ok-push.ensures.ok
    ∙ ap (λ t. c.loop-at.list ++ record { term = t; label = c.label_at-label.result } ∷ []) (c.in_ok-term.ensures ∙ sym (ap (λ n. n.term) c.index-nodes-at.is))
    ∙ ap (λ l. c.loop-at.list ++ record { term = c.index-nodes-at.result.term; label = l } ∷ []) c.label_at-label.ensures
    ∙ ap (λ xs. xs ++ record { term = c.index-nodes-at.result.term; label = label_at c.args.labels.now c.loop-at.at } ∷ []) c.loop-at.invariant
    ∙ sym (labels_more c.args.nodes.now c.args.labels.now c.loop-at.at c.index-nodes-at.result c.loop-at-test.true within c.index-nodes-at.is)
