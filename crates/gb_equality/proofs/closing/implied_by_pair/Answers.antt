use Rattle.std.proofs.Common.{sym, ap, subst, ◌∙◌}
use Rattle.std.proofs.lemmas.Bool.{false≢true}
use Rattle.gb_closing.specs.Labels.{label_at, labels_at}
use Rattle.gb_equality.specs.Table.{AreJoined}
use Rattle.gb_equality.proofs.Places.{at_place}
use Rattle.gb_equality.proofs.Reading.{joined_congruent, joined_different, settled_pair}
use Rattle.gb_equality.proofs.closing.implied_by_pair.Goals as goal
use Rattle.gb_equality.proofs.closing.implied_by_pair.Goals.{else-have_same_labels-via-then-have_same_labels+else-same_operator, else-have_same_labels-via-else-have_same_labels}

pub returns-then-are_different : goal.returns-then-are_different
returns-then-are_different c =
    joined_different c.args.nodes.now c.requires.table c.args.labels.now c.args.first c.args.second c.index-nodes-first.result c.index-nodes-second.result
    (at_place c.args.nodes.now c.args.first c.index-nodes-first.result c.requires.first_within c.index-nodes-first.is)
    (at_place c.args.nodes.now c.args.second c.index-nodes-second.result c.requires.second_within c.index-nodes-second.is)
    (sym c.label_at-left.ensures ∙ c.if-left-right.true ∙ c.label_at-right.ensures) (c.are_different.ensures.0 c.if-are_different.true)

pub returns-then-left-right : goal.returns-then-left-right
returns-then-left-right c =
    settled_pair c.args.nodes.now c.requires.table c.args.labels.now c.args.first c.args.second c.index-nodes-first.result c.index-nodes-second.result
    (at_place c.args.nodes.now c.args.first c.index-nodes-first.result c.requires.first_within c.index-nodes-first.is)
    (at_place c.args.nodes.now c.args.second c.index-nodes-second.result c.requires.second_within c.index-nodes-second.is)
    (λ o e. sym c.label_at-left.ensures ∙ c.if-left-right.true ∙ c.label_at-right.ensures) (λ d q. false≢true (sym c.if-are_different.false ∙ c.are_different.ensures.1 d))

pub returns-then-same_operator : goal.returns-then-same_operator
returns-then-same_operator c =
    subst (λ x. AreJoined c.args.nodes.now c.args.labels.now x c.label_at-right.result) (sym c.label_at-left.ensures)
    (subst (λ y. AreJoined c.args.nodes.now c.args.labels.now (label_at c.args.labels.now c.args.first) y) (sym c.label_at-right.ensures)
    (joined_congruent c.args.nodes.now c.requires.table c.args.labels.now c.args.first c.args.second c.index-nodes-first.result c.index-nodes-second.result
    (at_place c.args.nodes.now c.args.first c.index-nodes-first.result c.requires.first_within c.index-nodes-first.is)
    (at_place c.args.nodes.now c.args.second c.index-nodes-second.result c.requires.second_within c.index-nodes-second.is)
    c.requires.rows (λ q. c.if-left-right.false (c.label_at-left.ensures ∙ q ∙ sym c.label_at-right.ensures))
    (sym (ap (labels_at c.args.labels.now) c.as_slice.ensures) ∙ c.have_same_labels.ensures.0 c.if-have_same_labels.true ∙ ap (labels_at c.args.labels.now) c.as_slice-2.ensures)
    (c.same_operator.ensures.0 c.if-same_operator.true)))

pub returns : goal.returns
returns c =
    settled_pair c.args.nodes.now c.requires.table c.args.labels.now c.args.first c.args.second c.index-nodes-first.result c.index-nodes-second.result
    (at_place c.args.nodes.now c.args.first c.index-nodes-first.result c.requires.first_within c.index-nodes-first.is)
    (at_place c.args.nodes.now c.args.second c.index-nodes-second.result c.requires.second_within c.index-nodes-second.is)
    (λ o e.
    let no : ⊥ =
    elim c.else-have_same_labels.branch [
      | else-have_same_labels-via-then-have_same_labels+else-same_operator w ↦ false≢true (sym w.if-same_operator.false ∙ w.same_operator.ensures.1 o)
      | else-have_same_labels-via-else-have_same_labels w ↦
          false≢true (sym w.if-have_same_labels.false ∙ c.have_same_labels.ensures.1 (ap (labels_at c.args.labels.now) c.as_slice.ensures ∙ e ∙ sym (ap (labels_at c.args.labels.now) c.as_slice-2.ensures)))
    ] in
    absurd no)
    (λ d q. c.if-left-right.false (c.label_at-left.ensures ∙ q ∙ sym c.label_at-right.ensures))
