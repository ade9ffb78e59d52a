use Rattle.std.proofs.Common.{get_or, ap, ◌∙◌}
use Rattle.gb_closing.specs.Labels.{labels_at}
use Rattle.gb_equality.proofs.Places.{at_place}
use Rattle.gb_equality.proofs.Reading.{row_match_at}
use Rattle.gb_equality.proofs.closing.implied_by_row.Goals as goal

pub returns : goal.returns
returns c =
    row_match_at c.args.nodes.now c.requires.table c.args.labels.now c.requires.rows c.args.at c.index-nodes-at.result
    (at_place c.args.nodes.now c.args.at c.index-nodes-at.result c.requires.within c.index-nodes-at.is)
    c.implied.result c.connective_of.result c.label_at.result c.label_of.result c.label_of-2.result c.connective_of.ensures c.label_at.ensures
    (c.label_of.ensures ∙ ap (λ ps. get_or (labels_at c.args.labels.now ps) 0 0) c.as_slice-args.ensures)
    (c.label_of-2.ensures ∙ ap (λ ps. get_or (labels_at c.args.labels.now ps) 1 0) c.as_slice-args.ensures) c.implied.ensures
