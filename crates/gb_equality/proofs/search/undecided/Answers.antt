use Rattle.std.proofs.Common.{◌<◌, ap, sym, ◌∙◌, arith}
use Rattle.std.proofs.lemmas.Bool.{false≢true}
use Rattle.gb_equality.specs.Connectives.{is_form}
use Rattle.gb_closing.specs.Labels.{label_at}
use Rattle.gb_equality.proofs.Places.{at_place}
use Rattle.gb_equality.proofs.Searching.{decided_more, decided_small}
use Rattle.gb_equality.proofs.search.undecided.Goals as goal
use Rattle.gb_equality.proofs.search.undecided.Goals.{else-label-gt-TRUE-via-then-label-gt-TRUE+else-is_form, else-label-gt-TRUE-via-else-label-gt-TRUE}

pub returns-then-is_form : goal.returns-then-is_form
returns-then-is_form c = record {
  place = c.loop-at.at;
  node = c.index-nodes-at.result;
  there = at_place c.args.nodes.now c.loop-at.at c.index-nodes-at.result c.loop-at-test.true c.index-nodes-at.is;
  form = ap (λ n. is_form n.term) c.index-nodes-at.is ∙ sym c.is_form.ensures ∙ c.if-is_form.true;
  its = sym c.label_at-label.ensures;
  free = c.if-label-gt-TRUE.true;
}

pub loop-at-preserved : goal.loop-at-preserved
loop-at-preserved c =
    elim c.else-label-gt-TRUE.branch [
      | else-label-gt-TRUE-via-then-label-gt-TRUE+else-is_form w ↦
          decided_more c.args.nodes.now c.args.labels.now c.loop-at.at w.index-nodes-at.result (at_place c.args.nodes.now c.loop-at.at w.index-nodes-at.result c.loop-at-test.true w.index-nodes-at.is)
          (λ t. absurd (false≢true (sym w.if-is_form.false ∙ w.is_form.ensures ∙ sym (ap (λ n. is_form n.term) w.index-nodes-at.is) ∙ t))) c.loop-at.invariant
      | else-label-gt-TRUE-via-else-label-gt-TRUE w ↦
          let low : label_at c.args.labels.now c.loop-at.at < 2 = omega (arith, c.label_at-label.ensures, w.if-label-gt-TRUE.false) in
          decided_small c.args.nodes.now c.args.labels.now c.loop-at.at low c.loop-at.invariant
    ]
