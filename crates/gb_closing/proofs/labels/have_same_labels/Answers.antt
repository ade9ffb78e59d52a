use Rattle.std.proofs.Common.{◌≡◌, ◌<◌, length, get_or, sym, ◌∙◌, arith}
use Rattle.std.proofs.lemmas.Bool.{false≢true}
use Rattle.std.proofs.lemmas.Grind.{common_steps}
use Rattle.gb_closing.specs.Labels.{label_at}
use Rattle.gb_closing.proofs.Places.{mapped_same}
use Rattle.gb_closing.proofs.labels.have_same_labels.Goals as goal

pub returns-then-label_at : goal.returns-then-label_at
returns-then-label_at c = (
  (λ f. absurd (false≢true f)),
  (λ e.
      let within : c.loop-at.at < length c.args.b.now = omega arith in
      let same : label_at c.args.labels.now (get_or c.args.a.now c.loop-at.at 0) ≡ label_at c.args.labels.now (get_or c.args.b.now c.loop-at.at 0) =
      mapped_same (label_at c.args.labels.now) c.args.a.now c.args.b.now c.loop-at.at c.loop-at-test.true within e in
      absurd (c.if-label_at.true (c.label_at.ensures ∙ same ∙ sym c.label_at-in-loop-at.ensures))),
)

pub returns : goal.returns
returns c = grind (arith, common_steps) steps 300000
