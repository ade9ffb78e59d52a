use Rattle.std.proofs.Common.{sym, ap, ◌∙◌}
use Rattle.std.specs.List.{flat_map}
use Rattle.gb_labels.specs.Things.{noted, things_at}
use Rattle.gb_labels.proofs.Noted.{noted_both}
use Rattle.gb_labels.proofs.things.things_in.Goals as goal

pub returns : goal.returns
returns c =
    c.in_ok-note.ensures
    ∙ ap (λ s. noted s (things_at c.args.conclusion.now)) (c.in_ok-note_all.ensures ∙ ap (λ s. noted s (flat_map things_at c.args.hyps.now)) c.new-list.ensures)
    ∙ sym (noted_both c.args.hyps.now c.args.conclusion.now)
