-- Where nothing is left, the number of commands that are kept closes the session.
use Rattle.std.proofs.Common.{ap, ◌∙◌}
use Rattle.gb_app.specs.Screens.{kept_line}
use Rattle.gb_app.proofs.Ends.{closes_at_end}
use Rattle.gb_app.proofs.step.closing.Goals as goal

pub returns-in-End : goal.returns-in-End
returns-in-End c =
    closes_at_end c.args.text.now c.args.point.from c.cut.result c.args.session.now c.args.point.at c.into_bytes.result.items c.cut.ensures c.in-End.is
    c.requires.done (ap (λ v. v.items) c.into_bytes.ensures.value ∙ c.in_ok-kept.ensures ∙ ap kept_line c.kept-count.ensures)
