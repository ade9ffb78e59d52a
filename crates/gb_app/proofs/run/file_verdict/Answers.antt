-- The verdict is that on what was read.
use Rattle.std.proofs.Common.{Ok, Err, ap, subst, ◌∙◌}
use Rattle.gb_outside.specs.declared.whole.ReadRefused.TheVariants as read
use Rattle.gb_theory.specs.Verdicts.{IsVerdict}
use Rattle.gb_app.proofs.Checked.{long_read, text_read}
use Rattle.gb_app.proofs.run.file_verdict.Goals as goal

pub returns-in-Err-Length-clause-verdict : goal.returns-in-Err-Length-clause-verdict
returns-in-Err-Length-clause-verdict g c =
    let long = c.in-Err-Length.is ∙ ap Err c.in-Err-Length.field-0-is in
    (Err read.Length, long_read _ _ c.read_whole.result c.read_whole.ensures.whole long, c.too_long.ensures)

pub returns-in-Ok-verdict_on-clause-verdict : goal.returns-in-Ok-verdict_on-clause-verdict
returns-in-Ok-verdict_on-clause-verdict g c =
    let is = subst (λ t. IsVerdict t c.in-Ok-verdict_on.verdict) c.as_slice.ensures.value c.in-Ok-verdict_on.ensures in
    (Ok c.in-Ok.text.items, text_read _ _ c.read_whole.result c.in-Ok.text c.read_whole.ensures.whole c.in-Ok.is, is)
