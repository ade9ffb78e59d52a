-- A verdict is answered by its own status and report.
use Rattle.std.proofs.Common.{refl}
use Rattle.gb_app.proofs.Answered.{from_kind}
use Rattle.gb_app.proofs.Checked.{is_held, ends, ends_by}
use Rattle.gb_app.proofs.run.check_file.Goals as goal

pub returns-in-Ok-clause-reported : goal.returns-in-Ok-clause-reported
returns-in-Ok-clause-reported g c = λ ended.
    let is = from_kind _ _ ended c.answer.ensures.kind in
    (c.in-Ok.verdict, c.in-Ok.ensures.verdict, is, c.answer.ensures.reported is)

pub returns-in-Ok-clause-front : goal.returns-in-Ok-clause-front
returns-in-Ok-clause-front g c = λ ended. (_, (c.in-Ok.verdict, c.in-Ok.ensures.verdict, refl), c.answer.ensures.front ended)

pub returns-in-Ok-clause-not_held : goal.returns-in-Ok-clause-not_held
returns-in-Ok-clause-not_held g c = is_held _ _ c.file_verdict.result c.in-Ok.verdict _ c.in-Ok.is c.file_verdict.ensures.not_held

pub returns-in-Ok-clause-verdict : goal.returns-in-Ok-clause-verdict
returns-in-Ok-clause-verdict g c =
    ends_by c.one_outcome.ensures _ _ _ c.in-Ok.verdict c.in-Ok.ensures.verdict (ends _ _ c.answer.ensures.kind)
