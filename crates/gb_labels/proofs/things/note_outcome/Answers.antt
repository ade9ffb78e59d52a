use Rattle.std.proofs.Common.{◌∙◌}
use Rattle.std.proofs.lemmas.Result.{on_ok_weaker}
use Rattle.gb_labels.proofs.Noted.{type_out, noted_outcome, noted_no_outcome}
use Rattle.gb_labels.proofs.things.note_outcome.Goals as goal

pub returns-in-Distr : goal.returns-in-Distr
returns-in-Distr c =
    on_ok_weaker c.note_new.result
    (λ e. noted_outcome c.args.list.now c.args.args.now c.d-item.result c.in-len1-up.len_at_least c.d-item.is c.get.result.now c.in-Distr.outcomes c.note_new.new.list (c.get.ensures ∙ type_out c.d-item.result) c.in-Distr.is e)
    c.note_new.ensures

pub returns-in_default : goal.returns-in_default
returns-in_default c = noted_no_outcome c.args.list.now c.args.args.now c.d-item.result c.in-len1-up.len_at_least c.d-item.is c.get.result.now (c.get.ensures ∙ type_out c.d-item.result) c.in_default.not-Distr
