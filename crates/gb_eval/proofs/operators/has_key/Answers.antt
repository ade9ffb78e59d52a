use Rattle.gb_eval.proofs.Places.{first_key}
use Rattle.gb_eval.proofs.operators.has_key.Goals as goal

pub returns-in-len1-up : goal.returns-in-len1-up
returns-in-len1-up c =
    first_key c.args.entry.now c.parts.result.now c.first-item.result c.args.key.now c.same_value-in-len1-up.result c.parts.ensures c.in-len1-up.len_at_least c.first-item.is c.same_value-in-len1-up.ensures
