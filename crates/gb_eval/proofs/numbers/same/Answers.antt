use Rattle.gb_eval.proofs.Places.{same_values}
use Rattle.gb_eval.proofs.numbers.same.Goals as goal

pub returns-in-Value-Value : goal.returns-in-Value-Value
returns-in-Value-Value c =
    same_values c.same_value.result c.in-Value-Value.v c.in-Value-Value.w c.args.a.now c.args.b.now c.same_value.ensures c.in-Value-Value.is-0 c.in-Value-Value.is-1
