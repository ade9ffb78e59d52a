use Rattle.std.proofs.Common.{◌∙◌, arith}
use Rattle.gb_core.proofs.Capped.{power_all}
use Rattle.gb_core.proofs.size.power.Goals as goal

pub returns : goal.returns
returns c = c.loop-turn.invariant ∙ power_all c.args.base c.args.exponent c.loop-turn.turn (omega arith)
