use Rattle.std.proofs.Common.{◌≡◌, ◌^◌, min}
use Rattle.gb_core.proofs.size.power.Given as goal

abbrev pub invariant-loop-turn : goal.invariant-loop-turn
invariant-loop-turn l = l.all ≡ min (l.base ^ l.turn) (2 ^ 63)
