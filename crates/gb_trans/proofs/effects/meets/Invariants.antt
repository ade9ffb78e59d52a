use Rattle.std.proofs.Common.{◌≡◌, drop}
use Rattle.gb_trans.specs.Effects.{meets}
use Rattle.gb_trans.proofs.effects.meets.Given as goal

abbrev pub invariant-loop-y : goal.invariant-loop-y
invariant-loop-y l = meets l.exclusions (drop l.y-index l.list) l.x ≡ meets l.exclusions l.list l.x
