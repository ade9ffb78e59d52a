use Rattle.std.proofs.Common.{◌≡◌, drop}
use Rattle.gb_ended.specs.Named.{is_one}
use Rattle.gb_ended.proofs.named.is_one.Given as goal

abbrev pub invariant-loop-other : goal.invariant-loop-other
invariant-loop-other l = is_one (drop l.other-index l.names) l.name ≡ is_one l.names l.name
