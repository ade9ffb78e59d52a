use Rattle.std.proofs.Common.{◌≡◌, ◌++◌, drop}
use Rattle.gb_ended.specs.Named.{others}
use Rattle.gb_ended.proofs.named.others.Given as goal

abbrev pub invariant-loop-name : goal.invariant-loop-name
invariant-loop-name l = l.all ++ others l.own (drop l.name-index l.names) ≡ others l.own l.names
