use Rattle.std.proofs.Common.{◌≡◌, ◌-◌, length, take}
use Rattle.gb_ended.specs.Named.{all_named}
use Rattle.gb_ended.proofs.named.all_named.Given as goal

abbrev pub invariant-loop-k : goal.invariant-loop-k
invariant-loop-k l = all_named (take (length l.scope - l.k) l.scope) l.all ≡ all_named l.scope l.fn.first
