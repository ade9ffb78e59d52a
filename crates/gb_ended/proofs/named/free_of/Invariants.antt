use Rattle.std.proofs.Common.{◌≡◌, drop}
use Rattle.gb_ended.specs.Named.{free_of}
use Rattle.gb_ended.proofs.named.free_of.Given as goal

abbrev pub invariant-loop-q : goal.invariant-loop-q
invariant-loop-q l = free_of (drop l.q-index l.params) l.all ≡ free_of l.params l.fn.names
