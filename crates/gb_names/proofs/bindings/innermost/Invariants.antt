use Rattle.std.proofs.Common.{◌≡◌, drop}
use Rattle.gb_names.specs.Bindings.{innermost}
use Rattle.gb_names.proofs.bindings.innermost.Given as goal

abbrev pub invariant-loop-x : goal.invariant-loop-x
invariant-loop-x l = innermost (drop l.x-index l.bound) l.name ≡ innermost l.bound l.name
