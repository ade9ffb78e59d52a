use Rattle.std.proofs.Common.{◌≡◌, ◌++◌, map, drop}
use Rattle.gb_elab_stmt.specs.Targets.{pairs}
use Rattle.gb_elab_stmt.proofs.targets.type_of_all.Given as goal

abbrev pub invariant-loop-t : goal.invariant-loop-t
invariant-loop-t l = l.types ++ map (λ v. v.1) (pairs (drop l.t-index l.targets)) ≡ map (λ v. v.1) (pairs l.targets)
