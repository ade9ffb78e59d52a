use Rattle.std.proofs.Common.{◌≡◌, ◌++◌, map, drop}
use Rattle.gb_goal.specs.Rows.{concluding}
use Rattle.gb_adv.specs.Oracles.{each_keeps}
use Rattle.gb_adv.proofs.oracles.each_keeps.Given as goal

abbrev pub invariant-loop-oracle : goal.invariant-loop-oracle
invariant-loop-oracle l =
    l.goals ++ map (concluding l.keeping.goal.now) (each_keeps l.keeping.kept.now (drop l.oracle-index l.oracles)) ≡ map (concluding l.keeping.goal.now) (each_keeps l.keeping.kept.now l.oracles)
