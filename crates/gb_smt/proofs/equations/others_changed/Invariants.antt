use Rattle.std.proofs.Common.{◌≡◌, ◌++◌, map}
use Rattle.gb_walk.specs.Change.{term_changed}
use Rattle.gb_smt.specs.Equations.{others}
use Rattle.gb_smt.proofs.Uses.{others_from}
use Rattle.gb_smt.proofs.equations.others_changed.Given as goal

abbrev pub invariant-loop-at : goal.invariant-loop-at
invariant-loop-at l =
    l.out ++ map (λ t. term_changed t l.changes) (others_from l.hyps l.place l.at) ≡ map (λ t. term_changed t l.changes) (others l.hyps l.place)
