-- Sums of weights.
use Rattle.std.proofs.Common.{◌≡◌, ◌+◌, List, [], ◌∷◌, ◌++◌, arith}
use Rattle.gb_terms.specs.declared.term.Pair.{Pair}
use Rattle.gb_weights.specs.Weights.{sum_of}

-- one more weight behind others
pub sum_behind : (ps : List Pair) (q : Pair) → sum_of (ps ++ q ∷ []) ≡ sum_of ps + q.weight
sum_behind [] q = omega arith
sum_behind (p ∷ ps) q = let h = sum_behind ps q in omega (arith, h)
