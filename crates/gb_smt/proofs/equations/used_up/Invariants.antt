use Rattle.std.proofs.Common.{◌≡◌, ◌+◌, length}
use Rattle.gb_smt.specs.Equations.{used_up_to, used_up}
use Rattle.gb_smt.proofs.equations.used_up.Given as goal

abbrev pub invariant-loop-turn : goal.invariant-loop-turn
invariant-loop-turn l =
    record { count : length l.left.hyps + l.turn ≡ length l.leaf.hyps; value : used_up_to (length l.left.hyps) l.left ≡ used_up l.leaf }
