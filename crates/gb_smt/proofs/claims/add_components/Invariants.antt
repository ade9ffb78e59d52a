use Rattle.std.proofs.Common.{◌≡◌, ◌-◌, ◌++◌, length}
use Rattle.gb_smt.specs.Claims.{components, components_of}
use Rattle.gb_smt.proofs.claims.add_components.Given as goal

abbrev pub invariant-loop-turn : goal.invariant-loop-turn
invariant-loop-turn l =
    l.out ++ components (length l.fn.hyps - l.turn) l.left ≡ l.initial.out ++ components_of l.fn.hyps
