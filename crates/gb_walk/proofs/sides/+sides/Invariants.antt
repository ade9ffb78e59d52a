use Rattle.std.proofs.Common.{◌≡◌, drop}
use Rattle.std.specs.List.{list_any}
use Rattle.gb_walk.specs.Sides.{reads_side}
use Rattle.gb_walk.proofs.sides.+sides.Given as goal

abbrev pub invariant-any_reads_side-loop-term : goal.invariant-any_reads_side-loop-term
invariant-any_reads_side-loop-term l =
    list_any (λ t. reads_side t l.side) (drop l.term-index l.list) ≡ list_any (λ t. reads_side t l.side) l.list
