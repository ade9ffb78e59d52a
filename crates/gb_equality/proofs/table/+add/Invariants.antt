use Rattle.std.proofs.Common.{take, flat_map}
use Rattle.gb_equality.specs.Parts.{parts_of}
use Rattle.gb_equality.specs.Table.{IsAdded, StandAt, terms}
use Rattle.gb_equality.proofs.table.+add.Given as goal

abbrev pub invariant-add_first-loop-at : goal.invariant-add_first-loop-at
invariant-add_first-loop-at l = record {
  added : IsAdded l.initial.nodes (flat_map parts_of (take l.at l.list)) l.nodes;
  places : StandAt (terms l.nodes) l.places (take l.at l.list);
}
