use Rattle.std.proofs.Common.{◌≡◌, ◌++◌, take, drop, length}
use Rattle.gb_labels.specs.Things.{with_one}
use Rattle.gb_labels.proofs.labels.with_one.Given as goal

abbrev pub invariant-loop-at : goal.invariant-loop-at
invariant-loop-at l = record {
  end : l.at-end ≡ length l.list;
  so_far : take l.at l.list ++ with_one (drop l.at l.list) l.name ≡ with_one l.fn.list l.name;
}
