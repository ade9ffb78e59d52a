use Rattle.std.proofs.Common.{◌≡◌, ◌-◌, ◌≤◌, ◌++◌, take, drop, length}
use Rattle.gb_core.specs.declared.value.Value.{Value}
use Rattle.gb_core.specs.Types.{numbering, place_of}
use Rattle.gb_meaning.specs.Operators.{entry_set}
use Rattle.gb_labels.proofs.entries.before.Given as goal

abbrev pub invariant-loop-at : goal.invariant-loop-at
invariant-loop-at l = record {
  within : l.at ≤ length l.entries;
  passed : (k v : Value) → place_of l.ty k ≡ l.place → entry_set (numbering l.ty) l.entries k v ≡ take l.at l.entries ++ entry_set (numbering l.ty) (drop l.at l.entries) k v;
}

abbrev pub decreases-loop-at : goal.decreases-loop-at
decreases-loop-at l = length l.entries - l.at
