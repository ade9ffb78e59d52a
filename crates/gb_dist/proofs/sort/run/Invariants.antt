use Rattle.std.proofs.Common.{◌≡◌, ℕ, ◌<◌, ◌≤◌, ◌+◌, ◌-◌, ◌*◌, length, drop, get_or}
use Rattle.gb_core.specs.declared.value.Value.{Value}
use Rattle.gb_dist.specs.declared.sort.Placed.{Placed}
use Rattle.gb_dist.specs.Places.{placed_mass}
use Rattle.gb_dist.proofs.sort.run.Given as goal

abbrev pub invariant-loop-end : goal.invariant-loop-end
invariant-loop-end l = record {
  next : l.from < l.end;
  last : l.end ≤ length l.list;
  above : 0 < l.weight;
  mass : (f : Value → ℕ) (d : Placed) → l.weight * f (get_or l.list l.from d).value + placed_mass f (drop l.end l.list) ≡ placed_mass f (drop l.from l.list);
}

abbrev pub decreases-loop-end : goal.decreases-loop-end
decreases-loop-end l = length l.list - l.end
