use Rattle.std.proofs.Common.{◌≢◌}
use Rattle.gb_equality.specs.declared.closing.Progress.TheVariants.{Clash}
use Rattle.gb_equality.specs.Search.{IsSweptTo}
use Rattle.gb_equality.proofs.closing.sweep.Given as goal

abbrev pub invariant-loop-at : goal.invariant-loop-at
invariant-loop-at l = record {
  swept : IsSweptTo l.nodes l.initial.labels l.labels l.at l.outcome;
  no_clash : l.outcome ≢ Clash;
}
