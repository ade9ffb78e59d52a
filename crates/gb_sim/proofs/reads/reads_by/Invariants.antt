use Rattle.std.proofs.Common.{◌≡◌, ◌++◌, drop}
use Rattle.std.specs.Option.{option_map}
use Rattle.gb_labels.specs.Reads.{Vars}
use Rattle.gb_sim.specs.Reads.{reads_by}
use Rattle.gb_sim.proofs.reads.reads_by.Given as goal

abbrev pub invariant-loop-x : goal.invariant-loop-x
invariant-loop-x l = option_map (λ (xs : Vars). l.all ++ xs) (reads_by l.scope (drop l.x-index l.list)) ≡ reads_by l.scope l.list
