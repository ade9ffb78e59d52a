use Rattle.std.proofs.Common.{◌≡◌, ◌<◌, ◌^◌, [], drop}
use Rattle.gb_names.specs.Environment.{environment}
use Rattle.gb_weights.specs.Weights.{sum_of, weighed_all}
use Rattle.gb_weights.proofs.weights.weighed_all.Given as goal

abbrev pub invariant-loop-entry : goal.invariant-loop-entry
invariant-loop-entry l =
    (weighed_all (environment l.at) l.bound l.ty l.pairs (drop l.entry-index l.entries) ≡ weighed_all (environment l.at) l.bound l.ty [] l.entries)
    × (l.sum ≡ sum_of l.pairs) × (l.sum < 2 ^ 127)
