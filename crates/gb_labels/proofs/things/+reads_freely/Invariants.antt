use Rattle.std.proofs.Common.{◌≡◌, drop}
use Rattle.std.specs.List.{list_all}
use Rattle.gb_labels.specs.Things.{reads_freely}
use Rattle.gb_labels.proofs.things.+reads_freely.Given as goal

abbrev pub invariant-all_read_freely-loop-t : goal.invariant-all_read_freely-loop-t
invariant-all_read_freely-loop-t l = list_all (reads_freely l.exclusions) (drop l.t-index l.terms) ≡ list_all (reads_freely l.exclusions) l.terms
