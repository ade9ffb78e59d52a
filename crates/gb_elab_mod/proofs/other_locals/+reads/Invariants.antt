use Rattle.std.proofs.Common.{◌≡◌, drop, map}
use Rattle.std.specs.List.{list_any}
use Rattle.gb_elab_mod.specs.OtherLocals.{reads_other_locals}
use Rattle.gb_elab_mod.proofs.other_locals.+reads.Given as goal

abbrev pub invariant-one_reads-loop-term : goal.invariant-one_reads-loop-term
invariant-one_reads-loop-term l =
    list_any (λ b. b) (map (reads_other_locals l.with_unread l.goal l.side) (drop l.term-index l.list)) ≡ list_any (λ b. b) (map (reads_other_locals l.with_unread l.goal l.side) l.list)
