use Rattle.std.proofs.Common.{◌+◌, ◌-◌, ◌≤◌, length, drop, map, ap, length-drop, arith, ◌∙◌}
use Rattle.std.proofs.lemmas.List.{take_all}
use Rattle.gb_walk.specs.Layers.{seen_by, where_last}
use Rattle.gb_labels.specs.Reads.{joined, noted, reads_at}
use Rattle.gb_labels.proofs.NotedReads.{noted_more}
use Rattle.gb_labels.proofs.reads.+note.Goals as goal

pub note_all-loop-i-preserved : goal.note_all-loop-i-preserved
note_all-loop-i-preserved t c =
    let few : length (drop (c.loop-i.i + 1) c.args.args.now) ≤ length c.args.args.now - (c.loop-i.i + 1) = omega (arith, length-drop (c.loop-i.i + 1) c.args.args.now) in
    let behind = take_all (length c.args.args.now - (c.loop-i.i + 1)) (drop (c.loop-i.i + 1) c.args.args.now) few in
    ap (λ seen. noted seen (joined (seen_by c.args.depth c.args.last (map reads_at (drop (c.loop-i.i + 1) c.args.args.now))))) c.in_ok-note.ensures
    ∙ noted_more c.loop-i.list c.args.args.now c.loop-i.i c.index-args-i.result c.args.depth c.args.last c.depth_at-at.result c.loop-i-test.true c.index-args-i.is
    (c.depth_at-at.ensures ∙ ap (λ us. where_last us c.args.depth c.args.last) behind)
    ∙ c.loop-i.invariant
