use Rattle.std.proofs.Common.{◌+◌, drop, map, sym, ap, ◌∙◌}
use Rattle.std.specs.List.{flat_map}
use Rattle.std.proofs.lemmas.Result.{on_ok_weaker}
use Rattle.gb_terms.specs.declared.term.Term.{out-Term}
use Rattle.gb_meaning.specs.Written.{type_of}
use Rattle.gb_labels.specs.Things.{bound_by, noted, of_types, reads_under, things_at}
use Rattle.gb_labels.proofs.Noted.{noted_more, noted_term}
use Rattle.gb_labels.proofs.things.+note.Goals as goal

pub note-returns : goal.note-returns
note-returns t c =
    let u = c.args.t.now in
    let bound = of_types (bound_by (out-Term u).head (map type_of (out-Term u).args) (reads_under u)) in
    on_ok_weaker c.note_all.result
    (λ e. e
    ∙ (λ i. noted ((c.in_ok-note_bound.ensures ∙ ap (λ s. noted s bound) c.in_ok-note_own.ensures) i) (flat_map things_at (c.as_slice.ensures i)))
    ∙ sym (noted_term c.args.list.now u))
    c.note_all.ensures

pub note_all-loop-t-preserved : goal.note_all-loop-t-preserved
note_all-loop-t-preserved t c =
    ap (λ s. noted s (flat_map things_at (drop (c.loop-t.t-index + 1) c.args.terms.now))) c.in_ok-note.ensures
    ∙ sym (noted_more c.loop-t.list c.args.terms.now c.loop-t.t-index c.t-item.result c.loop-t-test.true c.t-item.is)
    ∙ c.loop-t.invariant
