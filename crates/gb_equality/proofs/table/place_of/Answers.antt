use Rattle.std.proofs.Common.{sym, ap, ◌∙◌, ◌≢◌, arith, subst}
use Rattle.std.proofs.lemmas.Bool.{false≢true}
use Rattle.gb_equality.proofs.Places.{at_place}
use Rattle.gb_equality.proofs.Rows.{NoneBefore, none_more, row_found, row_has_args, none_there, none_before_all}
use Rattle.gb_equality.specs.Parts.{operator_of}
use Rattle.gb_equality.proofs.table.place_of.Goals as goal
use Rattle.gb_equality.proofs.table.place_of.Goals.{else-same_places-via-then-same_places+else-same_operator, else-same_places-via-else-same_places}

pub returns-then-same_operator : goal.returns-then-same_operator
returns-then-same_operator c =
    row_found c.args.nodes.now c.requires.table c.args.t.now c.args.args.now c.requires.arguments c.loop-place.place c.index-nodes-place.result
    (at_place c.args.nodes.now c.loop-place.place c.index-nodes-place.result c.loop-place-test.true c.index-nodes-place.is)
    (sym c.as_slice.ensures ∙ c.same_places.ensures.0 c.if-same_places.true) (c.same_operator.ensures.0 c.if-same_operator.true)

pub loop-place-preserved : goal.loop-place-preserved
loop-place-preserved c =
    let at = at_place c.args.nodes.now c.loop-place.place c.index-nodes-place.result c.loop-place-test.true c.index-nodes-place.is in
    let other : c.index-nodes-place.result.term ≢ c.args.t.now = λ e.
    elim c.else-same_places.branch [
      | else-same_places-via-then-same_places+else-same_operator w ↦ false≢true (sym w.if-same_operator.false ∙ w.same_operator.ensures.1 (ap operator_of e))
      | else-same_places-via-else-same_places w ↦
          false≢true (sym w.if-same_places.false ∙ c.same_places.ensures.1 (c.as_slice.ensures ∙ row_has_args c.args.nodes.now c.requires.table c.args.t.now c.args.args.now c.requires.arguments c.loop-place.place c.index-nodes-place.result at e))
    ] in
    none_more c.args.nodes.now c.args.t.now c.loop-place.place c.index-nodes-place.result at other c.loop-place.invariant

pub returns : goal.returns
returns c = none_before_all c.args.nodes.now c.args.t.now c.loop-place.place c.loop-place-test.false c.loop-place.invariant
