use Rattle.std.proofs.Common.{◌+◌, take, ap, sym, subst, ◌∙◌, arith}
use Rattle.gb_equality.specs.Table.{StandAt, terms}
use Rattle.gb_equality.proofs.Rows.{added_if_ok, added_next, stand_next}
use Rattle.gb_equality.proofs.table.+add.Goals as goal

pub add-returns-clause-added : goal.add-returns-clause-added
add-returns-clause-added t c =
    added_if_ok c.args.nodes.now c.add_first.new.nodes c.add_row.new.nodes (take c.number_reached.result c.as_slice.result.now) c.args.t.now c.add_row.result
    (ap (take c.number_reached.result) c.as_slice.ensures ∙ c.number_reached.ensures.reached) c.in_ok-args.ensures.added c.add_row.ensures.added

pub add_first-loop-at-preserved : goal.add_first-loop-at-preserved
add_first-loop-at-preserved t c = record {
  added = added_next c.args.nodes.now c.loop-at.nodes c.add.new.nodes c.args.list.now c.loop-at.at c.index-list-at.result (omega arith) c.index-list-at.is c.loop-at.invariant.added c.in_ok-add.ensures.added;
  places =
      subst (λ ps. StandAt (terms c.add.new.nodes) ps (take (c.loop-at.at + 1) c.args.list.now)) (sym c.in_ok-push.ensures.ok)
      (stand_next c.loop-at.nodes c.add.new.nodes c.args.list.now c.loop-at.at c.index-list-at.result c.loop-at.places c.in_ok-add.field-0 (omega arith) c.index-list-at.is c.in_ok-add.ensures.added c.loop-at.invariant.places c.in_ok-add.ensures.place);
}
