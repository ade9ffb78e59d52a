use Rattle.std.proofs.Common.{◌≡◌, Some, slice_get, subst}
use Rattle.std.specs.List.{Contains}
use Rattle.gb_equality.specs.Table.{terms}
use Rattle.gb_equality.proofs.Rows.{row_there, row_pushed, pushed_place}
use Rattle.gb_equality.proofs.table.add_row.Goals as goal

pub returns-in-Some-clause-added : goal.returns-in-Some-clause-added
returns-in-Some-clause-added c =
    row_there c.args.nodes.now c.args.t.now c.in-Some.place c.requires.table (subst (λ l. slice_get (terms l) c.in-Some.place ≡ Some c.args.t.now) c.as_slice.ensures c.in-Some.ensures)

pub returns-clause-added : goal.returns-clause-added
returns-clause-added c =
    row_pushed c.args.nodes.now c.push.new.self c.args.t.now c.in_ok-term.term c.args.args c.requires.table c.requires.arguments
    (subst (λ l. Contains (terms l) c.args.t.now → ⊥) c.as_slice.ensures c.in_default.ensures) c.in_ok-term.ensures c.in_ok-push.ensures.ok

pub returns-clause-place : goal.returns-clause-place
returns-clause-place c =
    pushed_place c.args.nodes.now c.push.new.self c.args.t.now c.in_ok-term.term c.args.args c.len-place.result c.len-place.ensures c.in_ok-term.ensures c.in_ok-push.ensures.ok
