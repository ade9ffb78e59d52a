use Rattle.std.proofs.Common.{sym, rules, ◌∙◌}
use Rattle.std.proofs.lemmas.Int.{to_z-of_z}
use Rattle.gb_smt.specs.declared.apply.Tried.TheVariants.{OutOfRange}
use Rattle.gb_smt.proofs.Answered.{tried_closed}
use Rattle.gb_smt.proofs.apply.reason.Goals as goal
use mir.Syntax.{w128}
use mir.Val.{SFits}

pub returns-in-Closed : goal.returns-in-Closed
returns-in-Closed c = tried_closed c.args.scope.now c.args.leaf.now c.in_ok-try_leaf.field-0 c.in_ok-try_leaf.ensures c.in-Closed.is

pub returns-in-Refuted : goal.returns-in-Refuted
returns-in-Refuted c = sym c.in_ok-try_leaf.ensures ∙ c.in-Refuted.is

pub returns-in-OutOfRange : goal.returns-in-OutOfRange
returns-in-OutOfRange c =
    let left : SFits w128 c.in-OutOfRange.field-0.left = search rules in
    let right : SFits w128 c.in-OutOfRange.field-0.right = search rules in
    sym c.in_ok-try_leaf.ensures
    ∙ c.in-OutOfRange.is
    ∙ (λ i. OutOfRange (record { left = sym (to_z-of_z w128 c.in-OutOfRange.field-0.left left) i; right = sym (to_z-of_z w128 c.in-OutOfRange.field-0.right right) i }))

pub returns-in_ok-atoms-in-Undecided : goal.returns-in_ok-atoms-in-Undecided
returns-in_ok-atoms-in-Undecided c = (sym c.in_ok-try_leaf.ensures ∙ c.in-Undecided.is, c.in_ok-atoms-in-Undecided.ensures)
