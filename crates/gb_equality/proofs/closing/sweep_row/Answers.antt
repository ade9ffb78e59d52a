use Rattle.gb_equality.specs.Table.{IsJoining, IsSettled}
use Rattle.gb_equality.proofs.Places.{if_none}
use Rattle.gb_equality.proofs.Narrowed.{swept_idle, swept_on, swept_clash, equated, clash}
use Rattle.gb_equality.proofs.closing.sweep_row.Goals as goal

pub returns-in_default-clause-swept : goal.returns-in_default-clause-swept
returns-in_default-clause-swept c = λ first h.
    swept_idle c.args.nodes.now first c.args.labels.now c.args.at c.args.before h
    (if_none c.implied_at.result (IsSettled c.args.nodes.now c.args.labels.now c.args.at) (IsJoining c.args.nodes.now c.args.labels.now) c.implied_at.ensures c.in_default.not-Some)

pub returns-then-equate-clause-swept : goal.returns-then-equate-clause-swept
returns-then-equate-clause-swept c = λ first h.
    swept_on c.args.nodes.now first c.args.labels.now c.equate.new.labels c.args.at c.args.before c.requires.going h
    (equated c.args.nodes.now c.args.labels.now c.in-Some.equation.left c.in-Some.equation.right c.in-Some.ensures c.equate.new.labels c.if-equate.ensures)

pub returns-else-equate-clause-swept : goal.returns-else-equate-clause-swept
returns-else-equate-clause-swept c = λ first h.
    swept_clash c.args.nodes.now first c.args.labels.now c.equate.new.labels c.args.at c.args.before h
    (clash c.args.nodes.now c.args.labels.now c.in-Some.equation.left c.in-Some.equation.right c.in-Some.ensures c.equate.new.labels c.if-equate.ensures)
