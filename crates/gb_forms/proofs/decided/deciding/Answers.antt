use Rattle.gb_forms.proofs.decided.deciding.Goals as goal

pub returns-then-holds : goal.returns-then-holds
returns-then-holds c = rw c.if-holds.true c.in_ok-guard.ensures

pub returns-else-holds : goal.returns-else-holds
returns-else-holds c = rw c.if-holds.false (rw c.in_ok-guard.ensures at c.negation.ensures)
