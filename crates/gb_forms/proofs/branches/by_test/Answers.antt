use Rattle.gb_forms.proofs.branches.by_test.Goals as goal

pub returns : goal.returns
returns c = rw (c.in_ok-yes.ensures, c.in_ok-holds.ensures, c.in_ok-no.ensures, c.in_ok-fails.ensures) at c.conjunction.ensures
