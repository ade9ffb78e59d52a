use Rattle.gb_forms.proofs.cases.cases.Goals as goal

pub returns : goal.returns
returns c =
    rw (c.in_ok-first.ensures, c.in_ok-share.ensures, c.in_ok-second.ensures, c.in_ok-other.ensures, c.in_ok-share-2.ensures) at c.two.ensures
