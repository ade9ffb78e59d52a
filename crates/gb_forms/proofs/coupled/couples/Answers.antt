use Rattle.gb_forms.proofs.coupled.couples.Goals as goal

pub returns : goal.returns
returns c =
    rw (
      c.in_ok-form.ensures,
      c.in_ok-conjunction.ensures,
      c.in_ok-lands.ensures,
      c.in_ok-share.ensures,
      c.in_ok-returns.ensures,
      c.in_ok-nearest.ensures,
      c.in_ok-round.ensures,
    ) at c.for_support.ensures
