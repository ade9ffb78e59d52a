use Rattle.gb_forms.proofs.coupled.keeps_weights.Goals as goal

pub returns : goal.returns
returns c =
    rw (
      c.in_ok-form.ensures,
      c.in_ok-returns.ensures,
      c.in_ok-nearest.ensures,
      c.in_ok-round.ensures,
      c.in_ok-keeps.ensures,
      c.in_ok-here.ensures,
      c.in_ok-nearest-2.ensures,
      c.in_ok-there.ensures,
      c.in_ok-share.ensures,
    ) at c.for_support.ensures
