use Rattle.gb_forms.proofs.loops.leads_out.Goals as goal

pub returns : goal.returns
returns c =
    rw (
      c.in_ok-ended.ensures,
      c.in_ok-invariant.ensures,
      c.in_ok-guard-2.ensures,
      c.in_ok-guard.ensures,
      c.in_ok-post.ensures,
    ) at c.implication.ensures
