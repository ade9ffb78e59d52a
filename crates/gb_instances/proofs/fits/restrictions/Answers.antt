use Rattle.std.proofs.Common.{◌+◌, ◌++◌, drop, append_assoc, ap, sym, ◌∙◌}
use Rattle.gb_goal.specs.Scope.{entry_at}
use Rattle.gb_instances.specs.Fits.{restriction_of, restrictions_among}
use Rattle.gb_instances.proofs.RestrictionSteps.{restrictions_next}
use Rattle.gb_instances.proofs.fits.restrictions.Goals as goal

pub loop-i-preserved : goal.loop-i-preserved
loop-i-preserved c =
    let ds = c.args.scope.now in
    let l = c.loop-i in
    ap (λ es. es ++ restrictions_among ds (drop (l.i + 1) ds)) (c.in_ok-all.ensures ∙ ap (λ o. l.all ++ restriction_of ds o) c.entry_at.ensures)
    ∙ append_assoc l.all (restriction_of ds (entry_at ds l.i)) (restrictions_among ds (drop (l.i + 1) ds))
    ∙ ap (λ es. l.all ++ es) (sym (restrictions_next ds ds l.i)) ∙ l.invariant
