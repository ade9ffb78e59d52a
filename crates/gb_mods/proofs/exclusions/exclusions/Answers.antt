use Rattle.std.proofs.Common.{◌+◌, ◌++◌, drop, append_assoc, ap, sym, ◌∙◌}
use Rattle.gb_goal.specs.Scope.{entry_at}
use Rattle.gb_mods.specs.Exclusions.{exclusion_of, exclusions_among}
use Rattle.gb_mods.proofs.ExclusionSteps.{exclusions_next}
use Rattle.gb_mods.proofs.exclusions.exclusions.Goals as goal

pub loop-i-preserved : goal.loop-i-preserved
loop-i-preserved c =
    let ds = c.args.scope.now in
    let l = c.loop-i in
    ap (λ es. es ++ exclusions_among ds (drop (l.i + 1) ds)) (c.in_ok-all.ensures ∙ ap (λ o. l.all ++ exclusion_of ds o) c.entry_at.ensures)
    ∙ append_assoc l.all (exclusion_of ds (entry_at ds l.i)) (exclusions_among ds (drop (l.i + 1) ds))
    ∙ ap (λ es. l.all ++ es) (sym (exclusions_next ds ds l.i)) ∙ l.invariant
