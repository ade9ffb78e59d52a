use Rattle.std.proofs.Common.{◌+◌, ◌-◌, ◌<◌, length, take, ap, sym, subst, ◌∙◌}
use Rattle.gb_goal.specs.Scope.{entry_at}
use Rattle.gb_ended.specs.Named.{all_named, with_named}
use Rattle.gb_ended.proofs.NamedSteps.{named_front}
use Rattle.gb_ended.proofs.named.all_named.Goals as goal

pub loop-k-preserved : goal.loop-k-preserved
loop-k-preserved c =
    let ds = c.args.scope.now in
    let l = c.loop-k in
    let h : l.k < length ds = subst (λ n. l.k < n) c.len-k-end.ensures c.loop-k-test.true in
    let g = c.in_ok-all.ensures ∙ ap (λ o. with_named o l.all) (c.entry_at.ensures ∙ ap (λ n. entry_at ds ((n - 1) - l.k)) c.len.ensures) in
    ap (all_named (take (length ds - (l.k + 1)) ds)) g ∙ sym (named_front ds l.k l.all h) ∙ l.invariant
