use Rattle.std.proofs.Common.{◌≡◌, ◌-◌, ◌^◌, ◌+◌, ◌<◌, length, take, drop, ap, sym, ◌∙◌, arith, rules}
use Rattle.gb_mods.specs.Called.{added, called, reached}
use Rattle.gb_mods.proofs.CalledSteps.{added_longer, reached_next, reached_over, rest_of}
use Rattle.gb_mods.proofs.called.all_reached.Goals as goal

pub returns : goal.returns
returns c =
    let l = c.loop-level in
    let n : 2 ^ 32 - l.level ≡ 0 = omega (arith, c.loop-level-test.false) in
    let e = reached_over (2 ^ 32 - l.level) (called c.args.scope.now) l.followed l.all n in
    search (rules, e, l.invariant)

pub loop-level-preserved : goal.loop-level-preserved
loop-level-preserved c =
    let l = c.loop-level in
    let ds = c.args.scope.now in
    let h : 0 < 2 ^ 32 - l.level = omega (arith, c.loop-level-test.true) in
    let m : (2 ^ 32 - l.level) - 1 ≡ 2 ^ 32 - (l.level + 1) = omega arith in
    let n : c.len-count.result ≡ length l.all = search rules in
    let more = called ds (drop l.followed l.all) in
    let list : c.as_slice.result.now ≡ l.all = search rules in
    let found : c.as_slice-in-loop-level.result.now ≡ c.in_ok-called.called = search rules in
    let rest : c.in_ok-called.called ≡ called ds (take (length c.as_slice.result.now - l.followed) (drop l.followed c.as_slice.result.now)) = search rules in
    let a : c.in_ok-all.all ≡ added l.all more =
    c.in_ok-all.ensures ∙ ap (added l.all) (found ∙ rest ∙ ap (λ ps. called ds (take (length ps - l.followed) (drop l.followed ps))) list ∙ ap (called ds) (rest_of l.all l.followed)) in
    let longer = added_longer l.all more in
    let e = reached_next (2 ^ 32 - l.level) (called ds) l.followed l.all h (λ q. c.if-followed-count.false (q ∙ sym n)) in
    record {
      within = omega (arith, n, ap length a, longer);
      goes_on = ap (λ k. reached k (called ds) c.len-count.result c.in_ok-all.all) (sym m) ∙ ap (λ k. reached ((2 ^ 32 - l.level) - 1) (called ds) k c.in_ok-all.all) n
          ∙ ap (λ ps. reached ((2 ^ 32 - l.level) - 1) (called ds) (length l.all) ps) a ∙ sym e ∙ l.invariant.goes_on;
    }
