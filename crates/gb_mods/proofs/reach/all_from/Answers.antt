use Rattle.std.proofs.Common.{◌≡◌, ◌-◌, ◌^◌, ◌+◌, ◌<◌, length, take, drop, ap, sym, ◌∙◌, arith, rules}
use Rattle.std.specs.Option.{option_copied}
use Rattle.gb_mods.specs.Called.{added, reached}
use Rattle.gb_mods.specs.Reach.{called_from_all}
use Rattle.gb_mods.proofs.CalledSteps.{added_longer, reached_next, reached_over, rest_of}
use Rattle.gb_mods.proofs.reach.all_from.Goals as goal

pub returns : goal.returns
returns c =
    let l = c.loop-level in
    let n : 2 ^ 32 - l.level ≡ 0 = omega (arith, c.loop-level-test.false) in
    let e = reached_over (2 ^ 32 - l.level) (called_from_all c.args.scope.now (option_copied c.args.around)) l.followed l.all n in
    search (rules, e, l.invariant)

pub loop-level-preserved : goal.loop-level-preserved
loop-level-preserved c =
    let l = c.loop-level in
    let f = called_from_all c.args.scope.now (option_copied c.args.around) in
    let h : 0 < 2 ^ 32 - l.level = omega (arith, c.loop-level-test.true) in
    let m : (2 ^ 32 - l.level) - 1 ≡ 2 ^ 32 - (l.level + 1) = omega arith in
    let n : c.len-count.result ≡ length l.all = search rules in
    let more = f (drop l.followed l.all) in
    let list : c.as_slice.result.now ≡ l.all = search rules in
    let found : c.as_slice-in-loop-level.result.now ≡ c.in_ok-called.called = search rules in
    let rest : c.in_ok-called.called ≡ f (take (length c.as_slice.result.now - l.followed) (drop l.followed c.as_slice.result.now)) = search rules in
    let a : c.in_ok-all.all ≡ added l.all more =
    c.in_ok-all.ensures ∙ ap (added l.all) (found ∙ rest ∙ ap (λ ps. f (take (length ps - l.followed) (drop l.followed ps))) list ∙ ap f (rest_of l.all l.followed)) in
    let longer = added_longer l.all more in
    let e = reached_next (2 ^ 32 - l.level) f l.followed l.all h (λ q. c.if-followed-count.false (q ∙ sym n)) in
    record {
      within = omega (arith, n, ap length a, longer);
      goes_on = ap (λ k. reached k f c.len-count.result c.in_ok-all.all) (sym m) ∙ ap (λ k. reached ((2 ^ 32 - l.level) - 1) f k c.in_ok-all.all) n
          ∙ ap (λ ps. reached ((2 ^ 32 - l.level) - 1) f (length l.all) ps) a ∙ sym e ∙ l.invariant.goes_on;
    }
