use Rattle.std.proofs.Common.{◌≡◌, ◌*◌, ◌<◌, arith, ap, subst, get_or, sym, ◌∙◌}
use Rattle.std.proofs.lemmas.List.{get_or_default}
use Rattle.gb_core.specs.declared.value.Value.{Value}
use Rattle.gb_dist.specs.declared.sort.Placed.{Placed}
use Rattle.gb_dist.specs.Rows.{entries}
use Rattle.gb_dist.specs.Places.{places}
use Rattle.gb_dist.specs.Lists.{IsIncreasing}
use Rattle.gb_dist.proofs.Rising.{IsUnder, IsIncreasing-push, IsUnder-push}
use Rattle.gb_dist.proofs.Runs.{mass_pushed, positive_pushed, places_pushed, place_behind}
use Rattle.gb_dist.proofs.sort.merged.Goals as goal

pub loop-at-preserved : goal.loop-at-preserved
loop-at-preserved c =
    let pushed = c.in_ok-push.ensures.ok in
    let d = c.index-list-at.result in
    let value : c.in_ok-value.value ≡ (get_or c.args.list.now c.loop-at.at d).value = c.in_ok-value.ensures in
    record {
      within = c.run-end.ensures.last;
      mass = λ f.
          let here : c.run-end.result.1 * f c.in_ok-value.value ≡ c.run-end.result.1 * f (get_or c.args.list.now c.loop-at.at d).value = ap (λ (v : Value). c.run-end.result.1 * f v) value in
          omega (arith, here, mass_pushed _ _ _ f pushed, c.run-end.ensures.mass f d, c.loop-at.invariant.mass f);
      positive = positive_pushed _ _ _ pushed c.loop-at.invariant.positive c.run-end.ensures.above;
      increasing = λ p h.
          let place : (get_or c.args.list.now c.loop-at.at d).place ≡ p c.in_ok-value.value = h c.loop-at.at d c.loop-at-test.true ∙ ap p (sym value) in
          let under = subst (λ n. IsUnder (places p (entries c.loop-at.rows)) n) place (c.loop-at.invariant.under p h c.loop-at.at d (omega arith) c.loop-at-test.true) in
          subst IsIncreasing (sym (places_pushed p _ _ _ pushed)) (IsIncreasing-push _ _ (c.loop-at.invariant.increasing p h) under);
      under = λ p h k e le lt.
          let default : (get_or c.args.list.now c.loop-at.at e).value ≡ (get_or c.args.list.now c.loop-at.at d).value = ap (λ (q : Placed). q.value) (get_or_default c.args.list.now c.loop-at.at e d c.loop-at-test.true) in
          let place : (get_or c.args.list.now c.loop-at.at e).place ≡ p c.in_ok-value.value = h c.loop-at.at e c.loop-at-test.true ∙ ap p (default ∙ sym value) in
          let behind = place_behind c.args.list.now c.loop-at.at c.run-end.result.0 k e c.requires.sorted c.run-end.ensures.next le lt (c.run-end.ensures.apart e (omega arith)) in
          subst (λ ns. IsUnder ns (get_or c.args.list.now k e).place) (sym (places_pushed p _ _ _ pushed)) (IsUnder-push _ _ _ (c.loop-at.invariant.under p h k e (omega (arith, c.run-end.ensures.next)) lt) (subst (λ n. n < (get_or c.args.list.now k e).place) place behind));
    }
