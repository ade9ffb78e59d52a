use Rattle.std.proofs.Common.{rules, refl, sym, subst, ◌∙◌, ap, List, arith}
use Rattle.std.specs.List.{All}
use Rattle.std.specs.List.Sorted.{IsNonDecreasingBy}
use Rattle.std.proofs.lemmas.List.Elements.{All-push}
use Rattle.std.proofs.lemmas.List.Sorted.{IsNonDecreasingBy-from_sort_by_key}
use Rattle.gb_core.specs.Types.{place_of}
use Rattle.gb_dist.specs.declared.sort.Placed.{Placed}
use Rattle.gb_dist.proofs.Gathering.{placed_row, positive_row, placed_step, same_at_places, sorted_facts, gathered_of, IsAt}
use Rattle.gb_dist.proofs.sort.gathered.Goals as goal

pub place-requires : goal.place-requires
place-requires c = placed_row c.args.ty.now c.args.rows.now c.loop-row.row-index c.row-item.result c.requires.placed c.loop-row-test.true c.row-item.is

pub loop-row-preserved : goal.loop-row-preserved
loop-row-preserved c = record {
  placed = subst (λ (ps : List Placed). All (IsAt c.args.ty.now) ps) (sym c.in_ok-push.ensures.items) (All-push (IsAt c.args.ty.now) _ _ c.loop-row.invariant.placed (record {
    place = c.place.ensures.place ∙ ap (place_of c.args.ty.now) (sym c.in_ok-value.ensures);
    back = c.place.ensures.back ∙ sym c.in_ok-value.ensures;
    above = positive_row c.args.rows.now c.loop-row.row-index c.row-item.result c.requires.positive c.loop-row-test.true c.row-item.is;
  }));
  mass = λ f. placed_step f c.args.rows.now c.loop-row.list.items _ _ c.loop-row.row-index c.row-item.result _ c.loop-row-test.true c.row-item.is c.in_ok-push.ensures.items c.in_ok-value.ensures refl (c.loop-row.invariant.mass f);
}

pub merged-requires-clause-same : goal.merged-requires-clause-same
merged-requires-clause-same c =
    let facts = sorted_facts c.args.ty.now c.args.rows.now c.loop-row.row-index c.loop-row.list.items _ _ c.loop-row.invariant.placed c.loop-row.invariant.mass c.loop-row-test.false c.in_ok-sort_by_key.ensures.permutation c.as_slice.ensures.value in
    same_at_places c.args.ty.now _ facts.0

pub merged-requires-clause-above : goal.merged-requires-clause-above
merged-requires-clause-above c =
    let facts = sorted_facts c.args.ty.now c.args.rows.now c.loop-row.row-index c.loop-row.list.items _ _ c.loop-row.invariant.placed c.loop-row.invariant.mass c.loop-row-test.false c.in_ok-sort_by_key.ensures.permutation c.as_slice.ensures.value in
    λ k d h. (facts.0 k d h).above

pub merged-requires-clause-small : goal.merged-requires-clause-small
merged-requires-clause-small c =
    let facts = sorted_facts c.args.ty.now c.args.rows.now c.loop-row.row-index c.loop-row.list.items _ _ c.loop-row.invariant.placed c.loop-row.invariant.mass c.loop-row-test.false c.in_ok-sort_by_key.ensures.permutation c.as_slice.ensures.value in
    omega (arith, facts.1 (λ v. 1), c.requires.small)

pub merged-requires-clause-sorted : goal.merged-requires-clause-sorted
merged-requires-clause-sorted c =
    subst (λ (ps : List Placed). IsNonDecreasingBy (λ (p : Placed). p.place) ps) (sym c.as_slice.ensures.value) (IsNonDecreasingBy-from_sort_by_key (λ (p : Placed). p.place) _ c.in_ok-sort_by_key.ensures.sorted (λ a r q k. search rules))

pub returns : goal.returns
returns c =
    let facts = sorted_facts c.args.ty.now c.args.rows.now c.loop-row.row-index c.loop-row.list.items _ _ c.loop-row.invariant.placed c.loop-row.invariant.mass c.loop-row-test.false c.in_ok-sort_by_key.ensures.permutation c.as_slice.ensures.value in
    gathered_of c.args.ty.now _ _ c.merged.result facts.0 facts.1 c.merged.ensures.mass c.merged.ensures.positive c.merged.ensures.increasing
