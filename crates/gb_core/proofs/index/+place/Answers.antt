use Rattle.std.proofs.Common.{◌≡◌, ◌+◌, ◌-◌, ◌*◌, ◌^◌, ◌<◌, map, drop, ap, sym, ◌∙◌, get_or, length, arith, List}
use Rattle.std.proofs.lemmas.Bool.Decides.{nat_tests}
use Rattle.gb_core.specs.declared.ty.Ty.{Ty, size-Ty}
use Rattle.gb_core.specs.declared.value.Value.{Value}
use Rattle.gb_core.specs.Types.{numbering, size_of}
use Rattle.gb_core.specs.Numbering.{tuples, tuple_place, key_of, value_of, choices}
use Rattle.gb_core.proofs.Orders.{lawful, all_lawful}
use Rattle.gb_core.proofs.Lawful.{tuple_below}
use Rattle.gb_core.proofs.Maps.{maps_below}
use Rattle.gb_core.proofs.Places.{option_below, part_place, entry_place_of, later_choices, map_place}
use Rattle.gb_core.proofs.index.+place.Goals as goal
use denote.Param.Weighed.{at_most}

pub place_of_entry-overflow_add-choice : goal.place_of_entry-overflow_add-choice
place_of_entry-overflow_add-choice t c =
    let e = entry_place_of (numbering c.args.key.now) (numbering c.args.value.now) (lawful c.args.key.now) (lawful c.args.value.now) c.args.entry.now c.requires.entry c.requires.exact in
    let v = e.value c.index-pair-1.result (c.index-pair-1.is ∙ ap (λ (xs : List Value). get_or xs 1 c.index-pair-1.result) c.parts-pair.ensures) in
    let w = ap (numbering c.args.value.now).place v in
    let b = e.value_below in
    let x = e.exact in
    omega (arith, c.place-choice.ensures)

pub place_of_entry-place-choice-requires : goal.place_of_entry-place-choice-requires
place_of_entry-place-choice-requires t c =
    let e = entry_place_of (numbering c.args.key.now) (numbering c.args.value.now) (lawful c.args.key.now) (lawful c.args.value.now) c.args.entry.now c.requires.entry c.requires.exact in
    let v = e.value c.index-pair-1.result (c.index-pair-1.is ∙ ap (λ (xs : List Value). get_or xs 1 c.index-pair-1.result) c.parts-pair.ensures) in
    let x = e.exact in
    (omega arith, (ap (numbering c.args.value.now).has v ∙ e.has_value, omega arith))

pub place_of_entry-overflow_sub-later : goal.place_of_entry-overflow_sub-later
place_of_entry-overflow_sub-later t c =
    let e = entry_place_of (numbering c.args.key.now) (numbering c.args.value.now) (lawful c.args.key.now) (lawful c.args.value.now) c.args.entry.now c.requires.entry c.requires.exact in
    let b = e.key_below in
    omega (arith, c.size.ensures)

pub place_of_entry-place-requires : goal.place_of_entry-place-requires
place_of_entry-place-requires t c =
    let e = entry_place_of (numbering c.args.key.now) (numbering c.args.value.now) (lawful c.args.key.now) (lawful c.args.value.now) c.args.entry.now c.requires.entry c.requires.exact in
    let k = e.key c.index-pair-0.result (c.index-pair-0.is ∙ ap (λ (xs : List Value). get_or xs 0 c.index-pair-0.result) c.parts-pair.ensures) in
    let few = e.few in
    (omega arith, (ap (numbering c.args.key.now).has k ∙ e.has_key, omega arith))

pub place_of_entry-overflow_sub-later-2 : goal.place_of_entry-overflow_sub-later-2
place_of_entry-overflow_sub-later-2 t c =
    let e = entry_place_of (numbering c.args.key.now) (numbering c.args.value.now) (lawful c.args.key.now) (lawful c.args.value.now) c.args.entry.now c.requires.entry c.requires.exact in
    let k = e.key c.index-pair-0.result (c.index-pair-0.is ∙ ap (λ (xs : List Value). get_or xs 0 c.index-pair-0.result) c.parts-pair.ensures) in
    let w = ap (numbering c.args.key.now).place k in
    let b = e.key_below in
    let few = e.few in
    omega (arith, c.size.ensures, c.place.ensures)

pub place_of_entry-overflow_mul-result : goal.place_of_entry-overflow_mul-result
place_of_entry-overflow_mul-result t c =
    let e = entry_place_of (numbering c.args.key.now) (numbering c.args.value.now) (lawful c.args.key.now) (lawful c.args.value.now) c.args.entry.now c.requires.entry c.requires.exact in
    let k = e.key c.index-pair-0.result (c.index-pair-0.is ∙ ap (λ (xs : List Value). get_or xs 0 c.index-pair-0.result) c.parts-pair.ensures) in
    let v = e.value c.index-pair-1.result (c.index-pair-1.is ∙ ap (λ (xs : List Value). get_or xs 1 c.index-pair-1.result) c.parts-pair.ensures) in
    let digit = c.place-choice.ensures ∙ ap (numbering c.args.value.now).place v in
    let power = later_choices (numbering c.args.key.now) (numbering c.args.value.now) (lawful c.args.key.now) (lawful c.args.value.now) c.args.entry.now e c.size.result c.place.result c.size-2.result c.min.result c.power.result c.size.ensures (c.place.ensures ∙ ap (numbering c.args.key.now).place k) c.size-2.ensures c.min.ensures c.power.ensures in
    let all = e.all in
    let product : (1 + c.place-choice.result) * c.power.result ≡ (1 + (numbering c.args.value.now).place (value_of c.args.entry.now)) * choices (numbering c.args.value.now) ^ (size_of c.args.key.now - 1 - (numbering c.args.key.now).place (key_of c.args.entry.now)) = (λ i. (1 + digit i) * power i) in
    omega arith

pub place_of_entry-returns : goal.place_of_entry-returns
place_of_entry-returns t c =
    let e = entry_place_of (numbering c.args.key.now) (numbering c.args.value.now) (lawful c.args.key.now) (lawful c.args.value.now) c.args.entry.now c.requires.entry c.requires.exact in
    let k = e.key c.index-pair-0.result (c.index-pair-0.is ∙ ap (λ (xs : List Value). get_or xs 0 c.index-pair-0.result) c.parts-pair.ensures) in
    let v = e.value c.index-pair-1.result (c.index-pair-1.is ∙ ap (λ (xs : List Value). get_or xs 1 c.index-pair-1.result) c.parts-pair.ensures) in
    let digit = c.place-choice.ensures ∙ ap (numbering c.args.value.now).place v in
    let power = later_choices (numbering c.args.key.now) (numbering c.args.value.now) (lawful c.args.key.now) (lawful c.args.value.now) c.args.entry.now e c.size.result c.place.result c.size-2.result c.min.result c.power.result c.size.ensures (c.place.ensures ∙ ap (numbering c.args.key.now).place k) c.size-2.ensures c.min.ensures c.power.ensures in
    (λ i. (1 + digit i) * power i)

pub place_of_map-place_of_entry-at-requires : goal.place_of_map-place_of_entry-at-requires
place_of_map-place_of_entry-at-requires t c =
    let m = map_place (numbering c.args.key.now) (numbering c.args.value.now) (lawful c.args.key.now) (lawful c.args.value.now) c.args.entries.now c.loop-entry.entry-index c.entry-item.result c.loop-entry-test.true c.entry-item.is c.loop-entry.invariant.entries in
    (omega arith, (m.entry, c.requires.exact))

pub place_of_map-overflow_add-at : goal.place_of_map-overflow_add-at
place_of_map-overflow_add-at t c =
    let m = map_place (numbering c.args.key.now) (numbering c.args.value.now) (lawful c.args.key.now) (lawful c.args.value.now) c.args.entries.now c.loop-entry.entry-index c.entry-item.result c.loop-entry-test.true c.entry-item.is c.loop-entry.invariant.entries in
    let b = maps_below (numbering c.args.key.now) (numbering c.args.value.now) (lawful c.args.key.now) (lawful c.args.value.now) c.args.entries.now c.requires.entries in
    let exact = c.requires.exact in
    let place = m.place in
    let was = c.loop-entry.invariant.place in
    let here = c.place_of_entry-at.ensures in
    omega arith

pub place_of_map-loop-entry-preserved : goal.place_of_map-loop-entry-preserved
place_of_map-loop-entry-preserved t c =
    let m = map_place (numbering c.args.key.now) (numbering c.args.value.now) (lawful c.args.key.now) (lawful c.args.value.now) c.args.entries.now c.loop-entry.entry-index c.entry-item.result c.loop-entry-test.true c.entry-item.is c.loop-entry.invariant.entries in
    let place = m.place in
    let was = c.loop-entry.invariant.place in
    let here = c.place_of_entry-at.ensures in
    record { entries = m.others; place = omega arith }

pub place_of_option-overflow_add-result : goal.place_of_option-overflow_add-result
place_of_option-overflow_add-result t c =
    let some : 0 < length c.args.values.now = grind (arith, nat_tests) in
    let b = option_below (numbering c.args.inner.now) (lawful c.args.inner.now) c.args.values.now c.index-values-0.result c.requires.value some c.index-values-0.is in
    let exact = c.requires.exact in
    omega (arith, c.place.ensures)

pub place_of_tuple-place-rest-requires : goal.place_of_tuple-place-rest-requires
place_of_tuple-place-rest-requires t c =
    let p = part_place c.args.types.now c.args.values.now c.loop-i.i c.index-types-i.result c.index-values-i.result c.loop-i-test.true c.index-types-i.is c.index-values-i.is c.loop-i.invariant.values c.loop-i.invariant.exact in (
      (let m = at_most size-Ty c.args.types.now c.loop-i.i c.index-types-i.result c.loop-i-test.true in
          let e = ap size-Ty c.index-types-i.is in
          omega arith),
      (p.has, p.exact),
    )

pub place_of_tuple-overflow_mul-at : goal.place_of_tuple-overflow_mul-at
place_of_tuple-overflow_mul-at t c =
    let p = part_place c.args.types.now c.args.values.now c.loop-i.i c.index-types-i.result c.index-values-i.result c.loop-i-test.true c.index-types-i.is c.index-values-i.is c.loop-i.invariant.values c.loop-i.invariant.exact in
    let b = tuple_below (map numbering c.args.types.now) (all_lawful c.args.types.now) c.args.values.now c.requires.values in
    let f = p.fits c.loop-i.at (tuple_place (map numbering c.args.types.now) c.args.values.now) c.loop-i.invariant.place in
    let x = p.exact in
    let all = c.requires.exact in
    let s : c.size.result ≡ size_of c.index-types-i.result = omega (arith, c.size.ensures) in
    omega (arith, ap (λ z. c.loop-i.at * z) s)

pub place_of_tuple-overflow_add-at : goal.place_of_tuple-overflow_add-at
place_of_tuple-overflow_add-at t c =
    let p = part_place c.args.types.now c.args.values.now c.loop-i.i c.index-types-i.result c.index-values-i.result c.loop-i-test.true c.index-types-i.is c.index-values-i.is c.loop-i.invariant.values c.loop-i.invariant.exact in
    let b = tuple_below (map numbering c.args.types.now) (all_lawful c.args.types.now) c.args.values.now c.requires.values in
    let f = p.fits c.loop-i.at (tuple_place (map numbering c.args.types.now) c.args.values.now) c.loop-i.invariant.place in
    let x = p.exact in
    let all = c.requires.exact in
    let s : c.size.result ≡ size_of c.index-types-i.result = omega (arith, c.size.ensures) in
    omega (arith, c.place-rest.ensures, ap (λ z. c.loop-i.at * z) s)

pub place_of_tuple-loop-i-preserved : goal.place_of_tuple-loop-i-preserved
place_of_tuple-loop-i-preserved t c =
    let p = part_place c.args.types.now c.args.values.now c.loop-i.i c.index-types-i.result c.index-values-i.result c.loop-i-test.true c.index-types-i.is c.index-values-i.is c.loop-i.invariant.values c.loop-i.invariant.exact in
    let x = p.exact in
    let s : c.size.result ≡ size_of c.index-types-i.result = omega (arith, c.size.ensures) in
    let n = tuples (map numbering (drop (c.loop-i.i + 1) c.args.types.now)) in
    let r = tuple_place (map numbering (drop (c.loop-i.i + 1) c.args.types.now)) (drop (c.loop-i.i + 1) c.args.values.now) in
    record {
      values = p.others;
      exact = p.others_exact;
      place = (λ i. (c.loop-i.at * s i + c.place-rest.ensures i) * n + r) ∙ p.next c.loop-i.at (tuple_place (map numbering c.args.types.now) c.args.values.now) c.loop-i.invariant.place;
    }
