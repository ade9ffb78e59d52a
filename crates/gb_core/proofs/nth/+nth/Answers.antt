use Rattle.std.proofs.Common.{◌≡◌, ◌∙◌, ◌^◌, ◌∷◌, [], ◌++◌, ◌+◌, ◌-◌, ◌/◌, ◌%◌, map, drop, ap, sym, arith, List}
use Rattle.std.proofs.lemmas.Grind.{common_steps}
use Rattle.gb_core.specs.declared.ty.Ty.{size-Ty}
use Rattle.gb_core.specs.declared.value.Value.{Value}
use Rattle.gb_core.specs.Types.{numbering, size_of, value_at}
use Rattle.gb_core.specs.Numbering.{choices, tuple_at, entry_at, entries_at}
use Rattle.gb_core.proofs.Steps.{part_step, key_step, map_start, entries_at-none}
use Rattle.gb_core.proofs.nth.+nth.Goals as goal
use denote.Param.Weighed.{at_most}

pub nth_map-returns-then-choices-eq1 : goal.nth_map-returns-then-choices-eq1
nth_map-returns-then-choices-eq1 t c =
    c.new-out.ensures ∙ sym (entries_at-none (numbering c.args.key.now) (numbering c.args.value.now) (size_of c.args.key.now) c.args.at c.min-choices.result (omega arith) c.if-choices-eq1.true c.requires.below)

pub nth_map-loop-place-init : goal.nth_map-loop-place-init
nth_map-loop-place-init t c =
    let s = map_start (choices (numbering c.args.value.now)) (size_of c.args.key.now) c.min-choices.result c.size-keys.result c.power-left.result c.requires.exact (omega arith) (omega arith) c.if-choices-eq1.false c.size-keys.ensures c.power-left.ensures in
    record {
      left = s.all ∙ ap (λ n. choices (numbering c.args.value.now) ^ n) (omega arith);
      below = omega arith;
      exact = omega arith;
      keys = s.whole;
      few = s.few;
      entries =
          let n : c.size-keys.result - 0 ≡ size_of c.args.key.now = omega arith in
          (λ i. c.new-out.ensures i ++ entries_at (numbering c.args.key.now) (numbering c.args.value.now) (n i) c.args.at);
    }

pub nth_map-nonzero_div-rest : goal.nth_map-nonzero_div-rest
nth_map-nonzero_div-rest t c =
    let s = key_step (numbering c.args.key.now) (numbering c.args.value.now) c.size-keys.result c.loop-place.place c.loop-place.left c.loop-place.rest c.min-choices.result c.loop-place.invariant.keys c.loop-place-test.true c.loop-place.invariant.left c.loop-place.invariant.below c.loop-place.invariant.exact (omega arith) in
    s.digit.positive

pub nth_map-nth_entry-requires : goal.nth_map-nth_entry-requires
nth_map-nth_entry-requires t c = (
  omega arith,
  let s = key_step (numbering c.args.key.now) (numbering c.args.value.now) c.size-keys.result c.loop-place.place c.loop-place.left c.loop-place.rest c.min-choices.result c.loop-place.invariant.keys c.loop-place-test.true c.loop-place.invariant.left c.loop-place.invariant.below c.loop-place.invariant.exact (omega arith) in
      (omega arith, (omega arith, (s.digit.digit, s.exact))),
)

pub nth_map-nonzero_rem-rest : goal.nth_map-nonzero_rem-rest
nth_map-nonzero_rem-rest t c =
    let s = key_step (numbering c.args.key.now) (numbering c.args.value.now) c.size-keys.result c.loop-place.place c.loop-place.left c.loop-place.rest c.min-choices.result c.loop-place.invariant.keys c.loop-place-test.true c.loop-place.invariant.left c.loop-place.invariant.below c.loop-place.invariant.exact (omega arith) in
    s.digit.positive

pub nth_map-loop-place-preserved : goal.nth_map-loop-place-preserved
nth_map-loop-place-preserved t c =
    let s = key_step (numbering c.args.key.now) (numbering c.args.value.now) c.size-keys.result c.loop-place.place c.loop-place.left c.loop-place.rest c.min-choices.result c.loop-place.invariant.keys c.loop-place-test.true c.loop-place.invariant.left c.loop-place.invariant.below c.loop-place.invariant.exact (omega arith) in
    let p = s.entries c.loop-place.out (entries_at (numbering c.args.key.now) (numbering c.args.value.now) (size_of c.args.key.now) c.args.at) c.loop-place.invariant.entries in
    let appended : c.append.new.self ≡ c.loop-place.out ++ entry_at (numbering c.args.key.now) (numbering c.args.value.now) c.loop-place.place (c.loop-place.rest / (c.loop-place.left / c.min-choices.result)) = grind (arith, common_steps) in
    record {
      left = s.digit.rest;
      below = s.digit.less;
      exact = s.digit.exact;
      keys = c.loop-place.invariant.keys;
      few = c.loop-place.invariant.few;
      entries = ap (λ (es : List Value). es ++ entries_at (numbering c.args.key.now) (numbering c.args.value.now) (c.size-keys.result - (c.loop-place.place + 1)) (c.loop-place.rest % (c.loop-place.left / c.min-choices.result))) appended ∙ p;
    }

pub nth_tuple-nonzero_div-rest : goal.nth_tuple-nonzero_div-rest
nth_tuple-nonzero_div-rest t c =
    let s = part_step c.args.parts.now c.loop-part.part-index c.part-item.result c.loop-part.left c.loop-part.rest c.size.result c.loop-part-test.true c.part-item.is c.loop-part.invariant.left c.loop-part.invariant.below c.loop-part.invariant.exact c.size.ensures in
    s.digit.positive

pub nth_tuple-nth_below-requires : goal.nth_tuple-nth_below-requires
nth_tuple-nth_below-requires t c = (
  (let m = at_most size-Ty c.args.parts.now c.loop-part.part-index c.part-item.result c.loop-part-test.true in
      let e = ap size-Ty c.part-item.is in
      omega arith),
  let s = part_step c.args.parts.now c.loop-part.part-index c.part-item.result c.loop-part.left c.loop-part.rest c.size.result c.loop-part-test.true c.part-item.is c.loop-part.invariant.left c.loop-part.invariant.below c.loop-part.invariant.exact c.size.ensures in
      (s.digit.digit, s.exact),
)

pub nth_tuple-nonzero_rem-rest : goal.nth_tuple-nonzero_rem-rest
nth_tuple-nonzero_rem-rest t c =
    let s = part_step c.args.parts.now c.loop-part.part-index c.part-item.result c.loop-part.left c.loop-part.rest c.size.result c.loop-part-test.true c.part-item.is c.loop-part.invariant.left c.loop-part.invariant.below c.loop-part.invariant.exact c.size.ensures in
    s.digit.positive

pub nth_tuple-loop-part-preserved : goal.nth_tuple-loop-part-preserved
nth_tuple-loop-part-preserved t c =
    let s = part_step c.args.parts.now c.loop-part.part-index c.part-item.result c.loop-part.left c.loop-part.rest c.size.result c.loop-part-test.true c.part-item.is c.loop-part.invariant.left c.loop-part.invariant.below c.loop-part.invariant.exact c.size.ensures in
    let p = s.parts c.loop-part.out (tuple_at (map numbering c.args.parts.now) c.args.at) c.loop-part.invariant.parts in
    let pushed : c.push.new.self ≡ c.loop-part.out ++ value_at c.part-item.result (c.loop-part.rest / (c.loop-part.left / c.size.result)) ∷ [] = grind (arith, common_steps) in
    record { left = s.digit.rest; below = s.digit.less; exact = s.digit.exact; parts = ap (λ (vs : List Value). vs ++ tuple_at (map numbering (drop (c.loop-part.part-index + 1) c.args.parts.now)) (c.loop-part.rest % (c.loop-part.left / c.size.result))) pushed ∙ p }
