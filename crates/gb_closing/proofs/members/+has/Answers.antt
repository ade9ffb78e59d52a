use Rattle.std.proofs.Common.{◌+◌, ◌&&◌, inl, inr, ap, map, drop, sym, ◌∙◌, arith}
use Rattle.gb_core.specs.Numbering.{is_tuple}
use Rattle.gb_core.specs.Types.{numbering, size_of}
use Rattle.gb_core.proofs.Orders.{lawful}
use Rattle.gb_closing.proofs.Parts.{map_sizes, no_further, none_has, none_of_map, one_entry, other_length, part_has, parts_end}
use Rattle.gb_closing.proofs.members.+has.Goals as goal
use Rattle.gb_closing.proofs.members.+has.Goals.{has_entries-then-size-eq0-via-then-size-eq0, has_entries-then-size-eq0-via-else-size-eq0+then-size-eq0-2}

pub has-returns-then-size-eq0 : goal.has-returns-then-size-eq0
has-returns-then-size-eq0 t c = sym (none_has c.args.ty.now c.args.v.now (omega (arith, c.size.ensures, c.if-size-eq0.true)))

pub has_entries-returns-then-size-eq0 : goal.has_entries-returns-then-size-eq0
has_entries-returns-then-size-eq0 t c =
    c.is_empty.ensures
    ∙ none_of_map (numbering c.args.key.now) (numbering c.args.value.now) (lawful c.args.key.now) (lawful c.args.value.now)
    (elim c.then-size-eq0.branch [
      | has_entries-then-size-eq0-via-then-size-eq0 w ↦ inl (omega (arith, c.size.ensures, w.if-size-eq0.true))
      | has_entries-then-size-eq0-via-else-size-eq0+then-size-eq0-2 w ↦ inr (omega (arith, w.size-else-size-eq0.ensures, w.if-size-eq0-2.true))
    ])
    c.args.entries.now

pub has_entries-behind_key-requires : goal.has_entries-behind_key-requires
has_entries-behind_key-requires t c =
    let s = map_sizes (size_of c.args.key.now) (size_of c.args.value.now) (omega (arith, c.size.ensures, c.if-size-eq0.false)) (omega (arith, c.size-else-size-eq0.ensures, c.if-size-eq0-2.false)) c.requires.small in
    (omega arith, (c.requires.key, (c.requires.value, (s.0, s.1))))

pub has_parts-returns-then-types-values : goal.has_parts-returns-then-types-values
has_parts-returns-then-types-values t c = sym (other_length c.args.types.now c.args.values.now (λ e. omega (arith, e, c.if-types-values.true)))

pub has_entries-loop-entry-preserved : goal.has_entries-loop-entry-preserved
has_entries-loop-entry-preserved t c =
    sym (one_entry (numbering c.args.key.now) (numbering c.args.value.now) (lawful c.args.key.now) (lawful c.args.value.now) c.args.entries.now c.loop-entry.entry-index c.loop-entry.from c.entry-item.result
    c.loop-entry-test.true c.entry-item.is c.in-Some.next (sym c.behind_key.ensures ∙ c.in-Some.is))
    ∙ c.loop-entry.invariant

pub has_entries-returns-in-None : goal.has_entries-returns-in-None
has_entries-returns-in-None t c =
    sym (no_further (numbering c.args.key.now) (numbering c.args.value.now) (lawful c.args.key.now) (lawful c.args.value.now) c.args.entries.now c.loop-entry.entry-index c.loop-entry.from c.entry-item.result
    c.loop-entry-test.true c.entry-item.is (sym c.behind_key.ensures ∙ c.in-None.is))
    ∙ c.loop-entry.invariant

pub has_parts-loop-i-preserved : goal.has_parts-loop-i-preserved
has_parts-loop-i-preserved t c =
    let v = c.loop-i.invariant in
    let p = part_has c.args.types.now c.args.values.now c.loop-i.i c.index-types-i.result c.index-values-i.result c.loop-i-test.true (omega (arith, c.loop-i-test.true, v.lengths)) c.index-types-i.is c.index-values-i.is v.finite v.some v.small in
    record {
      lengths = v.lengths;
      finite = p.others_finite;
      some = p.others_some;
      small = p.others_exact;
      rest = sym (p.opened ∙ ap (λ b. b && is_tuple (map numbering (drop (c.loop-i.i + 1) c.args.types.now)) (drop (c.loop-i.i + 1) c.args.values.now)) (sym c.has.ensures ∙ c.if-not-has.false)) ∙ v.rest;
    }

pub has_parts-returns : goal.has_parts-returns
has_parts-returns t c =
    let v = c.loop-i.invariant in
    sym (parts_end c.args.types.now c.args.values.now c.loop-i.i c.loop-i-test.false v.lengths) ∙ v.rest
