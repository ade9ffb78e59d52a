use Rattle.std.proofs.Common.{◌≡◌, true, false, Err, [], ◌∷◌, map, reverse, refl, sym, ap, ◌∙◌, arith}
use Rattle.std.proofs.lemmas.Result.{err_from_is_err_and}
use Rattle.gb_eval.proofs.Fuel.{opens}
use Rattle.gb_terms.specs.declared.term.Head.TheVariants as head
use Rattle.gb_core.specs.declared.value.Value.TheVariants.{Num, Many}
use Rattle.gb_meaning.specs.Distributions.{stated}
use Rattle.gb_eval.specs.Findings.{◌>>=◌, argument_of, collected, fraction_in, shown, shown_table, value_in, Stops}
use Rattle.gb_eval.specs.Findings.Finding.{value}
use Rattle.gb_eval.specs.Findings.Comes.{found}
use Rattle.gb_eval.specs.declared.env.Bound.TheVariants as to
use Rattle.gb_core.specs.Numbering.{parts_of}
use Rattle.gb_core.specs.Types.{card_of, value_at}
use Rattle.gb_labels.specs.Held.{with_values}
use Rattle.gb_dist.specs.Places.{outcomes}
use Rattle.gb_dist.specs.Rows.{entries}
use Rattle.gb_eval.specs.Operators.{zero_fraction}
use Rattle.gb_eval.specs.Eval.{environment, eval, image_of, in_memories, in_memory, memories_of, narrowed, next_sum, part_of, quantified, summed, truth_at, truth_under, tuple, value_bound, value_of, weighed, weighted}
use Rattle.gb_eval.proofs.Layers.{eval_at, eval_other}
use Rattle.gb_eval.proofs.Environments.{environment_is}
use Rattle.gb_eval.proofs.Opened.{open_comes, closed_comes}
use Rattle.gb_eval.proofs.Stops.{gives_as, leads_on, passes, stops_as, stops_with}
use Rattle.gb_eval.proofs.Collected.{one_more, one_stops}
use Rattle.gb_eval.proofs.Places.{beq_same, in_memories_decided, in_memories_stops, mapped_by, measured_by, operated_many, operated_three, over_next, quantified_decided, quantified_stops, restricted_by, summed_stops, summed_whole, three_other, truths_on}
use Rattle.gb_eval.proofs.eval.+eval.Goals as goal

pub eval-returns-in_ok-value-in-Lit-clause-found : goal.eval-returns-in_ok-value-in-Lit-clause-found
eval-returns-in_ok-value-in-Lit-clause-found t c =
    eval_at (environment c.args.env.now) c.args.t.now c.get.result.now c.as_slice-args.result.now _ (reverse c.args.bound.now) c.get.ensures c.as_slice-args.ensures refl (head.Lit c.in-Lit.v) c.in-Lit.is
    ∙ ap (λ v. found (value v)) (sym c.in_ok-value-in-Lit.ensures)

pub eval-returns-in-Whole-clause-found : goal.eval-returns-in-Whole-clause-found
eval-returns-in-Whole-clause-found t c =
    eval_at (environment c.args.env.now) c.args.t.now c.get.result.now c.as_slice-args.result.now _ (reverse c.args.bound.now) c.get.ensures c.as_slice-args.ensures refl (head.Whole c.in-Whole.n) c.in-Whole.is
    ∙ ap found (sym c.whole.ensures)

pub eval-returns-in-Read-clause-found : goal.eval-returns-in-Read-clause-found
eval-returns-in-Read-clause-found t c =
    gives_as shown _ _ c.value_of.result
    (eval_at (environment c.args.env.now) c.args.t.now c.get.result.now c.as_slice-args.result.now c.get-in-Read.result.now (reverse c.args.bound.now) c.get.ensures c.as_slice-args.ensures c.get-in-Read.ensures (head.Read c.in-Read.r) c.in-Read.is
    ∙ ap (λ e. value_of e.reads (reverse c.args.bound.now) c.in-Read.r c.get-in-Read.result.now) (environment_is c.args.env.now)
    ∙ ap (λ vs. value_of c.args.env.now.reads.now (reverse vs) c.in-Read.r c.get-in-Read.result.now) (sym c.as_slice.ensures))
    c.value_of.ensures

pub eval-returns-in-Bound-clause-found : goal.eval-returns-in-Bound-clause-found
eval-returns-in-Bound-clause-found t c =
    gives_as shown _ _ c.value_bound.result
    (eval_at (environment c.args.env.now) c.args.t.now c.get.result.now c.as_slice-args.result.now _ (reverse c.args.bound.now) c.get.ensures c.as_slice-args.ensures refl (head.Bound c.in-Bound.index) c.in-Bound.is
    ∙ ap (λ vs. value_bound (reverse vs) c.in-Bound.index) (sym c.as_slice-in-Bound.ensures))
    c.value_bound.ensures

pub eval-returns-in-Builtin-clause-found : goal.eval-returns-in-Builtin-clause-found
eval-returns-in-Builtin-clause-found t c =
    gives_as shown _ _ c.operator.result
    (eval_at (environment c.args.env.now) c.args.t.now c.get.result.now c.as_slice-args.result.now c.get-in-Builtin.result.now (reverse c.args.bound.now) c.get.ensures c.as_slice-args.ensures c.get-in-Builtin.ensures (head.Builtin c.in-Builtin.op) c.in-Builtin.is)
    c.operator.ensures.found

pub eval-returns-in-User-clause-found : goal.eval-returns-in-User-clause-found
eval-returns-in-User-clause-found t c =
    gives_as shown _ _ c.called.result
    (eval_at (environment c.args.env.now) c.args.t.now c.get.result.now c.as_slice-args.result.now c.get-in-User.result.now (reverse c.args.bound.now) c.get.ensures c.as_slice-args.ensures c.get-in-User.ensures (head.User c.in-User.name) c.in-User.is)
    c.called.ensures.found

pub eval-returns-in-All-clause-found : goal.eval-returns-in-All-clause-found
eval-returns-in-All-clause-found t c =
    gives_as shown _ _ c.quantifier.result
    (eval_at (environment c.args.env.now) c.args.t.now c.get.result.now c.as_slice-args.result.now _ (reverse c.args.bound.now) c.get.ensures c.as_slice-args.ensures refl (head.All c.in-All.ty) c.in-All.is
    ∙ ap (λ u. quantified false u (map (part_of (environment c.args.env.now)) c.as_slice-args.result.now) (reverse c.args.bound.now)) (sym c.get-in-All.ensures))
    c.quantifier.ensures.found

pub eval-returns-in-Some-clause-found : goal.eval-returns-in-Some-clause-found
eval-returns-in-Some-clause-found t c =
    gives_as shown _ _ c.quantifier-in-Some.result
    (eval_at (environment c.args.env.now) c.args.t.now c.get.result.now c.as_slice-args.result.now _ (reverse c.args.bound.now) c.get.ensures c.as_slice-args.ensures refl (head.Some c.in-Some.ty) c.in-Some.is
    ∙ ap (λ u. quantified true u (map (part_of (environment c.args.env.now)) c.as_slice-args.result.now) (reverse c.args.bound.now)) (sym c.get-in-Some.ensures))
    c.quantifier-in-Some.ensures.found

pub eval-returns-in-AllMemory-clause-found : goal.eval-returns-in-AllMemory-clause-found
eval-returns-in-AllMemory-clause-found t c =
    gives_as shown _ _ c.memories.result
    (eval_at (environment c.args.env.now) c.args.t.now c.get.result.now c.as_slice-args.result.now _ (reverse c.args.bound.now) c.get.ensures c.as_slice-args.ensures refl head.AllMemory c.in-AllMemory.is)
    c.memories.ensures.found

pub eval-returns-in-SomeMemory-clause-found : goal.eval-returns-in-SomeMemory-clause-found
eval-returns-in-SomeMemory-clause-found t c =
    gives_as shown _ _ c.memories-in-SomeMemory.result
    (eval_at (environment c.args.env.now) c.args.t.now c.get.result.now c.as_slice-args.result.now _ (reverse c.args.bound.now) c.get.ensures c.as_slice-args.ensures refl head.SomeMemory c.in-SomeMemory.is)
    c.memories-in-SomeMemory.ensures.found

pub eval-returns-in-Mu-clause-found : goal.eval-returns-in-Mu-clause-found
eval-returns-in-Mu-clause-found t c =
    gives_as shown _ _ c.measure.result
    (eval_at (environment c.args.env.now) c.args.t.now c.get.result.now c.as_slice-args.result.now _ (reverse c.args.bound.now) c.get.ensures c.as_slice-args.ensures refl head.Mu c.in-Mu.is)
    c.measure.ensures.found

pub eval-returns-in-Restrict-clause-found : goal.eval-returns-in-Restrict-clause-found
eval-returns-in-Restrict-clause-found t c =
    gives_as shown _ _ c.restriction.result
    (eval_at (environment c.args.env.now) c.args.t.now c.get.result.now c.as_slice-args.result.now _ (reverse c.args.bound.now) c.get.ensures c.as_slice-args.ensures refl head.Restrict c.in-Restrict.is)
    c.restriction.ensures.found

pub eval-returns-in-Map-clause-found : goal.eval-returns-in-Map-clause-found
eval-returns-in-Map-clause-found t c =
    gives_as shown _ _ c.image.result
    (eval_at (environment c.args.env.now) c.args.t.now c.get.result.now c.as_slice-args.result.now _ (reverse c.args.bound.now) c.get.ensures c.as_slice-args.ensures refl head.Map c.in-Map.is)
    c.image.ensures.found

pub eval-returns-in-Weights-clause-found : goal.eval-returns-in-Weights-clause-found
eval-returns-in-Weights-clause-found t c =
    gives_as shown _ _ c.weighted.result
    (eval_at (environment c.args.env.now) c.args.t.now c.get.result.now c.as_slice-args.result.now _ (reverse c.args.bound.now) c.get.ensures c.as_slice-args.ensures refl (head.Weights c.in-Weights.pairs) c.in-Weights.is
    ∙ ap (λ ps. weighted (stated ps)) (sym c.as_slice-in-Weights.ensures))
    c.weighted.ensures

pub eval-returns-in-Sum-clause-found : goal.eval-returns-in-Sum-clause-found
eval-returns-in-Sum-clause-found t c =
    gives_as shown _ _ c.sum.result
    (eval_at (environment c.args.env.now) c.args.t.now c.get.result.now c.as_slice-args.result.now _ (reverse c.args.bound.now) c.get.ensures c.as_slice-args.ensures refl (head.Sum c.in-Sum.count) c.in-Sum.is)
    c.sum.ensures.found

pub eval-returns-in_default : goal.eval-returns-in_default
eval-returns-in_default t c =
    record {
      found = eval_other (environment c.args.env.now) c.args.t.now c.get.result.now c.as_slice-args.result.now _ (reverse c.args.bound.now) c.get.ensures c.as_slice-args.ensures refl c.in_default.not-Lit c.in_default.not-Whole c.in_default.not-Read c.in_default.not-Bound c.in_default.not-Builtin c.in_default.not-User c.in_default.not-All c.in_default.not-Some c.in_default.not-Mu c.in_default.not-Sum c.in_default.not-Restrict c.in_default.not-Map c.in_default.not-Weights c.in_default.not-AllMemory c.in_default.not-SomeMemory;
      bound = tt;
    }

pub operator-returns-in_default-clause-found : goal.operator-returns-in_default-clause-found
operator-returns-in_default-clause-found t c =
    operated_many c.args.op c.args.ty.now (part_of (environment c.args.env.now)) c.args.args.now (reverse c.args.bound.now) c.is_tuple.result c.is_tuple.ensures c.if-is_tuple.false (omega (arith, c.in_default.len_at_least))

pub quantifier-returns-in_err-truth_with-clause-found : goal.quantifier-returns-in_err-truth_with-clause-found
quantifier-returns-in_err-truth_with-clause-found t c =
    let v = c.loop-at.invariant in
    let h : Stops (quantified c.args.deciding c.args.ty.now (map (part_of (environment c.args.env.now)) c.args.args.now) (reverse c.args.bound.now)) c.in_err-truth_with.field-0.0 =
    quantified_stops c.args.deciding c.args.ty.now c.in-Exact.n c.loop-at.at (part_of (environment c.args.env.now) c.body-item.result) (map (part_of (environment c.args.env.now)) c.args.args.now) (reverse c.args.bound.now)
    (ap (map (part_of (environment c.args.env.now))) v.body) v.count c.in_err-truth_with.field-0.0 v.truths
    (stops_as _ _ c.in_err-truth_with.field-0.0 (λ i. truth_at (environment c.args.env.now) c.body-item.result (to.Value (sym c.in_ok-value.ensures i) ∷ reverse (sym v.bound i))) c.in_err-truth_with.ensures.found)
    c.loop-at-test.true in
    let e = err_from_is_err_and c.from_residual-in_err-truth_with.result c.from_residual-in_err-truth_with.ensures.1 in
    stops_with shown _ c.from_residual-in_err-truth_with.result c.in_err-truth_with.field-0.0 h (e.1 ∙ ap Err e.2)

pub quantifier-returns-then-branch-deciding-clause-found : goal.quantifier-returns-then-branch-deciding-clause-found
quantifier-returns-then-branch-deciding-clause-found t c =
    let v = c.loop-at.invariant in
    quantified_decided c.args.deciding c.args.ty.now c.in-Exact.n c.loop-at.at (part_of (environment c.args.env.now) c.body-item.result) (map (part_of (environment c.args.env.now)) c.args.args.now) (reverse c.args.bound.now)
    (ap (map (part_of (environment c.args.env.now))) v.body) v.count v.truths
    ((λ i. truth_at (environment c.args.env.now) c.body-item.result (to.Value (sym c.in_ok-value.ensures i) ∷ reverse (sym v.bound i))) ∙ c.in_ok-truth_with.ensures.found ∙ ap found (beq_same _ _ c.if-branch-deciding.true))
    c.loop-at-test.true
    ∙ ap found (sym c.of_truth.ensures)

pub sum-returns-in_err-all-clause-found : goal.sum-returns-in_err-all-clause-found
sum-returns-in_err-all-clause-found t c =
    let v = c.loop-at.invariant in
    let h : Stops (summed c.args.count (map (part_of (environment c.args.env.now)) c.args.args.now) (reverse c.args.bound.now)) c.in_err-all.field-0.0 =
    summed_stops c.args.count c.loop-at.at (part_of (environment c.args.env.now) c.body-item.result) (map (part_of (environment c.args.env.now)) c.args.args.now) (reverse c.args.bound.now)
    (ap (map (part_of (environment c.args.env.now))) v.body) v.few c.in_err-all.field-0.0 c.loop-at.all v.sum
    (stops_as _ _ c.in_err-all.field-0.0 (λ i. next_sum (λ k. eval (environment c.args.env.now) c.body-item.result (to.Value (Num k) ∷ reverse (sym v.bound i)) >>= fraction_in) c.loop-at.all c.loop-at.at) c.in_err-all.ensures.found)
    (omega arith) in
    let e = err_from_is_err_and c.from_residual.result c.from_residual.ensures.1 in
    stops_with shown _ c.from_residual.result c.in_err-all.field-0.0 h (e.1 ∙ ap Err e.2)

pub sum-returns-clause-found : goal.sum-returns-clause-found
sum-returns-clause-found t c =
    let v = c.loop-at.invariant in
    summed_whole c.args.count c.loop-at.at (part_of (environment c.args.env.now) c.body-item.result) (map (part_of (environment c.args.env.now)) c.args.args.now) (reverse c.args.bound.now)
    (ap (map (part_of (environment c.args.env.now))) v.body) v.few c.loop-at.all v.sum (omega arith)

pub measure-returns-clause-found : goal.measure-returns-clause-found
measure-returns-clause-found t c =
    gives_as shown _ _ c.weighed.result
    (measured_by (part_of (environment c.args.env.now)) c.args.args.now c.d-item.result c.body-item.result (reverse c.args.bound.now) (shown_table c.in_ok-table.table) c.in-len2.len_at_least c.in-len2.len_below c.d-item.is c.body-item.is c.in_ok-table.ensures.found
    ∙ ap (λ vs. weighed (part_of (environment c.args.env.now) c.body-item.result) (shown_table c.in_ok-table.table) (reverse vs)) (sym c.in_ok-table.ensures.bound))
    c.weighed.ensures.found

pub restriction-returns-clause-found : goal.restriction-returns-clause-found
restriction-returns-clause-found t c =
    gives_as shown _ _ c.narrowed.result
    (restricted_by (part_of (environment c.args.env.now)) c.args.args.now c.d-item.result c.body-item.result (reverse c.args.bound.now) (shown_table c.in_ok-table.table) c.in-len2.len_at_least c.in-len2.len_below c.d-item.is c.body-item.is c.in_ok-table.ensures.found
    ∙ ap (λ vs. narrowed (part_of (environment c.args.env.now) c.body-item.result) (shown_table c.in_ok-table.table) (reverse vs)) (sym c.in_ok-table.ensures.bound))
    c.narrowed.ensures.found

pub image-returns-clause-found : goal.image-returns-clause-found
image-returns-clause-found t c =
    gives_as shown _ _ c.image_of.result
    (mapped_by (part_of (environment c.args.env.now)) c.args.args.now c.d-item.result c.body-item.result (reverse c.args.bound.now) (shown_table c.in_ok-table.table) c.in-len2.len_at_least c.in-len2.len_below c.d-item.is c.body-item.is c.in_ok-table.ensures.found
    ∙ ap (λ vs. image_of (part_of (environment c.args.env.now) c.body-item.result) (shown_table c.in_ok-table.table) (reverse vs)) (sym c.in_ok-table.ensures.bound))
    c.image_of.ensures.found

pub operator-returns-in-len3-clause-found : goal.operator-returns-in-len3-clause-found
operator-returns-in-len3-clause-found t c =
    gives_as shown _ _ c.ternary.result
    (operated_three c.args.op c.args.ty.now (part_of (environment c.args.env.now)) c.args.args.now (reverse c.args.bound.now) c.is_tuple.result c.is_tuple.ensures c.if-is_tuple.false c.in-len3.len_at_least c.in-len3.len_below)
    c.ternary.ensures.found

pub applied-returns-in-Some : goal.applied-returns-in-Some
applied-returns-in-Some t c =
    gives_as shown _ _ c.eval.result
    (ap (λ e. (e.operators c.args.name.now).comes c.args.args.now) (environment_is c.args.env.now)
    ∙ open_comes c.args.env.now.script c.args.name.now c.inside.result c.in-Some.body.now c.in-Some.ensures c.inside.ensures.scope c.inside.ensures.depth c.args.args.now
    ∙ ap (λ e. eval e c.in-Some.body.now (reverse c.args.args.now)) (sym (environment_is _)))
    c.eval.ensures.found

pub applied-returns-in-None : goal.applied-returns-in-None
applied-returns-in-None t c =
    ap (λ e. (e.operators c.args.name.now).comes c.args.args.now) (environment_is c.args.env.now)
    ∙ closed_comes c.args.env.now.script c.args.name.now c.in-None.ensures c.args.args.now

pub applied-eval-requires : goal.applied-eval-requires
applied-eval-requires t c =
    ((let f = opens c.args.env.now.script c.inside.result c.args.name.now c.in-Some.body.now c.in-Some.ensures c.inside.ensures.scope c.inside.ensures.depth in omega arith), tt)

pub in_memories-returns-in_err-truth_in_memory-clause-found : goal.in_memories-returns-in_err-truth_in_memory-clause-found
in_memories-returns-in_err-truth_in_memory-clause-found t c =
    let v = c.loop-at.invariant in
    let h : Stops (in_memories c.args.deciding c.args.variables.now (part_of (environment c.args.env.now) c.args.body.now) (reverse c.args.bound.now)) c.in_err-truth_in_memory.field-0.0 =
    in_memories_stops c.args.deciding c.args.variables.now c.in_ok-count.count c.loop-at.at (part_of (environment c.args.env.now) c.args.body.now) (reverse c.args.bound.now)
    (ap card_of (sym v.ty) ∙ v.count) v.some c.in_err-truth_in_memory.field-0.0 v.truths
    (stops_as _ _ c.in_err-truth_in_memory.field-0.0
    (λ i. truth_at (environment c.args.env.now) c.args.body.now (to.Memory (with_values c.args.variables.now (parts_of (sym (c.in_ok-value.ensures ∙ ap (λ u. value_at u c.loop-at.at) v.ty) i))) ∷ reverse (sym v.bound i)))
    c.in_err-truth_in_memory.ensures.found)
    c.loop-at-test.true in
    let e = err_from_is_err_and c.from_residual-in_err-truth_in_memory.result c.from_residual-in_err-truth_in_memory.ensures.1 in
    stops_with shown _ c.from_residual-in_err-truth_in_memory.result c.in_err-truth_in_memory.field-0.0 h (e.1 ∙ ap Err e.2)

pub in_memories-returns-then-branch-deciding-clause-found : goal.in_memories-returns-then-branch-deciding-clause-found
in_memories-returns-then-branch-deciding-clause-found t c =
    let v = c.loop-at.invariant in
    in_memories_decided c.args.deciding c.args.variables.now c.in_ok-count.count c.loop-at.at (part_of (environment c.args.env.now) c.args.body.now) (reverse c.args.bound.now)
    (ap card_of (sym v.ty) ∙ v.count) v.some v.truths
    ((λ i. truth_at (environment c.args.env.now) c.args.body.now (to.Memory (with_values c.args.variables.now (parts_of (sym (c.in_ok-value.ensures ∙ ap (λ u. value_at u c.loop-at.at) v.ty) i))) ∷ reverse (sym v.bound i)))
    ∙ c.in_ok-truth_in_memory.ensures.found ∙ ap found (beq_same _ _ c.if-branch-deciding.true))
    c.loop-at-test.true
    ∙ ap found (sym c.of_truth.ensures)

pub tuple-loop-arg-preserved : goal.tuple-loop-arg-preserved
tuple-loop-arg-preserved t c =
    let v = c.loop-arg.invariant in
    let e : (eval (environment c.args.env.now) c.arg-item.result (reverse c.args.bound.now) >>= value_in) ≡ found c.in_ok-value_in.field-0 = ap (λ b. eval (environment c.args.env.now) c.arg-item.result (reverse b) >>= value_in) (sym v.bound) ∙ leads_on (eval (environment c.args.env.now) c.arg-item.result (reverse c.loop-arg.bound)) value_in (shown c.in_ok-part.part) c.in_ok-part.ensures.found ∙ c.in_ok-value_in.ensures in
    record {
      bound = c.in_ok-part.ensures.bound ∙ v.bound;
      parts = one_more (λ l. map (λ x. x.comes (reverse c.args.bound.now) >>= value_in) (map (part_of (environment c.args.env.now)) l)) c.args.args.now c.loop-arg.arg-index c.arg-item.result (eval (environment c.args.env.now) c.arg-item.result (reverse c.args.bound.now) >>= value_in) (λ l. refl) c.loop-arg-test.true c.arg-item.is c.loop-arg.parts c.push.new.self c.in_ok-value_in.field-0 _ v.parts e c.in_ok-push.ensures.ok;
    }

pub tuple-returns-in_err-part-clause-found : goal.tuple-returns-in_err-part-clause-found
tuple-returns-in_err-part-clause-found t c =
    let v = c.loop-arg.invariant in
    let s = c.in_err-part.field-0.0 in
    let w : Stops (eval (environment c.args.env.now) c.arg-item.result (reverse c.args.bound.now) >>= value_in) s = stops_as _ _ s (ap (λ b. eval (environment c.args.env.now) c.arg-item.result (reverse b) >>= value_in) (sym v.bound)) (passes (eval (environment c.args.env.now) c.arg-item.result (reverse c.loop-arg.bound)) value_in s c.in_err-part.ensures.found) in
    let h : Stops (tuple (map (part_of (environment c.args.env.now)) c.args.args.now) (reverse c.args.bound.now)) s = passes (collected [] (map (λ x. x.comes (reverse c.args.bound.now) >>= value_in) (map (part_of (environment c.args.env.now)) c.args.args.now))) (λ vs. found (value (Many vs))) s (one_stops (λ l. map (λ x. x.comes (reverse c.args.bound.now) >>= value_in) (map (part_of (environment c.args.env.now)) l)) c.args.args.now c.loop-arg.arg-index c.arg-item.result (eval (environment c.args.env.now) c.arg-item.result (reverse c.args.bound.now) >>= value_in) (λ l. refl) c.loop-arg-test.true c.arg-item.is c.loop-arg.parts s _ v.parts w) in
    let e = err_from_is_err_and c.from_residual.result c.from_residual.ensures.1 in
    stops_with shown _ c.from_residual.result s h (e.1 ∙ ap Err e.2)

pub tuple-returns-in_err-value_in-clause-found : goal.tuple-returns-in_err-value_in-clause-found
tuple-returns-in_err-value_in-clause-found t c =
    let v = c.loop-arg.invariant in
    let s = c.in_err-value_in.field-0.0 in
    let w : Stops (eval (environment c.args.env.now) c.arg-item.result (reverse c.args.bound.now) >>= value_in) s = stops_as _ _ s (ap (λ b. eval (environment c.args.env.now) c.arg-item.result (reverse b) >>= value_in) (sym v.bound) ∙ leads_on (eval (environment c.args.env.now) c.arg-item.result (reverse c.loop-arg.bound)) value_in (shown c.in_ok-part.part) c.in_ok-part.ensures.found) c.in_err-value_in.ensures in
    let h : Stops (tuple (map (part_of (environment c.args.env.now)) c.args.args.now) (reverse c.args.bound.now)) s = passes (collected [] (map (λ x. x.comes (reverse c.args.bound.now) >>= value_in) (map (part_of (environment c.args.env.now)) c.args.args.now))) (λ vs. found (value (Many vs))) s (one_stops (λ l. map (λ x. x.comes (reverse c.args.bound.now) >>= value_in) (map (part_of (environment c.args.env.now)) l)) c.args.args.now c.loop-arg.arg-index c.arg-item.result (eval (environment c.args.env.now) c.arg-item.result (reverse c.args.bound.now) >>= value_in) (λ l. refl) c.loop-arg-test.true c.arg-item.is c.loop-arg.parts s _ v.parts w) in
    let e = err_from_is_err_and c.from_residual-in_err-value_in.result c.from_residual-in_err-value_in.ensures.1 in
    stops_with shown _ c.from_residual-in_err-value_in.result s h (e.1 ∙ ap Err e.2)

pub arguments-loop-arg-preserved : goal.arguments-loop-arg-preserved
arguments-loop-arg-preserved t c =
    let v = c.loop-arg.invariant in
    let e : (eval (environment c.args.env.now) c.arg-item.result (reverse c.args.bound.now) >>= argument_of) ≡ found c.in_ok-argument.argument = ap (λ b. eval (environment c.args.env.now) c.arg-item.result (reverse b) >>= argument_of) (sym v.bound) ∙ leads_on (eval (environment c.args.env.now) c.arg-item.result (reverse c.loop-arg.bound)) argument_of (shown c.in_ok-answer.answer) c.in_ok-answer.ensures.found ∙ c.in_ok-argument.ensures in
    record {
      bound = c.in_ok-answer.ensures.bound ∙ v.bound;
      parts = one_more (λ l. map (λ x. x.comes (reverse c.args.bound.now) >>= argument_of) (map (part_of (environment c.args.env.now)) l)) c.args.args.now c.loop-arg.arg-index c.arg-item.result (eval (environment c.args.env.now) c.arg-item.result (reverse c.args.bound.now) >>= argument_of) (λ l. refl) c.loop-arg-test.true c.arg-item.is c.loop-arg.out c.push.new.self c.in_ok-argument.argument _ v.parts e c.in_ok-push.ensures.ok;
    }

pub arguments-returns-in_err-answer-clause-found : goal.arguments-returns-in_err-answer-clause-found
arguments-returns-in_err-answer-clause-found t c =
    let v = c.loop-arg.invariant in
    let s = c.in_err-answer.field-0.0 in
    let w : Stops (eval (environment c.args.env.now) c.arg-item.result (reverse c.args.bound.now) >>= argument_of) s = stops_as _ _ s (ap (λ b. eval (environment c.args.env.now) c.arg-item.result (reverse b) >>= argument_of) (sym v.bound)) (passes (eval (environment c.args.env.now) c.arg-item.result (reverse c.loop-arg.bound)) argument_of s c.in_err-answer.ensures.found) in
    let h = (one_stops (λ l. map (λ x. x.comes (reverse c.args.bound.now) >>= argument_of) (map (part_of (environment c.args.env.now)) l)) c.args.args.now c.loop-arg.arg-index c.arg-item.result (eval (environment c.args.env.now) c.arg-item.result (reverse c.args.bound.now) >>= argument_of) (λ l. refl) c.loop-arg-test.true c.arg-item.is c.loop-arg.out s _ v.parts w) in
    let e = err_from_is_err_and c.from_residual.result c.from_residual.ensures.1 in
    stops_with (λ x. x) _ c.from_residual.result s h (e.1 ∙ ap Err e.2)

pub arguments-returns-in_err-argument-clause-found : goal.arguments-returns-in_err-argument-clause-found
arguments-returns-in_err-argument-clause-found t c =
    let v = c.loop-arg.invariant in
    let s = c.in_err-argument.field-0.0 in
    let w : Stops (eval (environment c.args.env.now) c.arg-item.result (reverse c.args.bound.now) >>= argument_of) s = stops_as _ _ s (ap (λ b. eval (environment c.args.env.now) c.arg-item.result (reverse b) >>= argument_of) (sym v.bound) ∙ leads_on (eval (environment c.args.env.now) c.arg-item.result (reverse c.loop-arg.bound)) argument_of (shown c.in_ok-answer.answer) c.in_ok-answer.ensures.found) c.in_err-argument.ensures in
    let h = (one_stops (λ l. map (λ x. x.comes (reverse c.args.bound.now) >>= argument_of) (map (part_of (environment c.args.env.now)) l)) c.args.args.now c.loop-arg.arg-index c.arg-item.result (eval (environment c.args.env.now) c.arg-item.result (reverse c.args.bound.now) >>= argument_of) (λ l. refl) c.loop-arg-test.true c.arg-item.is c.loop-arg.out s _ v.parts w) in
    let e = err_from_is_err_and c.from_residual-in_err-argument.result c.from_residual-in_err-argument.ensures.1 in
    stops_with (λ x. x) _ c.from_residual-in_err-argument.result s h (e.1 ∙ ap Err e.2)

pub images-loop-row-preserved : goal.images-loop-row-preserved
images-loop-row-preserved t c =
    let v = c.loop-row.invariant in
    let e : (eval (environment c.args.env.now) c.args.body.now (to.Value c.row-item.result.value ∷ (reverse c.args.bound.now)) >>= value_in) ≡ found c.in_ok-outcome.outcome = (λ i. eval (environment c.args.env.now) c.args.body.now (to.Value (sym c.in_ok-value.ensures i) ∷ reverse (sym v.bound i)) >>= value_in) ∙ leads_on (eval (environment c.args.env.now) c.args.body.now (to.Value c.in_ok-value.value ∷ reverse c.loop-row.bound)) value_in (shown c.in_ok-image.image) c.in_ok-image.ensures.found ∙ c.in_ok-outcome.ensures in
    record {
      bound = c.in_ok-image.ensures.bound ∙ v.bound;
      images = one_more (λ l. map (λ v. eval (environment c.args.env.now) c.args.body.now (to.Value v ∷ (reverse c.args.bound.now)) >>= value_in) (outcomes (entries l))) c.args.rows.now c.loop-row.row-index c.row-item.result (eval (environment c.args.env.now) c.args.body.now (to.Value c.row-item.result.value ∷ (reverse c.args.bound.now)) >>= value_in) (λ l. refl) c.loop-row-test.true c.row-item.is c.loop-row.out c.push.new.self c.in_ok-outcome.outcome _ v.images e c.in_ok-push.ensures.ok;
    }

pub images-returns-in_err-image-clause-found : goal.images-returns-in_err-image-clause-found
images-returns-in_err-image-clause-found t c =
    let v = c.loop-row.invariant in
    let s = c.in_err-image.field-0.0 in
    let w : Stops (eval (environment c.args.env.now) c.args.body.now (to.Value c.row-item.result.value ∷ (reverse c.args.bound.now)) >>= value_in) s = stops_as _ _ s (λ i. eval (environment c.args.env.now) c.args.body.now (to.Value (sym c.in_ok-value.ensures i) ∷ reverse (sym v.bound i)) >>= value_in) (passes (eval (environment c.args.env.now) c.args.body.now (to.Value c.in_ok-value.value ∷ reverse c.loop-row.bound)) value_in s c.in_err-image.ensures.found) in
    let h = (one_stops (λ l. map (λ v. eval (environment c.args.env.now) c.args.body.now (to.Value v ∷ (reverse c.args.bound.now)) >>= value_in) (outcomes (entries l))) c.args.rows.now c.loop-row.row-index c.row-item.result (eval (environment c.args.env.now) c.args.body.now (to.Value c.row-item.result.value ∷ (reverse c.args.bound.now)) >>= value_in) (λ l. refl) c.loop-row-test.true c.row-item.is c.loop-row.out s _ v.images w) in
    let e = err_from_is_err_and c.from_residual-in_err-image.result c.from_residual-in_err-image.ensures.1 in
    stops_with (λ x. x) _ c.from_residual-in_err-image.result s h (e.1 ∙ ap Err e.2)

pub images-returns-in_err-outcome-clause-found : goal.images-returns-in_err-outcome-clause-found
images-returns-in_err-outcome-clause-found t c =
    let v = c.loop-row.invariant in
    let s = c.in_err-outcome.field-0.0 in
    let w : Stops (eval (environment c.args.env.now) c.args.body.now (to.Value c.row-item.result.value ∷ (reverse c.args.bound.now)) >>= value_in) s = stops_as _ _ s ((λ i. eval (environment c.args.env.now) c.args.body.now (to.Value (sym c.in_ok-value.ensures i) ∷ reverse (sym v.bound i)) >>= value_in) ∙ leads_on (eval (environment c.args.env.now) c.args.body.now (to.Value c.in_ok-value.value ∷ reverse c.loop-row.bound)) value_in (shown c.in_ok-image.image) c.in_ok-image.ensures.found) c.in_err-outcome.ensures in
    let h = (one_stops (λ l. map (λ v. eval (environment c.args.env.now) c.args.body.now (to.Value v ∷ (reverse c.args.bound.now)) >>= value_in) (outcomes (entries l))) c.args.rows.now c.loop-row.row-index c.row-item.result (eval (environment c.args.env.now) c.args.body.now (to.Value c.row-item.result.value ∷ (reverse c.args.bound.now)) >>= value_in) (λ l. refl) c.loop-row-test.true c.row-item.is c.loop-row.out s _ v.images w) in
    let e = err_from_is_err_and c.from_residual-in_err-outcome.result c.from_residual-in_err-outcome.ensures.1 in
    stops_with (λ x. x) _ c.from_residual-in_err-outcome.result s h (e.1 ∙ ap Err e.2)

pub event-loop-row-preserved : goal.event-loop-row-preserved
event-loop-row-preserved t c =
    let v = c.loop-row.invariant in
    record {
      bound = c.in_ok-holds.ensures.bound ∙ v.bound;
      truths = one_more (λ l. map (λ v. truth_under (part_of (environment c.args.env.now) c.args.body.now) (to.Value v ∷ reverse c.args.bound.now)) (outcomes (entries l))) c.args.rows.now c.loop-row.row-index c.row-item.result (truth_under (part_of (environment c.args.env.now) c.args.body.now) (to.Value c.row-item.result.value ∷ reverse c.args.bound.now)) (λ l. refl) c.loop-row-test.true c.row-item.is c.loop-row.out.items c.push.new.self.items c.in_ok-holds.holds _ v.truths
          ((λ i. truth_at (environment c.args.env.now) c.args.body.now (to.Value (sym c.in_ok-value.ensures i) ∷ reverse (sym v.bound i))) ∙ c.in_ok-holds.ensures.found) c.in_ok-push.ensures.items;
    }

pub event-returns-in_err-holds-clause-found : goal.event-returns-in_err-holds-clause-found
event-returns-in_err-holds-clause-found t c =
    let v = c.loop-row.invariant in
    let s = c.in_err-holds.field-0.0 in
    let w : Stops (truth_under (part_of (environment c.args.env.now) c.args.body.now) (to.Value c.row-item.result.value ∷ reverse c.args.bound.now)) s = stops_as _ _ s (λ i. truth_at (environment c.args.env.now) c.args.body.now (to.Value (sym c.in_ok-value.ensures i) ∷ reverse (sym v.bound i))) c.in_err-holds.ensures.found in
    let h = one_stops (λ l. map (λ v. truth_under (part_of (environment c.args.env.now) c.args.body.now) (to.Value v ∷ reverse c.args.bound.now)) (outcomes (entries l))) c.args.rows.now c.loop-row.row-index c.row-item.result (truth_under (part_of (environment c.args.env.now) c.args.body.now) (to.Value c.row-item.result.value ∷ reverse c.args.bound.now)) (λ l. refl) c.loop-row-test.true c.row-item.is c.loop-row.out.items s _ v.truths w in
    let e = err_from_is_err_and c.from_residual-in_err-holds.result c.from_residual-in_err-holds.ensures.1 in
    stops_with (λ bs. bs.items) _ c.from_residual-in_err-holds.result s h (e.1 ∙ ap Err e.2)

pub quantifier-loop-at-preserved : goal.quantifier-loop-at-preserved
quantifier-loop-at-preserved t c =
    let v = c.loop-at.invariant in
    record {
      bound = c.in_ok-truth_with.ensures.bound ∙ v.bound;
      body = v.body;
      count = v.count;
      truths = truths_on c.args.deciding (λ i. truth_at (environment c.args.env.now) c.body-item.result (to.Value (value_at c.args.ty.now i) ∷ reverse c.args.bound.now)) c.loop-at.at _ v.truths
          ((λ i. truth_at (environment c.args.env.now) c.body-item.result (to.Value (sym c.in_ok-value.ensures i) ∷ reverse (sym v.bound i))) ∙ c.in_ok-truth_with.ensures.found) c.if-branch-deciding.false;
    }

pub in_memories-loop-at-preserved : goal.in_memories-loop-at-preserved
in_memories-loop-at-preserved t c =
    let v = c.loop-at.invariant in
    record {
      bound = c.in_ok-truth_in_memory.ensures.bound ∙ v.bound;
      ty = v.ty;
      count = v.count;
      some = v.some;
      truths = truths_on c.args.deciding (λ i. in_memory c.args.variables.now (part_of (environment c.args.env.now) c.args.body.now) (reverse c.args.bound.now) (value_at (memories_of c.args.variables.now) i)) c.loop-at.at _ v.truths
          ((λ i. truth_at (environment c.args.env.now) c.args.body.now (to.Memory (with_values c.args.variables.now (parts_of (sym (c.in_ok-value.ensures ∙ ap (λ u. value_at u c.loop-at.at) v.ty) i))) ∷ reverse (sym v.bound i)))
          ∙ c.in_ok-truth_in_memory.ensures.found) c.if-branch-deciding.false;
    }

pub sum-loop-at-preserved : goal.sum-loop-at-preserved
sum-loop-at-preserved t c =
    let v = c.loop-at.invariant in
    record {
      bound = c.in_ok-all.ensures.bound ∙ v.bound;
      body = v.body;
      few = v.few;
      sum = over_next (next_sum (λ k. eval (environment c.args.env.now) c.body-item.result (to.Value (Num k) ∷ reverse c.args.bound.now) >>= fraction_in)) zero_fraction c.loop-at.at c.loop-at.all v.sum
          ∙ (λ i. next_sum (λ k. eval (environment c.args.env.now) c.body-item.result (to.Value (Num k) ∷ reverse (sym v.bound i)) >>= fraction_in) c.loop-at.all c.loop-at.at)
          ∙ c.in_ok-all.ensures.found;
    }

pub ternary-returns-in_default : goal.ternary-returns-in_default
ternary-returns-in_default t c =
    record {
      found = three_other c.args.op c.args.ty.now (map (part_of (environment c.args.env.now)) c.args.args.now) (reverse c.args.bound.now) c.in_default.not-If c.in_default.not-Set;
      bound = tt;
    }
