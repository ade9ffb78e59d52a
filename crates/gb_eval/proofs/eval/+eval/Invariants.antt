use Rattle.std.proofs.Common.{◌≡◌, ◌+◌, ◌*◌, ◌<◌, ◌≤◌, ◌^◌, not, [], ◌∷◌, map, drop, reverse}
use Rattle.gb_core.specs.declared.value.Value.TheVariants.{Num}
use Rattle.gb_core.specs.declared.value.Card.TheVariants.{Exact}
use Rattle.gb_core.specs.Types.{card_of, value_at}
use Rattle.gb_dist.specs.Places.{outcomes}
use Rattle.gb_dist.specs.Rows.{entries}
use Rattle.gb_eval.specs.declared.env.Bound.TheVariants as to
use Rattle.gb_eval.specs.Findings.{◌>>=◌, argument_of, collected, over, value_in, fraction_in}
use Rattle.gb_eval.specs.Findings.Comes.{found}
use Rattle.gb_eval.specs.Operators.{zero_fraction}
use Rattle.gb_eval.specs.Eval.{environment, eval, in_memory, memories_of, truth_at, next_truth, next_sum, truth_under, part_of}
use Rattle.gb_eval.proofs.Fuel.{fuel_in}
use Rattle.gb_eval.proofs.eval.+eval.Given as goal

abbrev pub decreases-eval : goal.decreases-eval
decreases-eval l = fuel_in l.env.now.script + 8 * goal.size-eval l

abbrev pub decreases-truth_under : goal.decreases-truth_under
decreases-truth_under l = fuel_in l.env.now.script + 8 * goal.size-truth_under l + 1

abbrev pub decreases-table_under : goal.decreases-table_under
decreases-table_under l = fuel_in l.env.now.script + 8 * goal.size-table_under l + 1

abbrev pub decreases-eval_with : goal.decreases-eval_with
decreases-eval_with l = fuel_in l.env.now.script + 8 * goal.size-eval_with l + 1

abbrev pub decreases-truth_with : goal.decreases-truth_with
decreases-truth_with l = fuel_in l.env.now.script + 8 * goal.size-truth_with l + 2

abbrev pub decreases-truth_in_memory : goal.decreases-truth_in_memory
decreases-truth_in_memory l = fuel_in l.env.now.script + 8 * goal.size-truth_in_memory l + 2

abbrev pub decreases-fraction_with : goal.decreases-fraction_with
decreases-fraction_with l = fuel_in l.env.now.script + 8 * goal.size-fraction_with l + 2

abbrev pub decreases-in_memories : goal.decreases-in_memories
decreases-in_memories l = fuel_in l.env.now.script + 8 * goal.size-in_memories l + 3

abbrev pub decreases-event : goal.decreases-event
decreases-event l = fuel_in l.env.now.script + 8 * goal.size-event l + 3

abbrev pub decreases-images : goal.decreases-images
decreases-images l = fuel_in l.env.now.script + 8 * goal.size-images l + 3

abbrev pub decreases-next_sum : goal.decreases-next_sum
decreases-next_sum l = fuel_in l.env.now.script + 8 * goal.size-next_sum l + 3

abbrev pub decreases-weighed : goal.decreases-weighed
decreases-weighed l = fuel_in l.env.now.script + 8 * goal.size-weighed l + 4

abbrev pub decreases-narrowed : goal.decreases-narrowed
decreases-narrowed l = fuel_in l.env.now.script + 8 * goal.size-narrowed l + 4

abbrev pub decreases-image_of : goal.decreases-image_of
decreases-image_of l = fuel_in l.env.now.script + 8 * goal.size-image_of l + 4

abbrev pub decreases-tuple : goal.decreases-tuple
decreases-tuple l = fuel_in l.env.now.script + 8 * goal.size-tuple l + 5

abbrev pub decreases-connective : goal.decreases-connective
decreases-connective l = fuel_in l.env.now.script + 8 * goal.size-connective l + 5

abbrev pub decreases-conditional : goal.decreases-conditional
decreases-conditional l = fuel_in l.env.now.script + 8 * goal.size-conditional l + 5

abbrev pub decreases-update : goal.decreases-update
decreases-update l = fuel_in l.env.now.script + 8 * goal.size-update l + 5

abbrev pub decreases-arguments : goal.decreases-arguments
decreases-arguments l = fuel_in l.env.now.script + 8 * goal.size-arguments l + 5

abbrev pub decreases-memories : goal.decreases-memories
decreases-memories l = fuel_in l.env.now.script + 8 * goal.size-memories l + 5

abbrev pub decreases-quantifier : goal.decreases-quantifier
decreases-quantifier l = fuel_in l.env.now.script + 8 * goal.size-quantifier l + 5

abbrev pub decreases-measure : goal.decreases-measure
decreases-measure l = fuel_in l.env.now.script + 8 * goal.size-measure l + 5

abbrev pub decreases-restriction : goal.decreases-restriction
decreases-restriction l = fuel_in l.env.now.script + 8 * goal.size-restriction l + 5

abbrev pub decreases-image : goal.decreases-image
decreases-image l = fuel_in l.env.now.script + 8 * goal.size-image l + 5

abbrev pub decreases-sum : goal.decreases-sum
decreases-sum l = fuel_in l.env.now.script + 8 * goal.size-sum l + 5

abbrev pub decreases-ternary : goal.decreases-ternary
decreases-ternary l = fuel_in l.env.now.script + 8 * goal.size-ternary l + 6

abbrev pub decreases-called : goal.decreases-called
decreases-called l = fuel_in l.env.now.script + 8 * goal.size-called l + 6

abbrev pub decreases-operator : goal.decreases-operator
decreases-operator l = fuel_in l.env.now.script + 8 * goal.size-operator l + 7

abbrev pub decreases-applied : goal.decreases-applied
decreases-applied l = fuel_in l.env.now.script

abbrev pub invariant-quantifier-loop-at : goal.invariant-quantifier-loop-at
invariant-quantifier-loop-at l = record {
  bound : l.bound ≡ l.initial.bound;
  body : l.args ≡ l.body ∷ [];
  count : card_of l.ty ≡ Exact l.count;
  truths : over (next_truth l.deciding (λ i. truth_at (environment l.env) l.body (to.Value (value_at l.ty i) ∷ reverse l.initial.bound))) (not l.deciding) l.at ≡ found (not l.deciding);
}

abbrev pub invariant-in_memories-loop-at : goal.invariant-in_memories-loop-at
invariant-in_memories-loop-at l = record {
  bound : l.bound ≡ l.initial.bound;
  ty : l.ty ≡ memories_of l.variables;
  count : card_of l.ty ≡ Exact l.count;
  some : 0 < l.count;
  truths : over (next_truth l.deciding (λ i. in_memory l.variables (part_of (environment l.env) l.body) (reverse l.initial.bound) (value_at (memories_of l.variables) i))) (not l.deciding) l.at ≡ found (not l.deciding);
}

abbrev pub invariant-tuple-loop-arg : goal.invariant-tuple-loop-arg
invariant-tuple-loop-arg l = record {
  bound : l.bound ≡ l.initial.bound;
  parts : collected l.parts (map (λ x. x.comes (reverse l.initial.bound) >>= value_in) (map (part_of (environment l.env)) (drop l.arg-index l.args)))
      ≡ collected [] (map (λ x. x.comes (reverse l.initial.bound) >>= value_in) (map (part_of (environment l.env)) l.args));
}

abbrev pub invariant-arguments-loop-arg : goal.invariant-arguments-loop-arg
invariant-arguments-loop-arg l = record {
  bound : l.bound ≡ l.initial.bound;
  parts : collected l.out (map (λ x. x.comes (reverse l.initial.bound) >>= argument_of) (map (part_of (environment l.env)) (drop l.arg-index l.args)))
      ≡ collected [] (map (λ x. x.comes (reverse l.initial.bound) >>= argument_of) (map (part_of (environment l.env)) l.args));
}

abbrev pub invariant-event-loop-row : goal.invariant-event-loop-row
invariant-event-loop-row l = record {
  bound : l.bound ≡ l.initial.bound;
  truths : collected l.out.items (map (λ v. truth_under (part_of (environment l.env) l.body) (to.Value v ∷ reverse l.initial.bound)) (outcomes (entries (drop l.row-index l.rows))))
      ≡ collected [] (map (λ v. truth_under (part_of (environment l.env) l.body) (to.Value v ∷ reverse l.initial.bound)) (outcomes (entries l.rows)));
}

abbrev pub invariant-images-loop-row : goal.invariant-images-loop-row
invariant-images-loop-row l = record {
  bound : l.bound ≡ l.initial.bound;
  images : collected l.out (map (λ v. eval (environment l.env) l.body (to.Value v ∷ reverse l.initial.bound) >>= value_in) (outcomes (entries (drop l.row-index l.rows))))
      ≡ collected [] (map (λ v. eval (environment l.env) l.body (to.Value v ∷ reverse l.initial.bound) >>= value_in) (outcomes (entries l.rows)));
}

abbrev pub invariant-sum-loop-at : goal.invariant-sum-loop-at
invariant-sum-loop-at l = record {
  bound : l.bound ≡ l.initial.bound;
  body : l.args ≡ l.body ∷ [];
  few : l.count ≤ 2 ^ 32;
  sum : over (next_sum (λ i. eval (environment l.env) l.body (to.Value (Num i) ∷ reverse l.initial.bound) >>= fraction_in)) zero_fraction l.at ≡ found l.all;
}
