use Rattle.std.proofs.Common.{if◌then◌else◌, map, refl, sym, ap, ◌∙◌, arith}
use Rattle.gb_eval.proofs.Fuel.{opens}
use Rattle.gb_meaning.specs.Distributions.{stated}
use Rattle.gb_terms.specs.declared.term.Head.TheVariants as head
use Rattle.gb_eval.specs.Totals.{total_of, weights_total}
use Rattle.gb_eval.specs.Eval.{operators_in}
use Rattle.gb_eval.proofs.Layers.{operator_other, total_at, total_first, total_other, uniform_total}
use Rattle.gb_eval.specs.Findings.Comes.{unknown}
use Rattle.gb_eval.proofs.Opened.{open_total, closed_total}
use Rattle.gb_eval.proofs.Stops.{gives_as}
use Rattle.gb_eval.proofs.total.+total.Goals as goal

pub operator_total-returns-in-Distr-clause-value : goal.operator_total-returns-in-Distr-clause-value
operator_total-returns-in-Distr-clause-value t c =
    gives_as (λ x. x) _ _ c.number_of_outcomes.result (uniform_total c.args.op c.args.ty.now c.in-Distr.outcomes c.get.result.now c.in-Uniform.is c.in-Distr.is c.get.ensures (map (total_of (operators_in c.args.script.now)) c.args.args.now)) c.number_of_outcomes.ensures.value

pub total-returns-in-Builtin-clause-value : goal.total-returns-in-Builtin-clause-value
total-returns-in-Builtin-clause-value t c =
    gives_as (λ x. x) _ _ c.operator_total.result
    (total_at (operators_in c.args.script.now) c.args.t.now c.get.result.now c.as_slice-args.result.now c.get-in-Builtin.result.now c.get.ensures c.as_slice-args.ensures c.get-in-Builtin.ensures (head.Builtin c.in-Builtin.op) c.in-Builtin.is)
    c.operator_total.ensures.value

pub total-returns-in-User-clause-value : goal.total-returns-in-User-clause-value
total-returns-in-User-clause-value t c =
    gives_as (λ x. x) _ _ c.named_total.result
    (total_at (operators_in c.args.script.now) c.args.t.now c.get.result.now c.as_slice-args.result.now c.get-in-User.result.now c.get.ensures c.as_slice-args.ensures c.get-in-User.ensures (head.User c.in-User.name) c.in-User.is)
    c.named_total.ensures.value

pub total-returns-in-Map-clause-value : goal.total-returns-in-Map-clause-value
total-returns-in-Map-clause-value t c =
    gives_as (λ x. x) _ _ c.of_first.result
    (total_first (operators_in c.args.script.now) c.args.t.now c.get.result.now c.as_slice-args.result.now _ c.get.ensures c.as_slice-args.ensures refl c.in-Map.is)
    c.of_first.ensures.value

pub total-returns-in-Weights-clause-value : goal.total-returns-in-Weights-clause-value
total-returns-in-Weights-clause-value t c =
    gives_as (λ x. x) _ _ c.weights_total.result
    (total_at (operators_in c.args.script.now) c.args.t.now c.get.result.now c.as_slice-args.result.now _ c.get.ensures c.as_slice-args.ensures refl (head.Weights c.in-Weights.pairs) c.in-Weights.is
    ∙ ap (λ ps. weights_total (stated ps)) (sym c.as_slice.ensures))
    c.weights_total.ensures.value

pub total-returns-in_default : goal.total-returns-in_default
total-returns-in_default t c =
    record { value = total_other (operators_in c.args.script.now) c.args.t.now c.get.result.now c.as_slice-args.result.now _ c.get.ensures c.as_slice-args.ensures refl c.in_default.not-Builtin c.in_default.not-User c.in_default.not-Restrict c.in_default.not-Map c.in_default.not-Weights; above = tt; small = tt }

pub named_total-returns-in-Some-clause-value : goal.named_total-returns-in-Some-clause-value
named_total-returns-in-Some-clause-value t c =
    gives_as (λ x. x) _ _ c.total.result
    (ap (λ b. if b then (operators_in c.args.script.now c.args.name.now).total else unknown) (sym c.is_distribution.ensures ∙ c.if-not-is_distribution.false)
    ∙ open_total c.args.script.now c.args.name.now c.inside.result c.in-Some.body.now c.in-Some.ensures c.inside.ensures.scope c.inside.ensures.depth)
    c.total.ensures.value

pub named_total-returns-in-None-clause-value : goal.named_total-returns-in-None-clause-value
named_total-returns-in-None-clause-value t c =
    ap (λ b. if b then (operators_in c.args.script.now c.args.name.now).total else unknown) (sym c.is_distribution.ensures ∙ c.if-not-is_distribution.false)
    ∙ closed_total c.args.script.now c.args.name.now c.in-None.ensures

pub named_total-total-requires : goal.named_total-total-requires
named_total-total-requires t c =
    ((let f = opens c.args.script.now c.inside.result c.args.name.now c.in-Some.body.now c.in-Some.ensures c.inside.ensures.scope c.inside.ensures.depth in omega arith), tt)

pub operator_total-returns-in_default : goal.operator_total-returns-in_default
operator_total-returns-in_default t c =
    record { value = operator_other c.args.op c.args.ty.now (map (total_of (operators_in c.args.script.now)) c.args.args.now) c.in_default.not-Coin c.in_default.not-Uniform c.in_default.not-Dunit c.in_default.not-Product c.in_default.not-If; above = tt; small = tt }
