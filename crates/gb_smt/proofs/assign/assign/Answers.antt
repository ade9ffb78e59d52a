use Rattle.std.proofs.Common.{◌+◌, ◌^◌, min, length, take, ap, ◌∙◌, arith}
use Rattle.std.proofs.lemmas.List.{take_more_set, length-set}
use Rattle.gb_core.specs.Types.{size_of}
use Rattle.gb_smt.proofs.Values.{step}
use Rattle.gb_smt.proofs.assign.assign.Goals as goal

pub nonzero_div-rest : goal.nonzero_div-rest
nonzero_div-rest c =
    (step c.args.variables.now c.loop-i.i c.index-variables-i.result c.loop-i.left c.loop-i.rest c.size.result c.loop-i-test.true c.index-variables-i.is c.loop-i.invariant.left c.loop-i.invariant.below c.loop-i.invariant.exact c.loop-i.invariant.finite (c.size.ensures ∙ ap (λ ty. min (size_of ty) (2 ^ 63)) c.get.ensures)).digit.positive

pub with_value-requires : goal.with_value-requires
with_value-requires c =
    (step c.args.variables.now c.loop-i.i c.index-variables-i.result c.loop-i.left c.loop-i.rest c.size.result c.loop-i-test.true c.index-variables-i.is c.loop-i.invariant.left c.loop-i.invariant.below c.loop-i.invariant.exact c.loop-i.invariant.finite (c.size.ensures ∙ ap (λ ty. min (size_of ty) (2 ^ 63)) c.get.ensures)).place

pub nonzero_rem-rest : goal.nonzero_rem-rest
nonzero_rem-rest c =
    (step c.args.variables.now c.loop-i.i c.index-variables-i.result c.loop-i.left c.loop-i.rest c.size.result c.loop-i-test.true c.index-variables-i.is c.loop-i.invariant.left c.loop-i.invariant.below c.loop-i.invariant.exact c.loop-i.invariant.finite (c.size.ensures ∙ ap (λ ty. min (size_of ty) (2 ^ 63)) c.get.ensures)).digit.positive

pub loop-i-preserved : goal.loop-i-preserved
loop-i-preserved c =
    let s = step c.args.variables.now c.loop-i.i c.index-variables-i.result c.loop-i.left c.loop-i.rest c.size.result c.loop-i-test.true c.index-variables-i.is c.loop-i.invariant.left c.loop-i.invariant.below c.loop-i.invariant.exact c.loop-i.invariant.finite (c.size.ensures ∙ ap (λ ty. min (size_of ty) (2 ^ 63)) c.get.ensures) in
    record {
      each = ap length c.set.ensures ∙ length-set c.loop-i.reads c.loop-i.i c.in_ok-with_value.field-0 ∙ c.loop-i.invariant.each;
      left = s.digit.rest;
      below = s.digit.less;
      exact = s.digit.exact;
      finite = s.finite;
      reads = s.pushed (take c.loop-i.i c.loop-i.reads) _ (take (c.loop-i.i + 1) c.set.new.self) c.in_ok-with_value.field-0 c.in_ok-with_value.ensures
          (ap (take (c.loop-i.i + 1)) c.set.ensures ∙ take_more_set c.loop-i.reads c.loop-i.i c.in_ok-with_value.field-0 (omega (arith, c.loop-i.invariant.each))) c.loop-i.invariant.reads;
    }
