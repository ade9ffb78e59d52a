use Rattle.std.proofs.Common.{◌++◌, ap, sym, ◌∙◌, append_assoc}
use Rattle.gb_smt.specs.Leaves.{connective, split}
use Rattle.gb_smt.proofs.Splits.{split_All, split_AllMemory, split_one_other, split_at_two, split_two_other, split_other}
use Rattle.gb_smt.proofs.leaves.+split.Goals as goal

pub returns-in_ok-inner-in-All : goal.returns-in_ok-inner-in-All
returns-in_ok-inner-in-All t c =
    let e = split_All c.args.t.now c.get.result.now c.as_slice-args.result.now c.index-args-0.result c.args.context.now c.args.hyps.now c.get.ensures c.as_slice-args.ensures c.if-args-eq1.true c.index-args-0.is c.in-All.ty c.in_ok-inner-in-All.inner c.in-All.is c.in_ok-inner-in-All.ensures in
    rw e c.split.ensures

pub returns-in_ok-inner-in-AllMemory : goal.returns-in_ok-inner-in-AllMemory
returns-in_ok-inner-in-AllMemory t c =
    let e = split_AllMemory c.args.t.now c.get.result.now c.as_slice-args.result.now c.index-args-0-in-AllMemory.result c.args.context.now c.args.hyps.now c.get.ensures c.as_slice-args.ensures c.if-args-eq1.true c.index-args-0-in-AllMemory.is c.in_ok-inner-in-AllMemory.inner c.in-AllMemory.is c.in_ok-inner-in-AllMemory.ensures in
    rw e c.split-in-AllMemory.ensures

pub returns-in_default : goal.returns-in_default
returns-in_default t c =
    let e = split_one_other c.args.t.now c.get.result.now c.as_slice-args.result.now c.args.context.now c.args.hyps.now c.get.ensures c.as_slice-args.ensures c.if-args-eq1.true c.in_default.not-All c.in_default.not-AllMemory in
    rw e c.add_leaf.ensures

pub returns-in_ok-more-in-Implication : goal.returns-in_ok-more-in-Implication
returns-in_ok-more-in-Implication t c =
    let e = split_at_two c.args.t.now _ c.as_slice-args.result.now c.index-args-0-in-Implication.result c.index-args-1.result c.args.context.now c.args.hyps.now (c.in-Implication.ensures ∙ ap connective c.get-then-args-eq2.ensures) c.as_slice-args.ensures c.if-args-eq2.true c.index-args-0-in-Implication.is c.index-args-1.is in
    let f = e ∙ ap (split c.index-args-1.result c.args.context.now) (sym c.in_ok-more-in-Implication.ensures) in
    rw f c.split-in-Implication.ensures

pub returns-in_ok-split-in-Conjunction : goal.returns-in_ok-split-in-Conjunction
returns-in_ok-split-in-Conjunction t c =
    let e = split_at_two c.args.t.now _ c.as_slice-args.result.now c.index-args-0-in-Conjunction.result c.index-args-1-in-Conjunction.result c.args.context.now c.args.hyps.now (c.in-Conjunction.ensures ∙ ap connective c.get-then-args-eq2.ensures) c.as_slice-args.ensures c.if-args-eq2.true c.index-args-0-in-Conjunction.is c.index-args-1-in-Conjunction.is in
    let f = ap (λ l. l ++ split c.index-args-1-in-Conjunction.result c.args.context.now c.args.hyps.now) c.in_ok-split-in-Conjunction.ensures ∙ append_assoc c.args.leaves.now _ _ ∙ ap (λ l. c.args.leaves.now ++ l) (sym e) in
    rw f at c.split-in-Conjunction-2.ensures

pub returns-in-Other : goal.returns-in-Other
returns-in-Other t c =
    let e = split_two_other c.args.t.now c.as_slice-args.result.now c.args.context.now c.args.hyps.now (c.in-Other.ensures ∙ ap connective c.get-then-args-eq2.ensures) c.as_slice-args.ensures c.if-args-eq2.true in
    rw e c.add_leaf-in-Other.ensures

pub returns : goal.returns
returns t c =
    let e = split_other c.args.t.now c.as_slice-args.result.now c.args.context.now c.args.hyps.now c.as_slice-args.ensures c.if-args-eq1.false c.if-args-eq2.false in
    rw e c.add_leaf-2.ensures
