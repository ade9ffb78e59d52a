use Rattle.std.proofs.Common.{◌++◌, ap, sym, ◌∙◌, append_assoc}
use Rattle.gb_smt.specs.Leaves.{connective, assumed}
use Rattle.gb_smt.proofs.Splits.{assumed_at_two, assumed_whole, assumed_other}
use Rattle.gb_smt.proofs.leaves.+assume.Goals as goal

pub returns-then-args-ne2 : goal.returns-then-args-ne2
returns-then-args-ne2 t c =
    let e = assumed_other c.args.t.now c.as_slice-args.result.now c.as_slice-args.ensures c.if-args-ne2.true in
    rw e c.add_unless_true.ensures

pub returns-in_ok-assume-in-Conjunction : goal.returns-in_ok-assume-in-Conjunction
returns-in_ok-assume-in-Conjunction t c =
    let e = assumed_at_two c.args.t.now c.as_slice-args.result.now c.index-args-0.result c.index-args-1.result (c.in-Conjunction.ensures ∙ ap connective c.get.ensures) c.as_slice-args.ensures c.if-args-ne2.false c.index-args-0.is c.index-args-1.is in
    let f = ap (λ l. l ++ assumed c.index-args-1.result) c.in_ok-assume-in-Conjunction.ensures ∙ append_assoc c.args.hyps.now _ _ ∙ ap (λ l. c.args.hyps.now ++ l) (sym e) in
    rw f at c.assume-in-Conjunction.ensures

pub returns-in_default : goal.returns-in_default
returns-in_default t c =
    let e = assumed_whole c.args.t.now c.connective_of.result (c.connective_of.ensures ∙ ap connective c.get.ensures) c.in_default.not-Conjunction in
    rw e c.add_unless_true-in_default.ensures
