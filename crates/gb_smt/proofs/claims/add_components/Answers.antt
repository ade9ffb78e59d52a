use Rattle.std.proofs.Common.{◌≡◌, ◌-◌, ◌++◌, length, sym, ap, ◌∙◌, arith}
use Rattle.gb_equality.specs.Components.{inside, outside}
use Rattle.gb_smt.specs.Claims.{claim_of, contradictions, first_variables, components}
use Rattle.gb_smt.proofs.Parts.{component_added, components_none, components_done}
use Rattle.gb_smt.proofs.claims.add_components.Goals as goal
use Rattle.gb_smt.proofs.claims.add_components.Goals.{else-loop-turn-test, then-loop-turn-test+in_ok-from+in-None}

pub loop-turn-preserved : goal.loop-turn-preserved
loop-turn-preserved c =
    component_added c.loop-turn.out c.take_joined.new.out _ (length c.args.hyps) c.loop-turn.turn c.loop-turn.left c.in_ok-left-in-Some.left (inside c.as_slice-in-Some.result.now c.as_slice-in-Some-2.result.now) c.in-Some.from (claim_of (inside c.as_slice-in-Some.result.now c.as_slice-in-Some-2.result.now) c.args.never.now)
    (omega (arith, c.loop-turn-test.true, c.len-turn-end.ensures))
    (ap first_variables (sym c.as_slice.ensures) ∙ sym c.in_ok-from.ensures ∙ c.in-Some.is)
    (λ i. inside (c.as_slice-in-Some.ensures i) (c.as_slice-in-Some-2.ensures i))
    (c.in_ok-left-in-Some.ensures.others ∙ (λ i. outside (c.as_slice-in-Some.ensures i) (c.as_slice-in-Some-2.ensures i)))
    (ap (claim_of (inside c.as_slice-in-Some.result.now c.as_slice-in-Some-2.result.now)) c.requires)
    c.in_ok-left-in-Some.ensures.out
    c.loop-turn.invariant

pub returns : goal.returns
returns c =
    let r : components (length c.args.hyps - c.loop-turn.turn) c.loop-turn.left ≡ contradictions c.loop-turn.left =
    elim c.loop-turn-test.branch [
      | else-loop-turn-test w ↦ components_done (length c.args.hyps) c.loop-turn.turn c.loop-turn.left (omega (arith, w.loop-turn-test.false, c.len-turn-end.ensures))
      | then-loop-turn-test+in_ok-from+in-None w ↦ components_none (length c.args.hyps - c.loop-turn.turn) c.loop-turn.left (ap first_variables (sym w.as_slice.ensures) ∙ sym w.in_ok-from.ensures ∙ w.in-None.is)
    ] in
    let e = ap (λ l. c.loop-turn.out ++ l) (sym r) ∙ c.loop-turn.invariant in
    rw e at c.add_contradiction.ensures
