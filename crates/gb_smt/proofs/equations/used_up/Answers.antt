use Rattle.std.proofs.Common.{arith, ap, ◌∙◌}
use Rattle.std.specs.Option.{option_map}
use Rattle.gb_smt.specs.Equations.{first_usable, with_used}
use Rattle.gb_smt.proofs.Uses.{next_used}
use Rattle.gb_smt.proofs.equations.used_up.Goals as goal

pub loop-turn-preserved : goal.loop-turn-preserved
loop-turn-preserved c =
    let u = next_used c.loop-turn.left c.in-Some.next c.in_ok-next.field-0 (c.in_ok-next.ensures ∙ ap (λ l. option_map (λ e. with_used e l) (first_usable l.hyps)) c.get-in-loop-turn.ensures) c.in-Some.is in
    record { count = omega (arith, u.0, c.loop-turn.invariant.count); value = u.1 ∙ c.loop-turn.invariant.value }
