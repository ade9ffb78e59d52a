use Rattle.std.proofs.Common.{◌+◌, drop, ap, sym, ◌∙◌}
use Rattle.gb_ended.specs.Ended.{first_at, first_of}
use Rattle.gb_ended.specs.Loops.{first}
use Rattle.gb_ended.proofs.NamedSteps.{first_next}
use Rattle.gb_ended.proofs.ended.first_of.Goals as goal

pub returns-in-Some : goal.returns-in-Some
returns-in-Some c =
    let ds = c.args.scope.now in
    let ns = c.args.names.now in
    let l = c.loop-i in
    let f = sym c.in-Some.is ∙ c.in_ok-found.ensures ∙ ap (first_at ds ns) c.entry_at.ensures in
    ap (λ o. first o (first_of ds ns (drop (l.i + 1) ds))) f ∙ sym (first_next ds ns ds l.i) ∙ l.invariant

pub loop-i-preserved : goal.loop-i-preserved
loop-i-preserved c =
    let ds = c.args.scope.now in
    let ns = c.args.names.now in
    let l = c.loop-i in
    let f = sym c.in_default.is ∙ c.in_ok-found.ensures ∙ ap (first_at ds ns) c.entry_at.ensures in
    ap (λ o. first o (first_of ds ns (drop (l.i + 1) ds))) f ∙ sym (first_next ds ns ds l.i) ∙ l.invariant
