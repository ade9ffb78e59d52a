use Rattle.std.proofs.Common.{◌+◌, drop, rules, ap, sym, ◌∙◌}
use Rattle.gb_full.specs.Loss.{names_at, with_named, with_operators}
use Rattle.gb_full.proofs.LossSteps.{operators_next}
use Rattle.gb_full.proofs.loss.full_operators.Goals as goal

pub loop-i-preserved : goal.loop-i-preserved
loop-i-preserved c =
    let ds = c.args.scope.now in
    let l = c.loop-i in
    let rest = drop (l.i + 1) ds in
    let f = c.in_ok-full.ensures ∙ ap (with_named ds l.full) (c.as_slice.ensures ∙ c.in_ok-names.ensures ∙ ap names_at c.entry_at.ensures) in
    let e = ap (λ ns. with_operators ds ns rest) f ∙ sym (operators_next ds l.full l.i) ∙ l.invariant in
    search (rules, e)
