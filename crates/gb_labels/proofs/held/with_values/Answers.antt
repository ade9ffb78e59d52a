use Rattle.std.proofs.Common.{◌≤◌, ◌++◌, length, min, sym, ap, ◌∙◌, arith}
use Rattle.std.proofs.lemmas.List.{append-nil}
use Rattle.gb_labels.proofs.NotedReads.{none_left}
use Rattle.gb_labels.proofs.held.with_values.Goals as goal

pub returns : goal.returns
returns c =
    let few : min (length c.args.variables.now) (length c.args.values.now) ≤ c.loop-i.i = omega (arith, c.min-i-end.ensures) in
    sym (append-nil c.loop-i.out) ∙ ap (λ l. c.loop-i.out ++ l) (sym (none_left c.args.variables.now c.args.values.now c.loop-i.i few)) ∙ c.loop-i.invariant
