use Rattle.std.proofs.Common.{map, sym, ap, ◌∙◌}
use Rattle.gb_eval.specs.Findings.Comes.{found}
use Rattle.gb_smt.specs.Assign.{environment_of, implied}
use Rattle.gb_smt.proofs.Values.{false_at}
use Rattle.gb_smt.proofs.assign.found_at.Goals as goal

pub returns-in_ok-values-in-Ok-false-clause-found : goal.returns-in_ok-values-in-Ok-false-clause-found
returns-in_ok-values-in-Ok-false-clause-found c =
    false_at c.args.scope.now c.args.claim.now c.args.at c.as_slice.result.now c.assign.new.reads c.in_ok-values-in-Ok-false.values c.as_slice.ensures c.in_ok-assign.ensures.values
    ((λ i. implied (environment_of c.args.scope.now (sym c.as_slice-2.ensures i)) c.args.claim.now.hyps c.args.claim.now.conclusion) ∙ c.in-Ok-false.ensures ∙ ap found c.in-Ok-false.field-0-test)
    (c.in_ok-values-in-Ok-false.ensures ∙ ap (map (λ r. r.value)) c.as_slice-in-Ok-false.ensures)
