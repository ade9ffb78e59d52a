use Rattle.std.proofs.Common.{[], map, sym, ap, ◌∙◌}
use Rattle.gb_eval.proofs.Environments.{environment_is}
use Rattle.gb_eval.proofs.Stops.{gives_as}
use Rattle.gb_labels.specs.Labelled.{labelled}
use Rattle.gb_labels.proofs.Layers.{unlabelled, unlabelled_all}
use Rattle.gb_smt.specs.Assign.{implied}
use Rattle.gb_smt.proofs.Scripts.{all_operators}
use Rattle.gb_smt.proofs.assign.is_true_under.Goals as goal

pub returns : goal.returns
returns c =
    gives_as (λ b. b) _ _ c.implied.result
    ((λ i. implied (record { operators = sym (all_operators c.script_of.result c.args.scope.now c.script_of.ensures.scope c.script_of.ensures.depth) i; reads = c.args.reads.now; exclusions = sym c.requires i })
    (sym (unlabelled_all c.as_slice.result.now ∙ c.as_slice.ensures) i) (sym (unlabelled c.args.claim.now.conclusion) i))
    ∙ ap (λ e. implied e (map (labelled []) c.as_slice.result.now) (labelled [] c.args.claim.now.conclusion)) (sym (environment_is _)))
    c.implied.ensures
