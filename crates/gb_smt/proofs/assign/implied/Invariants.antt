use Rattle.std.proofs.Common.{◌≡◌, map, drop}
use Rattle.gb_eval.specs.Eval.{environment}
use Rattle.gb_labels.specs.Labelled.{labelled}
use Rattle.gb_smt.specs.Assign.{implied}
use Rattle.gb_smt.proofs.assign.implied.Given as goal

abbrev pub invariant-loop-hyp : goal.invariant-loop-hyp
invariant-loop-hyp l =
    implied (environment l.env) (map (labelled l.env.labels.now) (drop l.hyp-index l.hyps)) (labelled l.env.labels.now l.conclusion)
    ≡ implied (environment l.env) (map (labelled l.env.labels.now) l.hyps) (labelled l.env.labels.now l.conclusion)
