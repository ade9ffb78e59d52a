use Rattle.std.proofs.Common.{ap, sym, ◌∙◌, subst}
use Rattle.gb_terms.specs.declared.op.Side.TheVariants.{Own}
use Rattle.gb_walk.specs.Clash.{first_clash}
use Rattle.gb_goal.specs.Answers.{Answers}
use Rattle.gb_goal.specs.Rows.{each_concluding}
use Rattle.gb_typing.specs.Samplings.{sampling_of, last_sampling}
use Rattle.gb_full.specs.Loss.{loss_seen}
use Rattle.gb_pr.specs.Rnd.{without_sampling}
use Rattle.gb_pr.proofs.RndSteps.{without_clash, none_copied}
use Rattle.gb_pr.proofs.rnd.by_end.Goals as goal

pub returns : goal.returns
returns c =
    let judged = c.args.judged.now in
    let x = sampling_of c.in-Some.sampling in
    let clear = none_copied c.first_clash.result (sym c.is_some.ensures ∙ c.if-is_some.false) ∙ c.first_clash.ensures ∙ ap (λ es. first_clash es Own x.target judged.post.now) (c.as_slice.ensures ∙ c.in_ok-excluded.ensures) in
    let e = without_clash c.args.scope.now judged.rel judged.pre.now judged.post.now judged.bound.now x (last_sampling c.args.body.now) (loss_seen c.in_ok-lost.lost) c.in-Some.ensures c.in_ok-lost.ensures clear in
    subst (λ a. Answers (each_concluding c.args.goal.now a) c.of_rest.result) e
    (c.of_rest.ensures (without_sampling x judged.rel judged.pre.now judged.post.now judged.bound.now) c.in_ok-conclusion.ensures)
