use Rattle.std.proofs.Common.{ap, ◌∙◌}
use Rattle.gb_goal.specs.Goal.{code_of, form_of}
use Rattle.gb_goal.specs.Goal.Goal.{ambient}
use Rattle.gb_prog.specs.Likely.{as_likely}
use Rattle.gb_terms.specs.declared.op.Side.TheVariants.{Own}
use Rattle.gb_typing.specs.Forms.{every}
use Rattle.gb_bodies.specs.Conseq.{leads}
use Rattle.gb_bodies.proofs.ConseqSteps.{chance_goals}
use Rattle.gb_bodies.proofs.conseq.of_chance.Goals as goal

pub returns : goal.returns
returns c =
    let o = c.args.old.now in
    let p = o.pre.now in
    let s = o.post.now in
    chance_goals c.args.goal.now c.args.new.now (code_of c.args.subject.now) o.rel p s o.bound.now
    c.in_ok-goals.goals c.in_ok-rest.rest c.append.new.self c.in_ok-first.first c.in_ok-second.second c.in_ok-last.last
    c.in_ok-goals.ensures c.in_ok-rest.ensures
    (c.in_ok-first.ensures ∙ ap (λ f. form_of (leads p f)) c.or_old.ensures)
    (c.in_ok-second.ensures ∙ ap (λ f. form_of (ambient (every Own (as_likely o.rel s f)))) c.or_old-2.ensures)
    c.in_ok-last.ensures c.in_ok-append.ensures
