use Rattle.std.proofs.Common.{refl, sym, ◌∙◌, ap}
use Rattle.gb_goal.specs.Goal.Code.{body}
use Rattle.gb_goal.specs.Goal.Goal.{equiv}
use Rattle.gb_goal.specs.Views.{code_seen, goal_seen}
use Rattle.gb_sim.proofs.Returned.{returned}
use Rattle.gb_sim.proofs.sim.apply.Goals as goal

pub returns-in-Equiv-Body-Body-default-default : goal.returns-in-Equiv-Body-Body-default-default
returns-in-Equiv-Body-Body-default-default c =
    let at = c.in-Equiv-Body-Body-default-default in
    returned c.args.scope.now c.args.place c.args.goal.now at.left.now at.right.now at.pre.now at.post.now
    (sym (ap (λ b. equiv (body at.left.now) (code_seen b) at.pre.now at.post.now) at.field-1-is)
    ∙ (sym (ap (λ a. equiv (code_seen a) (code_seen at.field-1) at.pre.now at.post.now) at.field-0-is) ∙ (sym (ap goal_seen at.is) ∙ c.goal_of.ensures)))
    (c.if-same_instrs.ensures.0 refl)
    c.placed.result (c.placed.ensures _ c.on_statements.ensures)
