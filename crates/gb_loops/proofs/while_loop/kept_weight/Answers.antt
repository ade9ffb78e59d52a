-- A turn may lose weight where its body may.
use Rattle.std.proofs.Common.{rules, ◌≡◌, Bool, true, ap, sym, subst, ◌∙◌}
use Rattle.std.specs.Prelude.{Result}
use Rattle.gb_core.specs.declared.refusal.Refused.{Refused}
use Rattle.gb_goal.specs.Answers.{Answers}
use Rattle.gb_goal.specs.Scope.{Declarations}
use Rattle.gb_full.specs.Loss.{Loss, first_loss, loss_seen}
use Rattle.gb_full.specs.Lossless.{full}
use Rattle.gb_loops.specs.LastLoop.{LastLoop, loop_seen}
use Rattle.gb_loops.specs.While.{kept_weight}
use Rattle.gb_loops.proofs.while_loop.kept_weight.Goals as goal

where_asked : (ds : Declarations) (b : Bool) (k : LastLoop) (l : Loss) (r : Result (Unit {0}) Refused) → b ≡ true → l ≡ first_loss ds k.body.list → Answers (full l) r → Answers (kept_weight ds b k) r
where_asked ds b k l r e h a = subst (λ z. Answers (kept_weight ds z k) r) (sym e) (subst (λ z. Answers (full z) r) h a)

pub returns-in_ok-lost : goal.returns-in_ok-lost
returns-in_ok-lost c =
    where_asked c.args.scope.now c.args.lossless (loop_seen c.args.turned.now.last) (loss_seen c.in_ok-lost.lost) c.full.result (search rules) (c.in_ok-lost.ensures ∙ ap (first_loss c.args.scope.now) c.as_slice.ensures) c.full.ensures
