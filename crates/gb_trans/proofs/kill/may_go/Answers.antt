-- A statement that may go writes nothing of what is read behind it, and loses no weight.
use Rattle.std.proofs.Common.{◌≡◌, [], ◌∷◌, subst, sym, ap, ◌∙◌}
use Rattle.std.specs.Prelude.{Result}
use Rattle.gb_core.specs.declared.refusal.Refused.{Refused}
use Rattle.gb_goal.specs.Answers.{Answer, ◌>>=◌, Answers}
use Rattle.gb_goal.specs.Answers.Answer.{given}
use Rattle.gb_mods.specs.Exclusions.{exclusions}
use Rattle.gb_full.specs.Loss.{first_loss}
use Rattle.gb_full.specs.Lossless.{full}
use Rattle.gb_prog.specs.OneBody.{one_seen}
use Rattle.gb_trans.specs.Effects.{effects_of}
use Rattle.gb_trans.specs.Places.{placed_seen}
use Rattle.gb_trans.specs.Kill.{read_behind, unread}
use Rattle.gb_trans.proofs.kill.may_go.Goals as goal

leads : (a x : Answer (Unit {0})) (r : Result (Unit {0}) Refused) → a ≡ given tt → Answers x r → Answers (a >>= λ _. x) r
leads a x r e h = subst (λ (z : Answer (Unit {0})). Answers (z >>= λ _. x) r) (sym e) h

pub returns : goal.returns
returns c =
    let ds = c.args.scope.now in
    let o = one_seen c.args.one.now in
    let k = placed_seen c.args.at.now in
    let alone : c.from_ref-alone.result.now ≡ k.statement ∷ [] = c.from_ref-alone.ensures.value in
    leads (unread (exclusions ds) (read_behind ds k.rest o.side o.post) (effects_of ds (k.statement ∷ []))) (full (first_loss ds (k.statement ∷ []))) c.full.result
    (ap (λ is. unread (exclusions ds) (read_behind ds k.rest o.side o.post) (effects_of ds is)) (sym alone) ∙ c.in_ok-check_behind.ensures)
    (subst (λ l. Answers (full l) c.full.result) (c.in_ok-lost.ensures ∙ ap (first_loss ds) alone) c.full.ensures)
