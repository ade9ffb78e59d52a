use Rattle.std.proofs.Common.{sym, ap, ◌∙◌, List, ◌∷◌}
use Rattle.gb_limits.specs.declared.level.Level.{Level}
use Rattle.gb_limits.specs.declared.level.Opening.TheVariants.{Bracket}
use Rattle.gb_limits.specs.Level.{fresh}
use Rattle.gb_limits.specs.Limits.{Walk}
use Rattle.gb_limits.proofs.Nesting.{walked-start}
use Rattle.gb_limits.proofs.limits.start.Goals as goal

pub returns : goal.returns
returns c =
    c.in_ok-push.ensures.ok
    ∙ (ap (λ (l : Level). l ∷ c.new-levels.result) c.fresh.ensures
    ∙ (ap (λ (ls : List Level). fresh Bracket ∷ ls) c.new-levels.ensures ∙ ap (λ (w : Walk). w.levels) (sym (walked-start c.args.text.now c.args.steps.now))))
