use Rattle.std.proofs.Common.{◌≡◌, ℕ, List, refl, sym, subst}
use Rattle.gb_core.specs.declared.place.Place.{Place}
use Rattle.gb_goal.specs.Answers.{Answers}
use Rattle.gb_script.specs.declared.head.Head.{Head as Kind}
use Rattle.gb_script.specs.declared.head.Head.TheVariants as text
use Rattle.gb_script.specs.declared.tree.Node.{Node}
use Rattle.gb_elab_mod.specs.Steps.{pattern, transforming_rule}
use Rattle.gb_elab_mod.proofs.step.transforming_rule.Goals as goal

-- what puts no other statements into a program is a pattern
other : (k : Kind) (x : List ℕ) (ps : List Node) (p : Place) → (k ≡ text.Swap → ⊥) → (k ≡ text.PositionStep → ⊥) → transforming_rule k x ps p ≡ pattern k x ps p
other text.Swap x ps p a b = absurd (a refl)
other text.PositionStep x ps p a b = absurd (b refl)
other _ x ps p a b = refl

pub returns-in_default : goal.returns-in_default
returns-in_default c =
    subst (λ r. Answers r c.pattern.result) (sym (other c.args.head c.args.text.now c.args.parts.now c.args.place c.in_default.not-Swap c.in_default.not-PositionStep)) c.pattern.ensures
