use Rattle.std.proofs.Common.{◌≡◌, ℕ, List, refl, sym, subst}
use Rattle.gb_core.specs.declared.place.Place.{Place}
use Rattle.gb_goal.specs.Answers.{Answers}
use Rattle.gb_goal.specs.Scope.{Declarations}
use Rattle.gb_goal.specs.declared.sequent.Sequent.{Sequent}
use Rattle.gb_script.specs.declared.head.Head.{Head as Kind}
use Rattle.gb_script.specs.declared.head.Head.TheVariants as text
use Rattle.gb_script.specs.declared.tree.Node.{Node}
use Rattle.gb_elab_mod.specs.Steps.{looping_rule, used_rule}
use Rattle.gb_elab_mod.proofs.step.looping_rule.Goals as goal

-- other steps use what is known, or are patterns
other : (ds : Declarations) (q : Sequent) (k : Kind) (x : List ℕ) (ps : List Node) (p : Place) → (k ≡ text.WhileStep → ⊥) → (k ≡ text.Inline → ⊥) → (k ≡ text.ByStep → ⊥) → looping_rule ds q k x ps p ≡ used_rule ds q k x ps p
other ds q text.WhileStep x ps p a b c = absurd (a refl)
other ds q text.Inline x ps p a b c = absurd (b refl)
other ds q text.ByStep x ps p a b c = absurd (c refl)
other ds q _ x ps p a b c = refl

pub returns-in_default : goal.returns-in_default
returns-in_default c =
    let k = c.in_default in
    let is = other c.args.scope.now c.args.goal.now c.args.head c.args.text.now c.args.parts.now c.args.place k.not-WhileStep k.not-Inline k.not-ByStep in
    subst (λ r. Answers r c.used_rule.result) (sym is) c.used_rule.ensures
