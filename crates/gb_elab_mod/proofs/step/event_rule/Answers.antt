use Rattle.std.proofs.Common.{◌≡◌, ℕ, List, refl, sym, subst}
use Rattle.gb_core.specs.declared.place.Place.{Place}
use Rattle.gb_goal.specs.Answers.{Answers}
use Rattle.gb_goal.specs.Scope.{Declarations}
use Rattle.gb_goal.specs.declared.sequent.Sequent.{Sequent}
use Rattle.gb_script.specs.declared.head.Head.{Head as Kind}
use Rattle.gb_script.specs.declared.head.Head.TheVariants as text
use Rattle.gb_script.specs.declared.tree.Node.{Node}
use Rattle.gb_elab_mod.specs.Steps.{event_rule, transforming_rule}
use Rattle.gb_elab_mod.proofs.step.event_rule.Goals as goal

-- what is no law of events is a transformation or a pattern
other : (ds : Declarations) (q : Sequent) (k : Kind) (x : List ℕ) (ps : List Node) (p : Place) → (k ≡ text.RewriteLaw → ⊥) → (k ≡ text.RewriteSplit → ⊥) → event_rule ds q k x ps p ≡ transforming_rule k x ps p
other ds q text.RewriteLaw x ps p a b = absurd (a refl)
other ds q text.RewriteSplit x ps p a b = absurd (b refl)
other ds q _ x ps p a b = refl

pub returns-in_default : goal.returns-in_default
returns-in_default c =
    let k = c.in_default in
    let is = other c.args.scope.now c.args.goal.now c.args.head c.args.text.now c.args.parts.now c.args.place k.not-RewriteLaw k.not-RewriteSplit in
    subst (λ r. Answers r c.transforming_rule.result) (sym is) c.transforming_rule.ensures
