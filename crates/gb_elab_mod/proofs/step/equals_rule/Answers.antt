use Rattle.std.proofs.Common.{◌≡◌, ℕ, List, refl, sym, subst}
use Rattle.gb_core.specs.declared.place.Place.{Place}
use Rattle.gb_goal.specs.Answers.{Answers}
use Rattle.gb_goal.specs.Scope.{Declarations}
use Rattle.gb_goal.specs.declared.sequent.Sequent.{Sequent}
use Rattle.gb_script.specs.declared.head.Head.{Head as Kind}
use Rattle.gb_script.specs.declared.head.Head.TheVariants as text
use Rattle.gb_script.specs.declared.tree.Node.{Node}
use Rattle.gb_elab_mod.specs.Steps.{equals_rule, event_rule}
use Rattle.gb_elab_mod.proofs.step.equals_rule.Goals as goal

-- what puts no equals for equals is a law of events, a transformation or a pattern
other : (ds : Declarations) (q : Sequent) (k : Kind) (x : List ℕ) (ps : List Node) (p : Place) → (k ≡ text.RewriteLemma → ⊥) → (k ≡ text.RewriteBack → ⊥) → (k ≡ text.RewriteHypothesis → ⊥) → (k ≡ text.Subst → ⊥) →
    (k ≡ text.RewriteOperator → ⊥) →
    equals_rule ds q k x ps p ≡ event_rule ds q k x ps p
other ds q text.RewriteLemma x ps p a b c d e = absurd (a refl)
other ds q text.RewriteBack x ps p a b c d e = absurd (b refl)
other ds q text.RewriteHypothesis x ps p a b c d e = absurd (c refl)
other ds q text.Subst x ps p a b c d e = absurd (d refl)
other ds q text.RewriteOperator x ps p a b c d e = absurd (e refl)
other ds q _ x ps p a b c d e = refl

pub returns-in_default : goal.returns-in_default
returns-in_default c =
    subst (λ r. Answers r c.event_rule.result)
    (sym (other c.args.scope.now c.args.goal.now c.args.head c.args.text.now c.args.parts.now c.args.place c.in_default.not-RewriteLemma c.in_default.not-RewriteBack c.in_default.not-RewriteHypothesis c.in_default.not-Subst
    c.in_default.not-RewriteOperator)) c.event_rule.ensures
