use Rattle.std.proofs.Common.{◌≡◌, ℕ, List, [], ◌∷◌, refl, sym, subst}
use Rattle.gb_core.specs.declared.place.Place.{Place}
use Rattle.gb_goal.specs.Answers.{Answers}
use Rattle.gb_goal.specs.Scope.{Declarations}
use Rattle.gb_goal.specs.declared.sequent.Sequent.{Sequent}
use Rattle.gb_script.specs.declared.head.Head.{Head as Kind}
use Rattle.gb_script.specs.declared.head.Head.TheVariants as text
use Rattle.gb_script.specs.declared.tree.Node.{Node}
use Rattle.gb_names.proofs.Parts.{two}
use Rattle.gb_elab_mod.specs.Steps.{equals_rule, used_rule}
use Rattle.gb_elab_mod.proofs.step.used_rule.Goals as goal

-- what neither applies nor keeps what is known puts equals for equals, or is a pattern
other : (ds : Declarations) (q : Sequent) (k : Kind) (x : List ℕ) (ps : List Node) (p : Place) → (k ≡ text.ApplyLemma → ⊥) → (k ≡ text.HaveLemma → ⊥) → used_rule ds q k x ps p ≡ equals_rule ds q k x ps p
other ds q text.ApplyLemma x ps p a h = absurd (a refl)
other ds q text.HaveLemma x ps p a h = absurd (h refl)
other ds q _ x ps p a h = refl

pub returns-in-len2 : goal.returns-in-len2
returns-in-len2 c =
    let e = two c.args.parts.now c.name-item.result c.lemma-item-then-parts-lt3.result c.in-len2.len_at_least c.in-len2.len_below c.name-item.is c.lemma-item-then-parts-lt3.is in
    let is : used_rule c.args.scope.now c.args.goal.now c.args.head c.args.text.now c.args.parts.now c.args.place
    ≡ used_rule c.args.scope.now c.args.goal.now text.HaveLemma c.args.text.now (c.name-item.result ∷ c.lemma-item-then-parts-lt3.result ∷ []) c.args.place =
    λ i. used_rule c.args.scope.now c.args.goal.now (c.in-HaveLemma.is i) c.args.text.now (e i) c.args.place in
    subst (λ r. Answers r c.keep_rule.result) (sym is) c.keep_rule.ensures

pub returns-in_default : goal.returns-in_default
returns-in_default c =
    subst (λ r. Answers r c.equals_rule.result)
    (sym (other c.args.scope.now c.args.goal.now c.args.head c.args.text.now c.args.parts.now c.args.place c.in_default.not-ApplyLemma c.in_default.not-HaveLemma)) c.equals_rule.ensures
