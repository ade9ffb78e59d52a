-- What statements are, from their heads and parts.
use Rattle.std.proofs.Common.{◌≡◌, List, [], ◌∷◌, map, refl, ap, sym, ◌∙◌}
use Rattle.gb_core.specs.declared.place.Place.{Place}
use Rattle.gb_core.specs.declared.refusal.Why.TheVariants.{Syntax}
use Rattle.gb_script.specs.declared.tree.Node.{Node, out-Node, roll-out-Node, para-roll-Node}
use Rattle.gb_script.specs.Tree.{head_of, parts_of, place_of}
use Rattle.gb_script.specs.declared.head.Head.{Head}
use Rattle.gb_script.specs.declared.head.Head.TheVariants as head
use Rattle.gb_goal.specs.Answers.Answer.{refused}
use Rattle.gb_names.specs.Environment.{Environment}
use Rattle.gb_elab_stmt.specs.Statements.{Stating, branching, counting, instruction, places, single, stated, stating, with_places, with_statings}

pub stated_is : (t : Node) (at : Environment) → stated t at ≡ stating (head_of t) (with_statings (parts_of t)) (place_of t) at
unfolding stated
stated_is t at = ap (λ y. stated y at) (sym (roll-out-Node t)) ∙ ap (λ f. f at) (para-roll-Node Stating (λ l. stating l.head l.parts l.place) (out-Node t))

pub places_is : (t : Node) → places t ≡ counting (head_of t) (with_places (parts_of t)) (place_of t)
unfolding places
places_is t = ap places (sym (roll-out-Node t)) ∙ para-roll-Node (List Place) (λ l. counting l.head l.parts l.place) (out-Node t)

-- the nodes of parts with what is said of them
pub bare_is : (ts : List Node) → map (λ (s : Node × Stating). s.0) (with_statings ts) ≡ ts
bare_is [] = refl
bare_is (t ∷ ts) = ap (λ us. t ∷ us) (bare_is ts)

-- a branch, by what stands behind its test
pub branching_is : (e : Node × Stating) (ss : List (Node × Stating)) (p : Place) (at : Environment) → stating head.If (e ∷ ss) p at ≡ branching at e.0 ss p
branching_is e [] p at = refl
branching_is e (a ∷ []) p at = refl
branching_is e (a ∷ b ∷ []) p at = refl
branching_is e (a ∷ b ∷ c ∷ ss) p at = refl

-- a statement without others in it
pub single_is : (h : Head) (ts : List Node) (p : Place) (at : Environment) →
    (h ≡ head.If → ⊥) → (h ≡ head.While → ⊥) → (h ≡ head.Loop → ⊥) → (h ≡ head.NamedLoop → ⊥) → (h ≡ head.List → ⊥) → stating h (with_statings ts) p at ≡ single at h ts p
single_is h ts p at a b c d e = by_head h (with_statings ts) a b c d e ∙ ap (λ us. single at h us p) (bare_is ts)
  where
    by_head : (k : Head) (ss : List (Node × Stating)) → (k ≡ head.If → ⊥) → (k ≡ head.While → ⊥) → (k ≡ head.Loop → ⊥) → (k ≡ head.NamedLoop → ⊥) → (k ≡ head.List → ⊥)
        → stating k ss p at ≡ single at k (map (λ s. s.0) ss) p
    by_head head.If ss a b c d e = absurd (a refl)
    by_head head.While ss a b c d e = absurd (b refl)
    by_head head.Loop ss a b c d e = absurd (c refl)
    by_head head.NamedLoop ss a b c d e = absurd (d refl)
    by_head head.List ss a b c d e = absurd (e refl)
    by_head _ ss a b c d e = refl

pub counting_is : (h : Head) (ps : List (Node × List Place)) (p : Place) →
    (h ≡ head.If → ⊥) → (h ≡ head.While → ⊥) → (h ≡ head.Loop → ⊥) → (h ≡ head.NamedLoop → ⊥) → (h ≡ head.List → ⊥) → counting h ps p ≡ p ∷ []
counting_is head.If ps p a b c d e = absurd (a refl)
counting_is head.While ps p a b c d e = absurd (b refl)
counting_is head.Loop ps p a b c d e = absurd (c refl)
counting_is head.NamedLoop ps p a b c d e = absurd (d refl)
counting_is head.List ps p a b c d e = absurd (e refl)
counting_is _ ps p a b c d e = refl

-- what isn't built
pub unbuilt : (at : Environment) (h : Head) (x : Node) (ps : List Node) (p : Place) → (h ≡ head.Sample → ⊥) → (h ≡ head.Assign → ⊥) → (h ≡ head.Store → ⊥) → (h ≡ head.AssignCall → ⊥)
    → (h ≡ head.Call → ⊥) → (h ≡ head.FunctorCall → ⊥) → (h ≡ head.TupleStatement → ⊥) → instruction at h x ps p ≡ refused Syntax p
unbuilt at head.Sample x ps p a b c d e f g = absurd (a refl)
unbuilt at head.Assign x ps p a b c d e f g = absurd (b refl)
unbuilt at head.Store x ps p a b c d e f g = absurd (c refl)
unbuilt at head.AssignCall x ps p a b c d e f g = absurd (d refl)
unbuilt at head.Call x ps p a b c d e f g = absurd (e refl)
unbuilt at head.FunctorCall x ps p a b c d e f g = absurd (f refl)
unbuilt at head.TupleStatement x ps p a b c d e f g = absurd (g refl)
unbuilt at _ x ps p a b c d e f g = refl
