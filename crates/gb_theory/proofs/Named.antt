-- The names that patterns add, by their heads and parts.
use Rattle.std.proofs.Common.{◌≡◌, ℕ, ◌+◌, ◌++◌, List, [], ◌∷◌, drop, map, refl, ap, ◌∙◌}
use Rattle.gb_core.specs.declared.place.Place.{Place}
use Rattle.gb_core.specs.declared.refusal.Refused.{Refused}
use Rattle.gb_goal.specs.Answers.{◌>>=◌, Fails}
use Rattle.gb_goal.specs.Answers.Answer.{given}
use Rattle.gb_goal.specs.Scope.{Declarations}
use Rattle.gb_goal.specs.declared.sequent.Sequent.{Sequent}
use Rattle.gb_script.specs.declared.head.Head.{Head}
use Rattle.gb_script.specs.declared.head.Head.TheVariants as head
use Rattle.gb_script.specs.declared.tree.Node.{Node}
use Rattle.gb_script.specs.Tree.{head_of, text_of, parts_of, place_of}
use Rattle.gb_names.proofs.Answers.{fails_as, leads_on, passes}
use Rattle.gb_names.proofs.Nodes.{said_is}
use Rattle.gb_theory.specs.Patterns.{added, added_by, all_added, all_new}
use Rattle.gb_theory.specs.Tactics.{each_adds, with_added}

module _ (ds : Declarations) (q : Sequent) where
  pub added_is : (t : Node) (used : List (List ℕ)) → added ds q t used ≡ added_by ds q (head_of t) (text_of t) (with_added ds q (parts_of t)) (place_of t) used
  unfolding added
  added_is t used = ap (λ n. n used) (said_is (added_by ds q) t)

  pub each_is : (ts : List Node) → map (added ds q) ts ≡ each_adds ds q ts
  each_is [] = refl
  each_is (t ∷ ts) = ap (λ ns. added ds q t ∷ ns) (each_is ts)

  pub plain_is : (h : Head) (x : List ℕ) (ts : List Node) (place : Place) (used : List (List ℕ)) → (h ≡ head.Name → ⊥) → (h ≡ head.EitherPattern → ⊥) →
      added_by ds q h x (with_added ds q ts) place used ≡ all_added (each_adds ds q ts) used []
  plain_is head.Name x ts place used n e = absurd (n refl)
  plain_is head.EitherPattern x ts place used n e = absurd (e refl)
  plain_is _ x ts place used n e = refl

  pub all_is : (ts : List Node) → all_new ds q ts ≡ (all_added (each_adds ds q ts) [] [] >>= λ _. given tt)
  all_is ts = ap (λ ns. all_added ns [] [] >>= λ (_ : List (List ℕ)). given tt) (each_is ts)

  -- the next pattern
  module _ (ts : List Node) (i : ℕ) (t : Node) (here : drop i ts ≡ t ∷ drop (i + 1) ts) (used names : List (List ℕ)) where
    pub next_added : (more : List (List ℕ)) → added ds q t (used ++ names) ≡ given more →
        all_added (each_adds ds q (drop i ts)) used names ≡ all_added (each_adds ds q (drop (i + 1) ts)) used (names ++ more)
    next_added more e =
        ap (λ us. all_added (each_adds ds q us) used names) here
        ∙ leads_on (added ds q t (used ++ names)) (λ (xs : List (List ℕ)). all_added (each_adds ds q (drop (i + 1) ts)) used (names ++ xs)) more e

    pub next_is_refused : (e : Refused) → Fails (added ds q t (used ++ names)) e → Fails (all_added (each_adds ds q (drop i ts)) used names) e
    next_is_refused e h =
        fails_as _ _ e (ap (λ us. all_added (each_adds ds q us) used names) here)
        (passes (added ds q t (used ++ names)) (λ (xs : List (List ℕ)). all_added (each_adds ds q (drop (i + 1) ts)) used (names ++ xs)) e h)
