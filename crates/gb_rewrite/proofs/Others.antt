-- The hypotheses but one, one after another.
use Rattle.std.proofs.Common.{◌≡◌, ℕ, zero, suc, ◌+◌, ◌<◌, List, [], ◌∷◌, ◌++◌, length, get_or, take, map, refl, ap, sym, ◌∙◌, add-one, arith}
use Rattle.std.proofs.Math.Seq.{take-suc}
use Rattle.std.proofs.lemmas.List.{length-take-le, map-append}
use Rattle.gb_goal.specs.declared.sequent.Hyp.{Hyp}
use Rattle.gb_rewrite.specs.Rewriting.{others}

kept_after : (k : ℕ) (xs : List Hyp) (x : Hyp) → (length xs ≡ k → ⊥) → others k (xs ++ x ∷ []) ≡ others k xs ++ x ∷ []
kept_after zero [] x n = absurd (n refl)
kept_after (suc k) [] x n = refl
kept_after zero (y ∷ ys) x n = refl
kept_after (suc k) (y ∷ ys) x n = ap (λ zs. y ∷ zs) (kept_after k ys x (λ e. n (ap suc e)))

dropped_after : (k : ℕ) (xs : List Hyp) (x : Hyp) → length xs ≡ k → others k (xs ++ x ∷ []) ≡ others k xs
dropped_after zero [] x e = refl
dropped_after (suc k) [] x e = absurd (omega (arith, e))
dropped_after zero (y ∷ ys) x e = absurd (omega (arith, e))
dropped_after (suc k) (y ∷ ys) x e = ap (λ zs. y ∷ zs) (dropped_after k ys x (omega (arith, e)))

-- some element, where there is one
element : (xs : List Hyp) (i : ℕ) → i < length xs → Hyp
element [] i k = absurd (omega (arith, k))
element (x ∷ xs) i k = x

-- one place further, with what is made of the others
module _ (f : Hyp → Hyp) (hyps made more : List Hyp) (k i : ℕ) (l : i < length hyps) (was : made ≡ map f (others k (take i hyps))) where
  so_far : length (take i hyps) ≡ i
  so_far = length-take-le i hyps (omega (arith, l))

  further : (d : Hyp) → take (i + 1) hyps ≡ take i hyps ++ get_or hyps i d ∷ []
  further d = ap (λ j. take j hyps) (add-one i) ∙ take-suc hyps i d l

  pub other_rewritten : (x y : Hyp) → x ≡ get_or hyps i x → (i ≡ k → ⊥) → y ≡ f x → more ≡ made ++ y ∷ [] → more ≡ map f (others k (take (i + 1) hyps))
  other_rewritten x y e n p m =
      m ∙ ap (λ z. made ++ z ∷ []) p ∙ ap (λ z. z ++ f x ∷ []) was ∙ sym (map-append f (others k (take i hyps)) (x ∷ []))
      ∙ ap (λ z. map f z)
      (sym (kept_after k (take i hyps) x (λ q. n (sym so_far ∙ q)))
      ∙ ap (λ z. others k z) (ap (λ z. take i hyps ++ z ∷ []) e ∙ sym (further x)))

  pub one_left_out : i ≡ k → more ≡ made → more ≡ map f (others k (take (i + 1) hyps))
  one_left_out n m =
      let d = element hyps i l in
      m ∙ was ∙ ap (λ z. map f z) (sym (dropped_after k (take i hyps) (get_or hyps i d) (so_far ∙ n)) ∙ ap (λ z. others k z) (sym (further d)))
