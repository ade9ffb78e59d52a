-- Different elements: a list has no more of them than one that contains them all.
use Rattle.std.proofs.Common.{◌≡◌, ◌≢◌, ℕ, zero, suc, ◌+◌, ◌<◌, ◌≤◌, ◌⊎◌, inl, inr, List, [], ◌∷◌, length, get_or, refl, sym, ap, ◌∙◌, arith}
use Rattle.std.specs.List.{AllPairs, Contains, remove}
use Rattle.std.proofs.lemmas.Bool.{cases_order}
use Rattle.std.proofs.lemmas.List.{get_or_default}
use Rattle.std.proofs.lemmas.List.Edits.{length-remove, get_or-remove_below, get_or-remove_above}

module _ {X : Type 0} (ys : List X) (k : ℕ) (l : k < length ys) where
  kept : (j : ℕ) (t : X) → j < length ys → get_or ys j t ≡ t → (j < k) ⊎ (k < j) → Contains (remove ys k) t
  kept j t m e (inl h) = (j, omega (arith, length-remove ys k l), get_or-remove_below ys k t j h l ∙ e)
  kept zero t m e (inr h) = absurd (omega arith)
  kept (suc i) t m e (inr h) =
      let q : i + 1 ≡ suc i = omega arith in
      (i, omega (arith, length-remove ys k l), get_or-remove_above ys k t i (omega arith) l ∙ ap (λ n. get_or ys n t) q ∙ e)

  apart : (j : ℕ) → (j ≡ k → ⊥) → (j ≡ k) ⊎ ((j < k) ⊎ (k < j)) → (j < k) ⊎ (k < j)
  apart j n (inl e) = absurd (n e)
  apart j n (inr h) = h

among_others : {X : Type 0} (ys : List X) (x t : X) → (x ≡ t → ⊥) → (a : Contains ys x) → Contains ys t → Contains (remove ys a.0) t
among_others ys x t n a b =
    let m : b.0 ≡ a.0 → ⊥ = λ q. n (sym a.2 ∙ ap (λ k. get_or ys k x) (sym q) ∙ get_or_default ys b.0 x t b.1 ∙ b.2) in
    kept ys a.0 a.1 b.0 t b.1 b.2 (apart ys a.0 a.1 b.0 m (cases_order b.0 a.0))

pub no_more : {X : Type 0} (xs ys : List X) → AllPairs (λ a b. a ≢ b) xs → ((t : X) → Contains xs t → Contains ys t) → length xs ≤ length ys
no_more [] ys d f = omega arith
no_more (x ∷ xs) ys d f =
    let a : Contains ys x = f x (0, omega arith, refl) in
    let r = no_more xs (remove ys a.0) (λ i j e l m. d (suc i) (suc j) e (omega arith) (omega arith)) (λ t h. among_others ys x t (λ q. d 0 (suc h.0) t (omega arith) (let l : h.0 < length xs = h.1 in omega arith) (q ∙ sym h.2)) a (f t (suc h.0, (let l : h.0 < length xs = h.1 in omega arith), h.2))) in
    omega (arith, r, length-remove ys a.0 a.1)
