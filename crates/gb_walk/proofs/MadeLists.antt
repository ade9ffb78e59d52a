-- Lists made in part.
use Rattle.std.proofs.Common.{◌≡◌, ℕ, ◌+◌, ◌-◌, ◌<◌, ◌≤◌, refl, sym, ap, ◌∙◌, List, [], ◌∷◌, ◌++◌, Option, Some, None, unwrap_or, map, take, drop, length, get_or, append_assoc, append-nil, length-append, length-take, length-drop, subst, Result, Ok, Err, IfOk, arith}
use Rattle.std.proofs.lemmas.List.{take_more, take_all, drop_all, drop-append-le, map-append}
use Rattle.gb_walk.specs.Layers.{where_last, seen_by}
use Rattle.gb_walk.specs.Rebuild.{caught_up, with_next}
use Rattle.gb_walk.proofs.Lists.{seen_by_pushed}

module _ {X : Type 0} (xs : List X) (i : ℕ) (x : X) (within : i < length xs) (here : x ≡ get_or xs i x) (out : List X) (behind : length out ≤ i) where
  one_more : take (i + 1) xs ≡ take i xs ++ (x ∷ [])
  one_more = take_more xs i x within ∙ ap (λ v. take i xs ++ (v ∷ [])) (sym here)

  reached : length (caught_up out (take i xs)) ≡ i
  reached = omega (arith, length-append out (drop (length out) (take i xs)), length-drop (length out) (take i xs), length-take i xs)

  -- what is made in the next place
  with_next_made : (made : Option X) → caught_up (with_next out (take i xs) made) (take (i + 1) xs) ≡ caught_up out (take i xs) ++ (unwrap_or made x ∷ [])
  with_next_made None =
      ap (λ l. out ++ drop (length out) l) one_more
      ∙ ap (λ l. out ++ l) (drop-append-le (length out) (take i xs) (x ∷ []) (omega (arith, length-take i xs)))
      ∙ sym (append_assoc out (drop (length out) (take i xs)) (x ∷ []))
  with_next_made (Some t) =
      ap (λ l. (caught_up out (take i xs) ++ (t ∷ [])) ++ l) (drop_all (length (caught_up out (take i xs) ++ (t ∷ []))) (take (i + 1) xs) (omega (arith, length-append (caught_up out (take i xs)) (t ∷ []), reached, length-take (i + 1) xs)))
      ∙ append-nil (caught_up out (take i xs) ++ (t ∷ []))

  with_next_behind : (made : Option X) → length (with_next out (take i xs) made) ≤ i + 1
  with_next_behind None = omega arith
  with_next_behind (Some t) = omega (arith, length-append (caught_up out (take i xs)) (t ∷ []), reached)

-- The lists of a loop: those made so far reach no further than the place, and with the others up to there they are what
-- is to be made.
abbrev pub MadeArgs : {X A : Type 0} → (X → A → X) → A → A → List X → ℕ → List X → Type 0
MadeArgs g y z xs i out = record {
  behind : length out ≤ i;
  made : caught_up out (take i xs) ++ seen_by y z (map g (drop i xs)) ≡ seen_by y z (map g xs);
}

abbrev pub MadeAll : {X A : Type 0} → (X → A → X) → A → List X → ℕ → List X → Type 0
MadeAll g k xs i out = record {
  behind : length out ≤ i;
  made : caught_up out (take i xs) ≡ map (λ x. g x k) (take i xs);
}

module _ {X A : Type 0} (g : X → A → X) (xs : List X) (i : ℕ) (x : X) (within : i < length xs) (here : x ≡ get_or xs i x) (out new : List X) (made : Option X) (put : new ≡ with_next out (take i xs) made) where
  pub args_more : (y z seen : A) → seen ≡ where_last (take (length xs - (i + 1)) (drop (i + 1) xs)) y z → unwrap_or made x ≡ g x seen → MadeArgs g y z xs i out → MadeArgs g y z xs (i + 1) new
  args_more y z seen at is h = record {
    behind = subst (λ l. length l ≤ i + 1) (sym put) (with_next_behind xs i x within here out h.behind made);
    made = seen_by_pushed g y z xs i x within here (caught_up out (take i xs)) (caught_up new (take (i + 1) xs)) _ (unwrap_or made x) seen
        (ap (λ l. caught_up l (take (i + 1) xs)) put ∙ with_next_made xs i x within here out h.behind made) is at h.made;
  }

  pub all_more : (k : A) → unwrap_or made x ≡ g x k → MadeAll g k xs i out → MadeAll g k xs (i + 1) new
  all_more k is h = record {
    behind = subst (λ l. length l ≤ i + 1) (sym put) (with_next_behind xs i x within here out h.behind made);
    made = ap (λ l. caught_up l (take (i + 1) xs)) put
        ∙ with_next_made xs i x within here out h.behind made
        ∙ (λ j. h.made j ++ (is j ∷ []))
        ∙ sym (map-append (λ v. g v k) (take i xs) (x ∷ []))
        ∙ ap (map (λ v. g v k)) (sym (one_more xs i x within here out h.behind));
  }

-- The list is made where the place is at its end.
pub args_done : {X A : Type 0} (g : X → A → X) (y z : A) (xs : List X) (i : ℕ) (out : List X) → MadeArgs g y z xs i out → length xs ≤ i → caught_up out xs ≡ seen_by y z (map g xs)
args_done g y z xs i out h end =
    sym (append-nil (caught_up out xs))
    ∙ (λ j. caught_up out (sym (take_all i xs end) j) ++ seen_by y z (map g (sym (drop_all i xs end) j)))
    ∙ h.made

pub all_done : {X A : Type 0} (g : X → A → X) (k : A) (xs : List X) (i : ℕ) (out : List X) → MadeAll g k xs i out → length xs ≤ i → caught_up out xs ≡ map (λ x. g x k) xs
all_done g k xs i out h end =
    ap (caught_up out) (sym (take_all i xs end)) ∙ h.made ∙ ap (map (λ x. g x k)) (take_all i xs end)

-- what holds of an answer that is known
pub of_answer : {A E : Type 0} (r : Result A E) (x : A) (Q : A → Type 0) → Q x → IfOk r (λ made. made ≡ x) → IfOk r Q
of_answer (Ok y) x Q q e = subst Q (sym e) q
of_answer (Err e) x Q q h = tt
