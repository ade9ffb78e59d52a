-- What a loop collects, one place further.
use Rattle.std.proofs.Common.{◌≡◌, ℕ, ◌+◌, ◌<◌, List, [], ◌∷◌, ◌++◌, length, get_or, drop, ap, sym, ◌∙◌}
use Rattle.std.proofs.lemmas.List.{drop_more}
use Rattle.gb_eval.specs.declared.answer.Stop.{Stop}
use Rattle.gb_eval.specs.Findings.{Comes, ◌>>=◌, collected, Stops}
use Rattle.gb_eval.specs.Findings.Comes.{found}
use Rattle.gb_eval.proofs.Stops.{passes, stops_as}

module _ {X A : Type 0} (m : List X → List (Comes A)) (xs : List X) (i : ℕ) (x : X) (y : Comes A) (front : (l : List X) → m (x ∷ l) ≡ y ∷ m l)
    (more : i < length xs) (is : x ≡ get_or xs i x) (out : List A) where
  here : collected out (m (drop i xs)) ≡ (y >>= λ a. collected (out ++ a ∷ []) (m (drop (i + 1) xs)))
  here = ap (λ l. collected out (m l)) (drop_more xs i x more ∙ ap (λ z. z ∷ drop (i + 1) xs) (sym is)) ∙ ap (collected out) (front (drop (i + 1) xs))

  pub one_more : (out' : List A) (a : A) (all : Comes (List A)) → collected out (m (drop i xs)) ≡ all → y ≡ found a → out' ≡ out ++ a ∷ [] → collected out' (m (drop (i + 1) xs)) ≡ all
  one_more out' a all h e p =
      ap (λ o. collected o (m (drop (i + 1) xs))) p
      ∙ sym (ap (λ z. z >>= λ a. collected (out ++ a ∷ []) (m (drop (i + 1) xs))) e)
      ∙ sym here ∙ h

  pub one_stops : (s : Stop) (all : Comes (List A)) → collected out (m (drop i xs)) ≡ all → Stops y s → Stops all s
  one_stops s all h w = stops_as all _ s (sym h ∙ here) (passes y (λ a. collected (out ++ a ∷ []) (m (drop (i + 1) xs))) s w)
