-- Loops over lists, one place further.
use Rattle.std.proofs.Common.{◌≡◌, ℕ, ◌+◌, ◌<◌, ◌≤◌, Bool, true, false, ◌||◌, List, [], ◌∷◌, ◌++◌, length, get_or, map, take, drop, ap, sym, ◌∙◌}
use Rattle.std.specs.List.{list_any}
use Rattle.std.proofs.lemmas.List.{drop_all, drop_more, map_more, take_all}

module _ {A B : Type 0} (f : A → B) (xs : List A) (i : ℕ) where
  pub mapped : (x : A) (made made' : List B) (y : B) → i < length xs → x ≡ get_or xs i x → made ≡ map f (take i xs) → y ≡ f x → made' ≡ made ++ y ∷ [] →
      made' ≡ map f (take (i + 1) xs)
  mapped x made made' y more is m e p = p ∙ (λ j. m j ++ e j ∷ []) ∙ ap (λ z. map f (take i xs) ++ f z ∷ []) is ∙ sym (map_more f xs i x more)

  pub all_mapped : (made : List B) → length xs ≤ i → made ≡ map f (take i xs) → made ≡ map f xs
  all_mapped made end m = m ∙ ap (map f) (take_all i xs end)

module _ {A : Type 0} (f : A → Bool) (xs : List A) (i : ℕ) (so_far : list_any f (drop i xs) ≡ list_any f xs) where
  at_any : (x : A) (b : Bool) → i < length xs → x ≡ get_or xs i x → f x ≡ b → (b || list_any f (drop (i + 1) xs)) ≡ list_any f xs
  at_any x b more is e =
      ap (λ b. b || list_any f (drop (i + 1) xs)) (sym e) ∙ ap (list_any f) (ap (λ z. z ∷ drop (i + 1) xs) is ∙ sym (drop_more xs i x more)) ∙ so_far

  pub any_later : (x : A) → i < length xs → x ≡ get_or xs i x → f x ≡ false → list_any f (drop (i + 1) xs) ≡ list_any f xs
  any_later x more is e = at_any x false more is e

  pub any_here : (x : A) → i < length xs → x ≡ get_or xs i x → f x ≡ true → true ≡ list_any f xs
  any_here x more is e = at_any x true more is e

  pub any_nowhere : length xs ≤ i → false ≡ list_any f xs
  any_nowhere end = ap (list_any f) (sym (drop_all i xs end)) ∙ so_far

module _ {A : Type 0} (f : A → Bool) (xs : List A) (i : ℕ) (so_far : list_any (λ b. b) (map f (drop i xs)) ≡ list_any (λ b. b) (map f xs)) where
  at_this : (x : A) (b : Bool) → i < length xs → x ≡ get_or xs i x → f x ≡ b → (b || list_any (λ b. b) (map f (drop (i + 1) xs))) ≡ list_any (λ b. b) (map f xs)
  at_this x b more is e =
      ap (λ b. b || list_any (λ b. b) (map f (drop (i + 1) xs))) (sym e)
      ∙ ap (λ l. list_any (λ b. b) (map f l)) (ap (λ z. z ∷ drop (i + 1) xs) is ∙ sym (drop_more xs i x more))
      ∙ so_far

  pub none_yet : (x : A) → i < length xs → x ≡ get_or xs i x → f x ≡ false → list_any (λ b. b) (map f (drop (i + 1) xs)) ≡ list_any (λ b. b) (map f xs)
  none_yet x more is e = at_this x false more is e

  pub one_is : (x : A) → i < length xs → x ≡ get_or xs i x → f x ≡ true → true ≡ list_any (λ b. b) (map f xs)
  one_is x more is e = at_this x true more is e

  pub none_is : length xs ≤ i → false ≡ list_any (λ b. b) (map f xs)
  none_is end = ap (λ l. list_any (λ b. b) (map f l)) (sym (drop_all i xs end)) ∙ so_far
