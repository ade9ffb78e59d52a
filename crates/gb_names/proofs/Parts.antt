-- Lists of so many parts, and what is left of a list.
use Rattle.std.proofs.Common.{◌≡◌, Bool, true, false, ◌||◌, ℕ, zero, suc, ◌+◌, ◌-◌, ◌<◌, ◌≤◌, List, [], ◌∷◌, length, get_or, take, drop, refl, ap, sym, subst, ◌∙◌, arith, add-one, drop-cons, length-drop, take_all}
use Rattle.std.proofs.lemmas.List.{drop_all}
use Rattle.std.specs.List.{list_any}
use denote.Param.Weighed.{most}

module _ {A : Type 0} where
  -- what is left of a list begins with the element at which a loop stands
  pub left : (xs : List A) (i : ℕ) (x : A) → i < length xs → x ≡ get_or xs i x → drop i xs ≡ x ∷ drop (i + 1) xs
  left xs i x h e = rw (drop-cons xs i x, add-one) (rw (← e) refl)

  -- whether one of those from an element on is of a kind
  module _ (p : A → Bool) (xs : List A) (i : ℕ) where
    pub any_here : (x : A) → i < length xs → x ≡ get_or xs i x → p x ≡ true → list_any p (drop i xs) ≡ true
    any_here x h e t = ap (list_any p) (left xs i x h e) ∙ ap (λ b. b || list_any p (drop (i + 1) xs)) t

    pub any_later : (x : A) → i < length xs → x ≡ get_or xs i x → p x ≡ false → list_any p (drop i xs) ≡ list_any p (drop (i + 1) xs)
    any_later x h e t = ap (list_any p) (left xs i x h e) ∙ ap (λ b. b || list_any p (drop (i + 1) xs)) t

    pub any_none : length xs ≤ i → list_any p (drop i xs) ≡ false
    any_none h = ap (list_any p) (drop_all i xs h)

  pub one : (xs : List A) (x : A) → 1 ≤ length xs → length xs < 2 → x ≡ get_or xs 0 x → xs ≡ x ∷ []
  one [] x h k e = absurd (omega (arith, h))
  one (a ∷ []) x h k e = ap (λ z. z ∷ []) (sym e)
  one (a ∷ b ∷ xs) x h k e = absurd (omega (arith, k))

  pub two : (xs : List A) (x y : A) → 2 ≤ length xs → length xs < 3 → x ≡ get_or xs 0 x → y ≡ get_or xs 1 y → xs ≡ x ∷ y ∷ []
  two [] x y h k e f = absurd (omega (arith, h))
  two (a ∷ []) x y h k e f = absurd (omega (arith, h))
  two (a ∷ b ∷ []) x y h k e f = ap (λ z. z ∷ b ∷ []) (sym e) ∙ ap (λ z. x ∷ z ∷ []) (sym f)
  two (a ∷ b ∷ c ∷ xs) x y h k e f = absurd (omega (arith, k))

  pub three : (xs : List A) (x y z : A) → 3 ≤ length xs → length xs < 4 → x ≡ get_or xs 0 x → y ≡ get_or xs 1 y → z ≡ get_or xs 2 z → xs ≡ x ∷ y ∷ z ∷ []
  three [] x y z h k e f g = absurd (omega (arith, h))
  three (a ∷ []) x y z h k e f g = absurd (omega (arith, h))
  three (a ∷ b ∷ []) x y z h k e f g = absurd (omega (arith, h))
  three (a ∷ b ∷ c ∷ []) x y z h k e f g = ap (λ v. v ∷ b ∷ c ∷ []) (sym e) ∙ (ap (λ v. x ∷ v ∷ c ∷ []) (sym f) ∙ ap (λ v. x ∷ y ∷ v ∷ []) (sym g))
  three (a ∷ b ∷ c ∷ d ∷ xs) x y z h k e f g = absurd (omega (arith, k))

  pub four : (xs : List A) (x y z u : A) → 4 ≤ length xs → length xs < 5 → x ≡ get_or xs 0 x → y ≡ get_or xs 1 y → z ≡ get_or xs 2 z → u ≡ get_or xs 3 u → xs ≡ x ∷ y ∷ z ∷ u ∷ []
  four [] x y z u h k e f g i = absurd (omega (arith, h))
  four (a ∷ xs) x y z u h k e f g i = ap (λ v. v ∷ xs) (sym e) ∙ ap (λ vs. x ∷ vs) (three xs y z u (omega (arith, h)) (omega (arith, k)) f g i)

-- what is left of a list is no deeper
pub left_most : {A : Type 0} (size : A → ℕ) (n : ℕ) (xs : List A) → most size (drop n xs) ≤ most size xs
left_most size zero xs = omega arith
left_most size (suc n) [] = omega arith
left_most size (suc n) (x ∷ xs) = let h : most size (drop n xs) ≤ most size xs = left_most size n xs in omega arith

-- a list behind its first
abbrev pub rest : {A : Type 0} → List A → List A
rest xs = take (length xs - 1) (drop 1 xs)

pub rest_is : {A : Type 0} (xs : List A) → rest xs ≡ drop 1 xs
rest_is xs = take_all (length xs - 1) (drop 1 xs) (omega (arith, length-drop 1 xs))

pub rest_most : {A : Type 0} (size : A → ℕ) (xs : List A) → most size (rest xs) ≤ most size xs
rest_most size xs = subst (λ ys. most size ys ≤ most size xs) (sym (rest_is xs)) (left_most size 1 xs)
