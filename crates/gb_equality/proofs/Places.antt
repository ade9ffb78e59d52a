-- Elements of lists by their places.
use Rattle.std.proofs.Common.{◌≡◌, MatchOption, Option, ℕ, zero, suc, ◌+◌, ◌<◌, ◌≤◌, ◌⊎◌, inl, inr, List, [], ◌∷◌, ◌++◌, map, take, length, get_or, slice_get, Some, None, option_map, refl, sym, ap, ◌∙◌, subst, arith}
use Rattle.std.specs.List.{Contains}
use Rattle.std.proofs.lemmas.Option.{slice_get-map, slice_get-get_or, get_or_from_slice_get}
use Rattle.gb_closing.proofs.Places.{at_found}

pub some_same : {X : Type 0} (a b : X) → Some a ≡ Some b → a ≡ b
some_same a b e = cc

-- where a test finds nothing
pub if_none : {X : Type 0} (o : Option X) (P : Type 0) (Q : X → Type 0) → MatchOption o P Q → ((x : X) → o ≡ Some x → ⊥) → P
if_none None P Q m n = m
if_none (Some x) P Q m n = absurd (n x refl)

-- what a read of a place gives
pub at_place : {X : Type 0} (xs : List X) (i : ℕ) (x : X) → i < length xs → x ≡ get_or xs i x → slice_get xs i ≡ Some x
at_place xs i x l e = slice_get-get_or xs i x l ∙ ap Some (sym e)

pub place_within : {X : Type 0} (xs : List X) (i : ℕ) (x : X) → slice_get xs i ≡ Some x → i < length xs
place_within [] i x e = cc
place_within (y ∷ ys) zero x e = omega arith
place_within (y ∷ ys) (suc i) x e = omega (arith, place_within ys i x e)

pub place_contains : {X : Type 0} (xs : List X) (i : ℕ) (x : X) → slice_get xs i ≡ Some x → Contains xs x
place_contains xs i x e = (i, place_within xs i x e, get_or_from_slice_get xs i x x e)

pub contains_place : {X : Type 0} (xs : List X) (x : X) → Contains xs x → (i : ℕ) × (slice_get xs i ≡ Some x)
contains_place xs x h = (h.0, at_place xs h.0 x h.1 (sym h.2))

pub place_mapped : {X Y : Type 0} (f : X → Y) (xs : List X) (i : ℕ) (x : X) → slice_get xs i ≡ Some x → slice_get (map f xs) i ≡ Some (f x)
place_mapped f xs i x e = slice_get-map f xs i ∙ ap (option_map f) e

-- an element of a list of images is one of an element
pub place_of_image : {X Y : Type 0} (f : X → Y) (xs : List X) (i : ℕ) (y : Y) → slice_get (map f xs) i ≡ Some y → (x : X) × (slice_get xs i ≡ Some x) × (f x ≡ y)
place_of_image f [] i y e = cc
place_of_image f (x ∷ xs) zero y e = (x, refl, some_same (f x) y e)
place_of_image f (x ∷ xs) (suc i) y e = place_of_image f xs i y e

pub place_appended : {X : Type 0} (xs ys : List X) (i : ℕ) (x : X) → slice_get xs i ≡ Some x → slice_get (xs ++ ys) i ≡ Some x
place_appended [] ys i x e = cc
place_appended (y ∷ xs) ys zero x e = e
place_appended (y ∷ xs) ys (suc i) x e = place_appended xs ys i x e

-- the element behind all others
pub place_last : {X : Type 0} (xs : List X) (x : X) → slice_get (xs ++ x ∷ []) (length xs) ≡ Some x
place_last [] x = refl
place_last (y ∷ xs) x = place_last xs x

pub place_pushed : {X : Type 0} (xs : List X) (y : X) (i : ℕ) (x : X) → slice_get (xs ++ y ∷ []) i ≡ Some x → (slice_get xs i ≡ Some x) ⊎ (y ≡ x)
place_pushed [] y zero x e = inr (some_same y x e)
place_pushed [] y (suc i) x e = cc
place_pushed (z ∷ xs) y zero x e = inl e
place_pushed (z ∷ xs) y (suc i) x e = place_pushed xs y i x e

-- the default of an element that isn't there
pub default_read : (read : ℕ → ℕ) → read 0 ≡ 0 → (xs : List ℕ) (i : ℕ) → get_or (map read xs) i 0 ≡ read (get_or xs i 0)
default_read read z [] i = sym z
default_read read z (x ∷ xs) zero = refl
default_read read z (x ∷ xs) (suc i) = default_read read z xs i

-- an element, or the default of a list that ends before it
pub element_or_none : (xs : List ℕ) (i : ℕ) → ((x : ℕ) × (slice_get xs i ≡ Some x) × (get_or xs i 0 ≡ x)) ⊎ (get_or xs i 0 ≡ 0)
element_or_none [] i = inr refl
element_or_none (x ∷ xs) zero = inl (x, refl, refl)
element_or_none (x ∷ xs) (suc i) = element_or_none xs i

front : {X : Type 0} (xs ys : List X) → take (length xs) (xs ++ ys) ≡ xs
front [] ys = refl
front (x ∷ xs) ys = ap (λ l. x ∷ l) (front xs ys)

-- as many elements as a list has, of it and another one behind it
pub taken_front : {X : Type 0} (n : ℕ) (xs ys : List X) → n ≡ length xs → take n (xs ++ ys) ≡ xs
taken_front n xs ys e = ap (λ m. take m (xs ++ ys)) e ∙ front xs ys

-- what a look-up finds

pub mapped_found : (f : ℕ → ℕ) (xs : List ℕ) (i x : ℕ) → slice_get xs i ≡ Some x → f x ≡ get_or (map f xs) i 0
mapped_found f xs i x e = at_found (map f xs) i (f x) (place_mapped f xs i x e)

pub mapped_missing : (f : ℕ → ℕ) (xs : List ℕ) (i : ℕ) → slice_get xs i ≡ None → 0 ≡ get_or (map f xs) i 0
mapped_missing f [] i e = refl
mapped_missing f (x ∷ xs) zero e = cc
mapped_missing f (x ∷ xs) (suc i) e = mapped_missing f xs i e
