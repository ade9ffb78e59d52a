-- Elements of lists by their places.
use Rattle.std.proofs.Common.{◌≡◌, ℕ, zero, suc, ◌+◌, ◌<◌, List, [], ◌∷◌, ◌++◌, map, take, length, get_or, slice_get, Some, None, refl, sym, ap, ◌∙◌, arith}
use Rattle.std.proofs.lemmas.Option.{get_or_from_slice_get}
use Rattle.std.proofs.lemmas.List.{map-append, length-map, take_more}

-- what a look-up finds

pub at_found : (xs : List ℕ) (i x : ℕ) → slice_get xs i ≡ Some x → x ≡ get_or xs i 0
at_found xs i x e = sym (get_or_from_slice_get xs i x 0 e)

pub at_missing : (xs : List ℕ) (i : ℕ) → slice_get xs i ≡ None → 0 ≡ get_or xs i 0
at_missing [] i e = refl
at_missing (x ∷ xs) zero e = cc
at_missing (x ∷ xs) (suc i) e = at_missing xs i e

-- images of longer and longer fronts

pub mapped_more : (f : ℕ → ℕ) (xs ys : List ℕ) (i : ℕ) → i < length xs → i < length ys → map f (take i xs) ≡ map f (take i ys) → f (get_or xs i 0) ≡ f (get_or ys i 0) →
    map f (take (i + 1) xs) ≡ map f (take (i + 1) ys)
mapped_more f xs ys i l m h e =
    ap (map f) (take_more xs i 0 l) ∙ map-append f (take i xs) (get_or xs i 0 ∷ []) ∙ ap (λ zs. zs ++ f (get_or xs i 0) ∷ []) h ∙ ap (λ z. map f (take i ys) ++ z ∷ []) e
    ∙ sym (map-append f (take i ys) (get_or ys i 0 ∷ [])) ∙ sym (ap (map f) (take_more ys i 0 m))

-- where one image differs, the lists of images do
pub mapped_same : (f : ℕ → ℕ) (xs ys : List ℕ) (i : ℕ) → i < length xs → i < length ys → map f xs ≡ map f ys → f (get_or xs i 0) ≡ f (get_or ys i 0)
mapped_same f [] ys i l m e = absurd (omega (arith, l))
mapped_same f (x ∷ xs) [] i l m e = absurd (omega (arith, m))
mapped_same f (x ∷ xs) (y ∷ ys) zero l m e = cc
mapped_same f (x ∷ xs) (y ∷ ys) (suc i) l m e = let q : map f xs ≡ map f ys = cc in mapped_same f xs ys i (omega (arith, l)) (omega (arith, m)) q

pub mapped_length : (f : ℕ → ℕ) (xs ys : List ℕ) → map f xs ≡ map f ys → length xs ≡ length ys
mapped_length f xs ys e = sym (length-map xs f) ∙ ap length e ∙ length-map ys f
