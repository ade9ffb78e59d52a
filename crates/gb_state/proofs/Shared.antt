-- A stack that is made anew from below.
use Rattle.std.proofs.Common.{◌≡◌, ℕ, zero, suc, ◌-◌, ◌<◌, ◌≤◌, List, [], ◌∷◌, length, drop, Some, None, ap, sym, ◌∙◌, arith}
use Rattle.std.specs.List.{slice_get}

front_at : {A : Type 0} (xs : List A) (n : ℕ) (x : A) → Some x ≡ slice_get xs n → x ∷ drop (suc n) xs ≡ drop n xs
front_at [] n x e = absurd (cc)
front_at (y ∷ ys) zero x e = cc
front_at (y ∷ ys) (suc n) x e = front_at ys n x e

-- the elements from a place on, with the one before it
pub one_more : {A : Type 0} (xs made next : List A) (at : ℕ) (x copy : A) → 0 < at → made ≡ drop at xs → Some x ≡ slice_get xs (at - 1) → copy ≡ x → next ≡ copy ∷ made
    → next ≡ drop (at - 1) xs
one_more xs made next zero x copy some is here same more = absurd (omega (arith, some))
one_more xs made next (suc n) x copy some is here same more =
    let k : suc n - 1 ≡ n = omega arith in
    more ∙ ap (λ y. y ∷ made) same ∙ ap (λ ys. x ∷ ys) is
    ∙ front_at xs n x (here ∙ ap (slice_get xs) k) ∙ ap (λ m. drop m xs) (sym k)

gap : {A X : Type 0} (xs : List A) (n : ℕ) → n < length xs → None ≡ slice_get xs n → X
gap [] n less e = absurd (omega (arith, less))
gap (x ∷ xs) zero less e = absurd (cc)
gap (x ∷ xs) (suc n) less e = gap xs n (omega (arith, less)) e

-- no place below the end is empty
pub no_gap : {A X : Type 0} (xs : List A) (at : ℕ) → 0 < at → at ≤ length xs → None ≡ slice_get xs (at - 1) → X
no_gap xs zero some within e = absurd (omega (arith, some))
no_gap xs (suc n) some within e =
    let k : suc n - 1 ≡ n = omega arith in gap xs n (omega arith) (e ∙ ap (slice_get xs) k)
