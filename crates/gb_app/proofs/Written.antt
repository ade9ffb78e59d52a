-- Lines that are written one behind the other.
use Rattle.std.proofs.Common.{◌≡◌, ℕ, zero, suc, ◌<◌, List, [], ◌∷◌, ◌++◌, length, get_or, take, drop, map, sym, subst, ap, ◌∙◌, refl, arith, append_assoc}
use Rattle.std.specs.Prelude.{Option, Some, None}
use Rattle.std.specs.List.{concat}
use Rattle.std.specs.Io.KnownBytes.{Appends}
use Rattle.std.proofs.lemmas.List.{append-nil}
use Rattle.gb_outside.specs.Appended.{AppendsFront}

-- the lines before a place, the one there and the lines behind it
pub lines-at : {X : Type 0} (text : X → List ℕ) (xs : List X) (i : ℕ) (x : X) → i < length xs → x ≡ get_or xs i x → concat (map text xs) ≡ concat (map text (take i xs)) ++ (text x ++ concat (map text (drop (suc i) xs)))
lines-at text [] i x h e = absurd (omega (arith, h))
lines-at text (y ∷ ys) zero x h e = ap (λ z. text z ++ concat (map text ys)) (sym e)
lines-at text (y ∷ ys) (suc i) x h e =
    ap (λ t. text y ++ t) (lines-at text ys i x (omega (arith, h)) e) ∙ sym (append_assoc (text y) _ _)

-- one line more
pub lines-more : {X : Type 0} (text : X → List ℕ) (xs : List X) (i : ℕ) (x : X) → i < length xs → x ≡ get_or xs i x → concat (map text (take (suc i) xs)) ≡ concat (map text (take i xs)) ++ text x
lines-more text [] i x h e = absurd (omega (arith, h))
lines-more text (y ∷ ys) zero x h e = append-nil (text y) ∙ ap text (sym e)
lines-more text (y ∷ ys) (suc i) x h e =
    ap (λ t. text y ++ t) (lines-more text ys i x (omega (arith, h)) e) ∙ sym (append_assoc (text y) _ _)

pub Appends-both : (a b : List ℕ) (old mid new : Option (List ℕ)) → Appends old mid a → Appends mid new b → Appends old new (a ++ b)
Appends-both a b None mid new first second = tt
Appends-both a b (Some xs) None new first second = absurd first
Appends-both a b (Some xs) (Some ys) None first second = absurd second
Appends-both a b (Some xs) (Some ys) (Some zs) first second =
    second ∙ ap (λ l. l ++ b) first ∙ append_assoc xs a b

-- a front of a text in the middle, with what stands before it
front-behind : (a b rest : List ℕ) (n : ℕ) → (k : ℕ) × (take k (a ++ (b ++ rest)) ≡ a ++ take n b)
front-behind [] [] rest zero = (0, refl)
front-behind [] [] rest (suc n) = (0, refl)
front-behind [] (b ∷ bs) rest zero = (0, refl)
front-behind [] (b ∷ bs) rest (suc n) =
    let more = front-behind [] bs rest n in (suc more.0, ap (λ t. b ∷ t) more.1)
front-behind (a ∷ before) bs rest n =
    let more = front-behind before bs rest n in (suc more.0, ap (λ t. a ∷ t) more.1)

pub AppendsFront-behind : (a b rest : List ℕ) (old mid new : Option (List ℕ)) → Appends old mid a → AppendsFront mid new b → AppendsFront old new (a ++ (b ++ rest))
AppendsFront-behind a b rest old mid new first front =
    let k = front-behind a b rest front.0 in
    let P : List ℕ → Type 0 = λ t. Appends old new t in
    (k.0, subst P (sym k.1) (Appends-both a (take front.0 b) old mid new first front.1))
