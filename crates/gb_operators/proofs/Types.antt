-- The types of terms, one after another.
use Rattle.std.proofs.Common.{◌≡◌, ℕ, zero, suc, ◌+◌, ◌<◌, List, [], ◌∷◌, ◌++◌, map, length, get_or, take, ap, ◌∙◌, arith}
use Rattle.gb_core.specs.declared.ty.Ty.{Ty}
use Rattle.gb_terms.specs.declared.term.Term.{Term}
use Rattle.gb_names.specs.Wanted.{type_of_term}

-- the types of the first terms, and that of the next one
steps : (xs : List Term) (i : ℕ) (x : Term) → i < length xs → x ≡ get_or xs i x
    → map type_of_term (take i xs) ++ type_of_term x ∷ [] ≡ map type_of_term (take (suc i) xs)
steps [] i x h e = absurd (omega (arith, h))
steps (a ∷ xs) zero x h e = ap (λ z. type_of_term z ∷ []) e
steps (a ∷ xs) (suc i) x h e = ap (λ ts. type_of_term a ∷ ts) (steps xs i x (omega (arith, h)) e)

pub one_more : (xs : List Term) (i : ℕ) (x : Term) (ts us : List Ty) (t : Ty) → i < length xs → x ≡ get_or xs i x
    → ts ≡ map type_of_term (take i xs) → us ≡ ts ++ t ∷ [] → t ≡ type_of_term x → us ≡ map type_of_term (take (i + 1) xs)
one_more xs i x ts us t h e k m n =
    let s : suc i ≡ i + 1 = omega arith in
    m ∙ ap (λ z. ts ++ z ∷ []) n ∙ ap (λ zs. zs ++ type_of_term x ∷ []) k ∙ steps xs i x h e ∙ ap (λ n. map type_of_term (take n xs)) s
