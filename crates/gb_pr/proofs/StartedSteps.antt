-- Terms in the places of parameters, one by one.
use Rattle.std.proofs.Common.{◌≡◌, ℕ, zero, suc, ◌<◌, List, [], ◌∷◌, length, drop, refl, arith}
use Rattle.gb_terms.specs.declared.decl.TypedName.{TypedName}
use Rattle.gb_terms.specs.declared.op.Side.{Side}
use Rattle.gb_terms.specs.declared.term.Term.{Term}
use Rattle.gb_pr.specs.Started.{given_for}

none_for : (r : Side) (xs : List TypedName) → given_for r xs [] ≡ []
none_for r [] = refl
none_for r (x ∷ xs) = refl

-- no term is left, or no parameter
pub all_given : (r : Side) (xs : List TypedName) (es : List Term) (i : ℕ) → (i < length xs → i < length es → ⊥) → given_for r (drop i xs) (drop i es) ≡ []
all_given r [] es zero h = refl
all_given r [] es (suc i) h = refl
all_given r (x ∷ xs) [] zero h = refl
all_given r (x ∷ xs) [] (suc i) h = none_for r (drop i xs)
all_given r (x ∷ xs) (e ∷ es) zero h = absurd (h (omega arith) (omega arith))
all_given r (x ∷ xs) (e ∷ es) (suc i) h = all_given r xs es i (λ a b. h (omega (arith, a)) (omega (arith, b)))
