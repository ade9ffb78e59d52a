-- What stands in place of a call, step by step.
use Rattle.std.proofs.Common.{◌≡◌, ◌<◌, ℕ, zero, suc, List, [], ◌∷◌, drop, length, refl, arith}
use Rattle.gb_terms.specs.declared.term.Term.{Term}
use Rattle.gb_inline.specs.Expanded.{each_set}
use Rattle.gb_inline.specs.Renamed.{Renamings}

none_set : (rs : Renamings) → each_set rs [] ≡ []
none_set [] = refl
none_set (r ∷ rs) = refl

-- no name is left, or no term
pub all_set : (rs : Renamings) (es : List Term) (i : ℕ) → (i < length rs → i < length es → ⊥) → each_set (drop i rs) (drop i es) ≡ []
all_set [] es zero h = refl
all_set [] es (suc i) h = refl
all_set (r ∷ rs) [] zero h = refl
all_set (r ∷ rs) [] (suc i) h = none_set (drop i rs)
all_set (r ∷ rs) (e ∷ es) zero h = absurd (h (omega arith) (omega arith))
all_set (r ∷ rs) (e ∷ es) (suc i) h = all_set rs es i (λ a b. h (omega (arith, a)) (omega (arith, b)))
