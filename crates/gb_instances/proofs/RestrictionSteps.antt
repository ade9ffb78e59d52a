-- Restrictions in order of declaration, step by step.
use Rattle.std.proofs.Common.{◌≡◌, ℕ, zero, suc, ◌+◌, [], ◌∷◌, ◌++◌, drop, refl, ap, sym, ◌∙◌, arith}
use Rattle.gb_goal.specs.Scope.{Declarations, entry_at}
use Rattle.gb_instances.specs.Fits.{restriction_of, restrictions_among}

next_at : (all : Declarations) (ds : Declarations) (i : ℕ) → restrictions_among all (drop i ds) ≡ restriction_of all (entry_at ds i) ++ restrictions_among all (drop (suc i) ds)
next_at all [] zero = refl
next_at all [] (suc i) = refl
next_at all (d ∷ ds) zero = refl
next_at all (d ∷ ds) (suc i) = next_at all ds i

next_is : (i : ℕ) → i + 1 ≡ suc i
next_is i = omega arith

-- one thing further
pub restrictions_next : (all : Declarations) (ds : Declarations) (i : ℕ) →
    restrictions_among all (drop i ds) ≡ restriction_of all (entry_at ds i) ++ restrictions_among all (drop (i + 1) ds)
restrictions_next all ds i = next_at all ds i ∙ ap (λ k. restriction_of all (entry_at ds i) ++ restrictions_among all (drop k ds)) (sym (next_is i))
