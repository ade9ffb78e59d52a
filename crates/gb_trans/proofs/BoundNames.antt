-- The names of the abstract modules of a scope, one thing further.
use Rattle.std.proofs.Common.{◌≡◌, ℕ, zero, suc, ◌+◌, List, [], ◌∷◌, ◌++◌, drop, refl, ap, sym, ◌∙◌, arith}
use Rattle.std.proofs.lemmas.List.{append_assoc}
use Rattle.gb_goal.specs.Scope.{Declarations, entry_at}
use Rattle.gb_print_names.specs.BoundNames.{Name}
use Rattle.gb_trans.specs.Beside.{bound_modules, bound_name}

next_is : (i : ℕ) → i + 1 ≡ suc i
next_is i = omega arith

bound_at : (ds : Declarations) (i : ℕ) → bound_name (entry_at ds i) ++ bound_modules (drop (suc i) ds) ≡ bound_modules (drop i ds)
bound_at [] zero = refl
bound_at [] (suc i) = refl
bound_at (d ∷ ds) zero = refl
bound_at (d ∷ ds) (suc i) = bound_at ds i

pub bound_next : (ds : Declarations) (names : List Name) (i : ℕ) → (names ++ bound_name (entry_at ds i)) ++ bound_modules (drop (i + 1) ds) ≡ names ++ bound_modules (drop i ds)
bound_next ds names i =
    append_assoc names (bound_name (entry_at ds i)) (bound_modules (drop (i + 1) ds))
    ∙ ap (λ k. names ++ (bound_name (entry_at ds i) ++ bound_modules (drop k ds))) (next_is i)
    ∙ ap (λ ns. names ++ ns) (bound_at ds i)
