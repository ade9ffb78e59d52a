-- Names with primes behind them.
use Rattle.std.proofs.Common.{◌≡◌, ℕ, zero, suc, ◌+◌, ◌<◌, Bool, true, false, if◌then◌else◌, List, ◌++◌, codes, ap, ◌∙◌, add-one, arith}
use Rattle.gb_print_names.specs.BoundNames.{primed}

-- a name that isn't taken stands
pub primed_free : (m : ℕ) (t : List ℕ → Bool) (x : List ℕ) → 0 < m → t x ≡ false → primed m t x ≡ x
primed_free zero t x h e = absurd (omega (arith, h))
primed_free (suc m) t x h e = ap (λ b. if b then primed m t (x ++ codes "'") else x) e

-- one that is taken gets a prime
pub primed_more : (m n : ℕ) (t : List ℕ → Bool) (x : List ℕ) → m ≡ n + 1 → t x ≡ true → primed m t x ≡ primed n t (x ++ codes "'")
primed_more m n t x e h = ap (λ k. primed k t x) (e ∙ add-one n) ∙ ap (λ b. if b then primed n t (x ++ codes "'") else x) h
