-- Facts about tests.
use Rattle.std.specs.Prelude.{◌≡◌, ℕ, zero, suc, ◌<◌, ◌≤◌, Bool, true, false, not, ◌&&◌, ◌||◌, ◌⊎◌}
use Rattle.std.proofs.Common.{refl, sym, subst, inl, inr, arith, ⊎_elim}
use Rattle.std.proofs.Math.Nat.{eq-or-lt_of_le}
use Rattle.gb_script.specs.Check.{implies, all_below}

pub both : (a b : Bool) → a && b ≡ true → (a ≡ true) × (b ≡ true)
both true b h = (refl, h)
both false b h = cc

pub either : (a b : Bool) → a || b ≡ true → (a ≡ true) ⊎ (b ≡ true)
either true b h = inl refl
either false b h = inr h

pub or_left : (a b : Bool) → a ≡ true → a || b ≡ true
or_left true b h = refl
or_left false b h = cc

pub or_right : (a b : Bool) → b ≡ true → a || b ≡ true
or_right true b h = refl
or_right false b h = h

pub and_both : (a b : Bool) → a ≡ true → b ≡ true → a && b ≡ true
and_both true b h k = k
and_both false b h k = cc

pub implied : (a b : Bool) → implies a b ≡ true → a ≡ true → b ≡ true
implied true b h k = h
implied false b h k = cc

pub not_both : (a : Bool) → not a ≡ true → a ≡ true → ⊥
not_both true h k = cc
not_both false h k = cc

pub not_true : (a : Bool) → not a ≡ true → a ≡ false
not_true true h = absurd cc
not_true false h = refl

pub true_not : (a : Bool) → a ≡ false → not a ≡ true
true_not true h = absurd cc
true_not false h = refl

pub or_and : (x y z : Bool) → x || (y && z) ≡ true → (x ≡ true) ⊎ ((y ≡ true) × (z ≡ true))
or_and x y z h = ⊎_elim (λ (a : x ≡ true). inl a) (λ (a : y && z ≡ true). inr (both y z a)) (either x (y && z) h)

pub below_at : (k : ℕ) (f : ℕ → Bool) (t : ℕ) → all_below k f ≡ true → t < k → f t ≡ true
below_at zero f t h lt = absurd (omega arith)
below_at (suc k) f t h lt =
    let p = both (f k) (all_below k f) h in
    let le : t ≤ k = omega arith in
    ⊎_elim (λ (e : t ≡ k). subst (λ (n : ℕ). f n ≡ true) (sym e) p.0) (λ (l : t < k). below_at k f t p.1 l) (eq-or-lt_of_le le)
