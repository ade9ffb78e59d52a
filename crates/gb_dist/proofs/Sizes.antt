-- Which whole numbers are small.
use Rattle.std.proofs.Common.{◌≡◌, ◌^◌, ◌<◌, ◌≤◌, ℤ, pos, negsuc, refl, sym, ap, arith, true, false, Bool, unsigned_abs, FitsSigned, Option, Some, None, Result, Ok, Err, of_z}
use Rattle.std.specs.Int.{w128}
use Rattle.std.proofs.lemmas.Int.{fits_signed_from_abs}
use Rattle.std.specs.Prelude.{SomeIff, if◌then◌else◌}
use Rattle.gb_dist.specs.declared.whole.Overflow.{Overflow}
use Rattle.gb_dist.specs.Operations.{is_small, small_or, Operation, Gives, operands}

pub small : (z : ℤ) → unsigned_abs z < 2 ^ 127 → is_small z ≡ true
unfolding is_small
small z h = grind arith

pub size_of_small : (z : ℤ) → is_small z ≡ true → unsigned_abs z < 2 ^ 127
unfolding is_small
size_of_small z h = grind arith

pub large : (z : ℤ) → 2 ^ 127 ≤ unsigned_abs z → is_small z ≡ false
unfolding is_small
large z h = grind arith

pub fits : (z : ℤ) → is_small z ≡ true → FitsSigned w128 z
fits z h = fits_signed_from_abs w128 z (size_of_small z h)

-- all numbers that fit are small, but the least one
pub small_of_fits : (z : ℤ) → FitsSigned w128 z → (of_z w128 z ≡ 2 ^ 127 → ⊥) → is_small z ≡ true
small_of_fits (pos n) f other = small (pos n) f.sfits
small_of_fits (negsuc n) f other = small (negsuc n) (omega (arith, f.sfits, other))

pub large_of_least : (z : ℤ) → FitsSigned w128 z → of_z w128 z ≡ 2 ^ 127 → is_small z ≡ false
large_of_least (pos n) f e = absurd (omega (arith, f.sfits, e))
large_of_least (negsuc n) f e = large (negsuc n) (omega (arith, f.sfits, e))

pub kept : (l r : ℤ) (v : Option ℤ) (z : ℤ) → v ≡ Some z → is_small z ≡ true → Ok z ≡ small_or (record { left = l; right = r }) v
kept l r v z e s = rw (e, s)

pub not_kept : (l r : ℤ) (v : Option ℤ) (z : ℤ) → v ≡ Some z → is_small z ≡ false → Err (record { left = l; right = r }) ≡ small_or (record { left = l; right = r }) v
not_kept l r v z e s = rw (e, s)

-- what a checked operation gives, where it is small
checked_small : (o : Operation) (z : ℤ) (b : Bool) (q : Result ℤ Overflow) → is_small o.result ≡ b → o.result ≡ z → q ≡ (if b then Ok z else Err (operands o)) → Gives o q
checked_small o z true q s h e = rw e (s, sym h)
checked_small o z false q s h e = rw e (s, refl)

large_of_unfit : (z : ℤ) (b : Bool) → is_small z ≡ b → (FitsSigned w128 z → ⊥) → is_small z ≡ false
large_of_unfit z true s n = absurd (n (fits z s))
large_of_unfit z false s n = s

pub checked : (o : Operation) (v : Option ℤ) (q : Result ℤ Overflow) → SomeIff v (FitsSigned w128 o.result) o.result → q ≡ small_or (operands o) v → Gives o q
checked o None q h e = rw e (large_of_unfit o.result _ refl h, refl)
checked o (Some z) q h e = checked_small o z (is_small z) q (ap is_small (sym h.1)) (sym h.1) e
