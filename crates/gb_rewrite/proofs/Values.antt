-- The sides of true equations and equivalences mean the same.
use Rattle.std.proofs.Common.{◌≡◌, ℕ, zero, suc, ◌==◌, ◌<◌, Bool, true, false, refl, ap, sym, ◌∙◌, arith}
use Rattle.std.proofs.lemmas.Bool.{false≢true}
use Rattle.std.proofs.lemmas.Bool.Decides.{Decides-int_eq}
use Rattle.gb_core.specs.declared.ty.Ty.{Ty}
use Rattle.gb_core.specs.declared.ty.Ty.TheVariants as ty
use Rattle.gb_core.specs.declared.value.Value.{Value}
use Rattle.gb_core.specs.declared.value.Value.TheVariants.{Num}
use Rattle.gb_core.specs.Numbering.{number_of}
use Rattle.gb_meaning.specs.Setting.{Meaning}
use Rattle.gb_meaning.specs.Setting.Meaning.{finite, whole, fraction, weights}
use Rattle.gb_meaning.specs.Meanings.{same, truth}
use Rattle.gb_meaning.specs.Operators.{alike}
use Rattle.gb_meaning.specs.Values.{Types, has}
use Rattle.gb_meaning.proofs.Numberings.{lawful}
use Rattle.gb_meaning.proofs.Values.{value_eq-true}
use Rattle.gb_laws.specs.Meant.{IsOf, IsReal}
use Rattle.gb_smt_laws.specs.Alike.{Alike}

abbrev pub is_real : Ty → Bool
is_real ty.Real = true
is_real t = false

real_is : (u : Ty) → IsReal u → is_real u ≡ true
real_is ty.Real w = refl
real_is _ w = absurd w

-- equal meanings are the same
pub equal_alike : (x y : Meaning) → same x y ≡ true → Alike x y
equal_alike (finite v) (finite w) e = ap finite ((value_eq-true v w).0 e)
equal_alike (whole m) (whole n) e = ap whole ((Decides-int_eq m n).0 e)
equal_alike (fraction a) (fraction b) e = e
equal_alike x y e = absurd (false≢true e)

-- meanings that are the same are one, but that reals may be different fractions
pub alike_one : (ts : Types) (u : Ty) (x y : Meaning) → IsOf ts u x → is_real u ≡ false → Alike x y → x ≡ y
alike_one ts u (fraction a) y k r e = absurd (false≢true (sym r ∙ real_is u k.0))
alike_one ts u x y k r e = e

same_bits : (m n : ℕ) → m < 2 → n < 2 → alike (m == 1) (n == 1) ≡ true → m ≡ n
same_bits zero zero h k e = refl
same_bits zero (suc zero) h k e = absurd (false≢true e)
same_bits (suc zero) zero h k e = absurd (false≢true e)
same_bits (suc zero) (suc zero) h k e = refl
same_bits zero (suc (suc n)) h k e = absurd (omega (arith, k))
same_bits (suc zero) (suc (suc n)) h k e = absurd (omega (arith, k))
same_bits (suc (suc m)) n h k e = absurd (omega (arith, h))

bits : (ts : Types) (v w : Value) → has ts ty.Bool v ≡ true → has ts ty.Bool w ≡ true → alike (number_of v == 1) (number_of w == 1) ≡ true → v ≡ w
bits ts v w h k e =
    let l = lawful ts ty.Bool in
    sym (l.at_place v h) ∙ ap Num (same_bits (number_of v) (number_of w) (l.below v h) (l.below w k) e) ∙ l.at_place w k

-- alike truths are one
pub same_truths : (ts : Types) (x y : Meaning) → IsOf ts ty.Bool x → IsOf ts ty.Bool y → alike (truth x) (truth y) ≡ true → x ≡ y
same_truths ts (finite v) (finite w) h k e = ap finite (bits ts v w h k e)
same_truths ts (finite v) (whole n) h k e = absurd k
same_truths ts (finite v) (fraction a) h k e = absurd k.0
same_truths ts (finite v) (weights d) h k e = absurd k.0
same_truths ts (whole n) y h k e = absurd h
same_truths ts (fraction a) y h k e = absurd h.0
same_truths ts (weights d) y h k e = absurd h.0
