-- Which numbers are at least 0, and how sums and multiples of such numbers compare.
use Rattle.std.proofs.Common.{◌≡◌, ◌⊎◌, inl, inr, ⊎_elim, ℕ, zero, suc, ◌+◌, ◌-◌, ◌*◌, ◌<◌, ◌≤◌, Bool, true, false, ℤ, pos, negsuc, ◌*ℤ◌, int_le, refl, sym, ap, ◌∙◌, subst, arith}
use Rattle.std.proofs.Math.Nat.{mul-le-mul_right, mul-lt-mul_of_pos_right}
use Rattle.std.proofs.lemmas.Bool.{cases_order}
use Rattle.std.proofs.lemmas.Bool.Decides.{Decides-int_eq}
use Rattle.std.proofs.lemmas.Int.{ints}
use borrow.Author.Differences.{up, down}
use Rattle.gb_dist.specs.Fractions.{Fraction}
use Rattle.gb_core.specs.declared.ty.Ty.{Ty}
use Rattle.gb_meaning.specs.Setting.{Meaning}
use Rattle.gb_meaning.specs.Setting.Meaning.{whole, fraction}
use Rattle.gb_meaning.specs.Meanings.{same}
use Rattle.gb_meaning.specs.Operators.{at_most}
use Rattle.gb_closing.specs.Numbers.{is_negative}
use Rattle.gb_linear.specs.Numbers.{is_positive}
use Rattle.gb_closing_laws.proofs.Numbers.{Number, Same, nought, plus, times, opposite, same_trans, same_sym, same_plus, same_refl, plus_nought}
use Rattle.gb_closing_laws.proofs.Fractions.{of}
use Rattle.gb_closing_laws.proofs.Meanings.{IsKind, num, by_kinds}

-- at least 0, at most 0
abbrev pub IsNonneg : Number → Type 0
IsNonneg a = a.less ≤ a.more

abbrev pub IsNonpos : Number → Type 0
IsNonpos a = a.more ≤ a.less

-- one number is at most another one
abbrev pub IsAtMost : Number → Number → Type 0
IsAtMost a b = a.more * b.den + b.less * a.den ≤ b.more * a.den + a.less * b.den

not_above : (m n d : ℕ) → 0 < d → n * d ≤ m * d → n ≤ m
not_above m n d h l = ⊎_elim (λ (k : m < n). absurd (let b : m * d < n * d = mul-lt-mul_of_pos_right k h in omega (arith, b, l))) (λ k. k) (order m n)
  where
    order : (m n : ℕ) → (m < n) ⊎ (n ≤ m)
    order m n = ⊎_elim (λ (e : m ≡ n). inr (omega (arith, e))) (λ (s : (m < n) ⊎ (n < m)). ⊎_elim (λ l. inl l) (λ (g : n < m). inr (omega (arith, g))) s) (cases_order m n)

pub nonneg_same : (a b : Number) → Same a b → IsNonneg a → IsNonneg b
nonneg_same a b e h = not_above b.more b.less a.den a.above (omega (arith, e, mul-le-mul_right b.den h))

pub nonpos_same : (a b : Number) → Same a b → IsNonpos a → IsNonpos b
nonpos_same a b e h = not_above b.less b.more a.den a.above (omega (arith, e, mul-le-mul_right b.den h))

pub nonneg_plus : (a b : Number) → IsNonneg a → IsNonneg b → IsNonneg (plus a b)
nonneg_plus a b h k = omega (arith, mul-le-mul_right b.den h, mul-le-mul_right a.den k)

-- a product of numbers at least 0
pub nonneg_times : (a b : Number) → IsNonneg a → IsNonneg b → IsNonneg (times a b)
nonneg_times a b h k = crossed a.more a.less b.more b.less h k
  where
    crossed : (m l n k : ℕ) → l ≤ m → k ≤ n → m * k + l * n ≤ m * n + l * k
    crossed m l n k p q = let d = by_difference m l p in let e = by_difference n k q in spread m l n k d.0 e.0 d.1 e.1
      where
        by_difference : (m l : ℕ) → l ≤ m → (d : ℕ) × (m ≡ l + d)
        by_difference m l p = (m - l, omega arith)

        spread : (m l n k d e : ℕ) → m ≡ l + d → n ≡ k + e → m * k + l * n ≤ m * n + l * k
        spread m l n k d e p q = subst (λ m. m * k + l * n ≤ m * n + l * k) (sym p) (subst (λ n. (l + d) * k + l * n ≤ (l + d) * n + l * k) (sym q) (products l d k e))
          where
            products : (l d k e : ℕ) → (l + d) * k + l * (k + e) ≤ (l + d) * (k + e) + l * k
            products l d k e = omega arith

-- a difference and a number at least 0 that are at most 0 together
pub at_most_of_rest : (a b n : Number) → IsNonneg n → IsNonpos (plus (plus a (opposite b)) n) → IsAtMost a b
at_most_of_rest a b n h l =
    let d = a.more * b.den + b.less * a.den in
    let e = b.more * a.den + a.less * b.den in
    not_above e d n.den n.above (omega (arith, l, mul-le-mul_right (a.den * b.den) h))

-- what is known of comparisons is known of their differences

pub difference_nonneg : (a b : Number) → IsAtMost a b → IsNonneg (plus b (opposite a))
difference_nonneg a b h = omega (arith, h)

pub difference_nought : (a b : Number) → Same a b → Same (plus b (opposite a)) nought
difference_nought a b h = omega (arith, h)

pub nought_nonneg : (a : Number) → Same a nought → IsNonneg a
nought_nonneg a h = omega (arith, h)

pub same_of_rest : (a b n : Number) → Same n nought → Same (plus (plus a (opposite b)) n) nought → Same a b
same_of_rest a b n h k =
    let d = plus a (opposite b) in
    let e : Same d nought = same_trans d (plus d nought) nought (same_sym (plus d nought) d (plus_nought d))
    (same_trans (plus d nought) (plus d n) nought (same_plus d d nought n (same_refl d) (same_sym n nought h)) k) in
    omega (arith, e)

-- a factor that isn't negative, and a constant that isn't positive

pub factor_nonneg : (k : Fraction) → is_negative k ≡ false → IsNonneg (of k)
factor_nonneg (z, zero) e = omega arith
factor_nonneg (pos n, suc d) e = omega arith
factor_nonneg (negsuc n, suc d) e = absurd (omega (arith, ints, e))

pub constant_nonpos : (c : Fraction) → is_positive c ≡ false → IsNonpos (of c)
constant_nonpos (z, zero) e = omega arith
constant_nonpos (pos n, suc d) e = omega (arith, ints, e)
constant_nonpos (negsuc n, suc d) e = omega arith

-- Comparisons

scaled : (z : ℤ) (d : ℕ) → up (z *ℤ pos d) + down z * d ≡ down (z *ℤ pos d) + up z * d
scaled z d = omega (arith, ints)

le_made : (x y : ℤ) → up x + down y ≤ up y + down x → int_le x y ≡ true
le_made x y h = step (int_le x y) refl
  where
    step : (b : Bool) → int_le x y ≡ b → b ≡ true
    step true e = refl
    step false e = absurd (omega (arith, ints, h, e))

le_used : (x y : ℤ) → int_le x y ≡ true → up x + down y ≤ up y + down x
le_used x y e = omega (arith, ints, e)

eq_made : (x y : ℤ) → up x + down y ≡ up y + down x → x ≡ y
eq_made x y h = omega (arith, ints, h)

eq_used : (x y : ℤ) → x ≡ y → up x + down y ≡ up y + down x
eq_used x y e = ap (λ z. up z + down y) e ∙ ap (λ z. up y + down z) (sym e)

abbrev Tells : Meaning → Meaning → Type 0
Tells x y = (at_most x y ≡ true → IsAtMost (num x) (num y)) × (IsAtMost (num x) (num y) → at_most x y ≡ true)
    × (same x y ≡ true → Same (num x) (num y)) × (Same (num x) (num y) → same x y ≡ true)

fractions_tell : (a b : Fraction) → 0 < a.1 → 0 < b.1 → Tells (fraction a) (fraction b)
fractions_tell (x, zero) b h k = absurd (omega arith)
fractions_tell (x, suc d) (y, zero) h k = absurd (omega arith)
fractions_tell (x, suc d) (y, suc e) h k = (
  λ q. omega (arith, le_used (x *ℤ pos (suc e)) (y *ℤ pos (suc d)) q, scaled x (suc e), scaled y (suc d)),
  λ q. le_made (x *ℤ pos (suc e)) (y *ℤ pos (suc d)) (omega (arith, q, scaled x (suc e), scaled y (suc d))),
  λ q. omega (arith, eq_used (x *ℤ pos (suc e)) (y *ℤ pos (suc d)) ((Decides-int_eq (x *ℤ pos (suc e)) (y *ℤ pos (suc d))).0 q), scaled x (suc e), scaled y (suc d)),
  λ q. (Decides-int_eq (x *ℤ pos (suc e)) (y *ℤ pos (suc d))).1 (eq_made (x *ℤ pos (suc e)) (y *ℤ pos (suc d)) (omega (arith, q, scaled x (suc e), scaled y (suc d)))),
)

wholes_tell : (x y : ℤ) → Tells (whole x) (whole y)
wholes_tell x y = (
  λ q. omega (arith, le_used x y q),
  λ q. le_made x y (omega (arith, q)),
  λ q. omega (arith, eq_used x y ((Decides-int_eq x y).0 q)),
  λ q. (Decides-int_eq x y).1 (eq_made x y (omega (arith, q))),
)

-- what the comparisons of numbers of one kind say
pub tells : (u : Ty) (x y : Meaning) → IsKind u x → IsKind u y → Tells x y
tells u x y k l = by_kinds Tells wholes_tell fractions_tell u x y k l
