-- Facts about sets of kinds of token.
use Rattle.std.specs.Prelude.{if◌then◌else◌, ◌≡◌, ℕ, ◌/◌, ◌%◌, ◌^◌, Bool, true, false, ◌⊎◌, min, bit_and, bit_or}
use Rattle.std.proofs.Common.{ap, sym, ◌∙◌, inl, inr, refl, arith, ⊎_elim}
use Rattle.std.proofs.lemmas.Bool.{eqb-true, eqb-false, eq-eqb}
use Rattle.std.proofs.lemmas.Nat.Bits.{bit_at_and, bit_at_or, bit_at-zero, bit_at-pow_same}
use Rattle.gb_script.specs.Grammar.{has}
use Rattle.gb_script.specs.Check.{within, apart}

abbrev bit : ℕ → ℕ → ℕ
bit set t = (set / 2 ^ t) % 2

bit_of : (set t : ℕ) → has set t ≡ true → bit set t ≡ 1
bit_of set t h = eqb-true (bit set t) 1 h

has_bit : (set t : ℕ) → bit set t ≡ 1 → has set t ≡ true
has_bit set t h = eq-eqb (bit set t) 1 h

pub has_own : (t : ℕ) → has (2 ^ t) t ≡ true
has_own t = has_bit (2 ^ t) t (bit_at-pow_same t)

pub within_has : (a b t : ℕ) → within a b ≡ true → has a t ≡ true → has b t ≡ true
within_has a b t h k =
    let both : bit a t ≡ min (bit a t) (bit b t) = ap (λ (s : ℕ). bit s t) (sym (eqb-true (bit_and a b) a h)) ∙ bit_at_and a b t in
    let one = bit_of a t k in
    has_bit b t (omega arith)

pub apart_has : (a b t : ℕ) → apart a b ≡ true → has a t ≡ true → has b t ≡ true → ⊥
apart_has a b t h k l =
    let none : bit 0 t ≡ min (bit a t) (bit b t) = ap (λ (s : ℕ). bit s t) (sym (eqb-true (bit_and a b) 0 h)) ∙ bit_at_and a b t in
    let one = bit_of a t k in
    let other = bit_of b t l in
    absurd (omega (arith, bit_at-zero t))

pub has_left : (a b t : ℕ) → has a t ≡ true → has (bit_or a b) t ≡ true
has_left a b t h = let one = bit_of a t h in has_bit (bit_or a b) t (omega (arith, bit_at_or a b t))

pub has_right : (a b t : ℕ) → has b t ≡ true → has (bit_or a b) t ≡ true
has_right a b t h = let one = bit_of b t h in has_bit (bit_or a b) t (omega (arith, bit_at_or a b t))

has_other : (a b t : ℕ) (x : Bool) → has a t ≡ x → has (bit_or a b) t ≡ true → (has a t ≡ true) ⊎ (has b t ≡ true)
has_other a b t true e h = inl e
has_other a b t false e h =
    let one = bit_of (bit_or a b) t h in
    let none = eqb-false (bit a t) 1 e in
    inr (has_bit b t (omega (arith, bit_at_or a b t)))

pub has_either : (a b t : ℕ) → has (bit_or a b) t ≡ true → (has a t ≡ true) ⊎ (has b t ≡ true)
has_either a b t h = has_other a b t (has a t) refl h

-- The kinds of a set `x`, with those of `m` where `y`.
pub starts_of : (y : Bool) (x m t : ℕ) → has (if y then bit_or x m else x) t ≡ true → (has x t ≡ true) ⊎ ((y ≡ true) × (has m t ≡ true))
starts_of true x m t h = ⊎_elim (λ (a : has x t ≡ true). inl a) (λ (b : has m t ≡ true). inr (refl, b)) (has_either x m t h)
starts_of false x m t h = inl h

pub starts_first : (y : Bool) (x m t : ℕ) → has x t ≡ true → has (if y then bit_or x m else x) t ≡ true
starts_first true x m t h = has_left x m t h
starts_first false x m t h = h

pub starts_later : (y : Bool) (x m t : ℕ) → y ≡ true → has m t ≡ true → has (if y then bit_or x m else x) t ≡ true
starts_later true x m t e h = has_right x m t h
starts_later false x m t e h = absurd cc
