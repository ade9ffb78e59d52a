-- Numbers as differences over a denominator above 0. They are the same where their cross products are.
use Rattle.std.proofs.Common.{◌≡◌, ℕ, ◌+◌, ◌*◌, ◌/◌, ◌<◌, refl, sym, ap, ◌∙◌, arith}
use Rattle.std.proofs.Math.Nat.{mul-div_cancel, mul-pos}
use Rattle.gb_closing.specs.declared.numbers.Sign.{Sign}
use Rattle.gb_closing.specs.declared.numbers.Sign.TheVariants.{Plus, Minus}

pub record Number : Type 0 where
  pub more : ℕ
  pub less : ℕ
  pub den : ℕ
  pub above : 0 < den

abbrev pub Same : Number → Number → Type 0
Same a b = a.more * b.den + b.less * a.den ≡ b.more * a.den + a.less * b.den

abbrev pub nought : Number
nought = record { more = 0; less = 0; den = 1; above = omega arith }

abbrev pub unit : Number
unit = record { more = 1; less = 0; den = 1; above = omega arith }

abbrev pub plus : Number → Number → Number
plus a b = record { more = a.more * b.den + b.more * a.den; less = a.less * b.den + b.less * a.den; den = a.den * b.den; above = mul-pos a.above b.above }

abbrev pub times : Number → Number → Number
times a b = record { more = a.more * b.more + a.less * b.less; less = a.more * b.less + a.less * b.more; den = a.den * b.den; above = mul-pos a.above b.above }

abbrev pub opposite : Number → Number
opposite a = record { more = a.less; less = a.more; den = a.den; above = a.above }

abbrev pub signed : Sign → Number → Number
signed Plus a = a
signed Minus a = opposite a

pub cancel : (m n b : ℕ) → 0 < b → m * b ≡ n * b → m ≡ n
cancel m n b h e = sym (mul-div_cancel m h) ∙ ap (λ k. k / b) e ∙ mul-div_cancel n h

-- The same numbers

pub same_refl : (a : Number) → Same a a
same_refl a = refl

pub same_sym : (a b : Number) → Same a b → Same b a
same_sym a b h = sym h

pub same_trans : (a b c : Number) → Same a b → Same b c → Same a c
same_trans a b c h k =
    cancel (a.more * c.den + c.less * a.den) (c.more * a.den + a.less * c.den) b.den b.above
    (omega (arith, ap (λ n. n * c.den) h, ap (λ n. n * a.den) k))

pub same_plus : (a b c d : Number) → Same a b → Same c d → Same (plus a c) (plus b d)
same_plus a b c d h k = omega (arith, ap (λ n. n * (c.den * d.den)) h, ap (λ n. n * (a.den * b.den)) k)

pub same_opposite : (a b : Number) → Same a b → Same (opposite a) (opposite b)
same_opposite a b h = omega (arith, h)

pub same_signed : (s : Sign) (a b : Number) → Same a b → Same (signed s a) (signed s b)
same_signed Plus a b h = h
same_signed Minus a b h = same_opposite a b h

pub same_times : (a b c d : Number) → Same a b → Same c d → Same (times a c) (times b d)
same_times a b c d h k =
    omega (
      arith,
      ap (λ n. n * (c.more * d.den)) h,
      ap (λ n. n * (c.less * d.den)) h,
      ap (λ n. n * (b.more * a.den)) k,
      ap (λ n. n * (b.less * a.den)) k,
    )

-- Laws of sums and products

pub nought_plus : (a : Number) → Same (plus nought a) a
nought_plus a = omega arith

pub plus_nought : (a : Number) → Same (plus a nought) a
plus_nought a = omega arith

pub nought_times : (a : Number) → Same (times nought a) nought
nought_times a = omega arith

pub unit_times : (a : Number) → Same (times unit a) a
unit_times a = omega arith

pub left_comm : (a b c : Number) → Same (plus a (plus b c)) (plus b (plus a c))
left_comm a b c = omega arith

pub interchange : (a b c d : Number) → Same (plus (plus a b) (plus c d)) (plus (plus a c) (plus b d))
interchange a b c d = omega arith

pub times_plus : (k a b : Number) → Same (times k (plus a b)) (plus (times k a) (times k b))
times_plus k a b = omega arith

pub plus_times : (a b v : Number) → Same (times (plus a b) v) (plus (times a v) (times b v))
plus_times a b v = omega arith

pub times_assoc : (k a v : Number) → Same (times (times k a) v) (times k (times a v))
times_assoc k a v = omega arith

pub times_swap : (a k v : Number) → Same (times (times a k) v) (times (times a v) k)
times_swap a k v = omega arith

pub times_comm : (a b : Number) → Same (times a b) (times b a)
times_comm a b = omega arith

pub times_nought : (k : Number) → Same (times k nought) nought
times_nought k = omega arith

pub signed_nought : (s : Sign) → Same nought (signed s nought)
signed_nought Plus = refl
signed_nought Minus = refl

pub signed_plus : (s : Sign) (a b : Number) → Same (plus (signed s a) (signed s b)) (signed s (plus a b))
signed_plus Plus a b = refl
signed_plus Minus a b = refl

pub signed_times : (s : Sign) (a v : Number) → Same (times (signed s a) v) (signed s (times a v))
signed_times Plus a v = refl
signed_times Minus a v = omega arith
