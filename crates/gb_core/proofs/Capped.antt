-- Products and powers up to a limit.
use Rattle.std.proofs.Common.{◌≡◌, ℕ, zero, suc, ◌+◌, ◌-◌, ◌*◌, ◌^◌, ◌<◌, ◌≤◌, min, List, [], ◌∷◌, ◌++◌, length, get_or, map, take, refl, ap, ◌∙◌, ⊎_elim, mul_comm, mul_assoc, arith}
use Rattle.std.proofs.Math.Nat.{mul-le-mul, mul-le-mul_right, one-le-pow, min-eq_left, zero-min, pow-zero, pow-suc, pow-le-pow_right, pow-le-pow_left}
use Rattle.std.proofs.lemmas.Bool.{cases_lt}
use Rattle.std.proofs.lemmas.List.{take_more}
use Rattle.gb_core.specs.declared.ty.Ty.{Ty}
use Rattle.gb_core.specs.Numbering.{tuples}
use Rattle.gb_core.specs.Types.{numbering, size_of}

-- past the limit at a factor, and where the other isn't 0, the product is past it
past : (l a b : ℕ) → 0 < l → l ≤ a → 0 < b → min (min a l * min b l) l ≡ min (a * b) l
past l a b z p q =
    let x : l * 1 ≤ min a l * min b l = mul-le-mul (omega arith) (omega arith) in
    let y : l * 1 ≤ a * b = mul-le-mul p q in
    omega arith

-- a product of factors up to a limit is the product up to the limit
pub min_times : (l a b : ℕ) → 0 < l → min (min a l * min b l) l ≡ min (a * b) l
min_times l zero b z = rw zero-min (omega arith)
min_times l (suc a) zero z = rw (zero-min l) (omega arith)
min_times l (suc a) (suc b) z =
    ⊎_elim (λ p. ⊎_elim (λ q. let x : min (suc a) l ≡ suc a = min-eq_left (omega arith) in let y : min (suc b) l ≡ suc b = min-eq_left (omega arith) in λ i. min (x i * y i) l) (λ q. commuted q) (cases_lt (suc b) l)) (λ p. past l (suc a) (suc b) z p (omega arith)) (cases_lt (suc a) l)
  where
    commuted : l ≤ suc b → min (min (suc a) l * min (suc b) l) l ≡ min (suc a * suc b) l
    commuted q = rw (mul_comm (min (suc a) l) (min (suc b) l), mul_comm (suc a) (suc b)) (past l (suc b) (suc a) z q (omega arith))

pub one-pow : (n : ℕ) → 1 ^ n ≡ 1
one-pow zero = refl
one-pow (suc n) = pow-suc 1 n ∙ omega (arith, one-pow n)

power_past : (b k : ℕ) → min (b ^ 63) (2 ^ 63) ≡ min (b ^ (63 + k)) (2 ^ 63)
power_past zero k =
    let e : 0 ^ (63 + k) ≡ 0 = ap (λ n. 0 ^ n) (omega arith) ∙ pow-suc 0 (62 + k) ∙ omega arith in
    rw e refl
power_past (suc zero) k = rw one-pow refl
power_past (suc (suc b)) k =
    let base : 2 ≤ suc (suc b) = omega arith in
    let turns : 63 ≤ 63 + k = omega arith in
    let positive : 0 < suc (suc b) = omega arith in
    let two : 2 ^ 63 ≤ suc (suc b) ^ 63 = pow-le-pow_left base 63 in
    let more : suc (suc b) ^ 63 ≤ suc (suc b) ^ (63 + k) = pow-le-pow_right positive turns in
    omega arith

-- past 63 turns a power is 0, 1 or past the limit
pub power_all : (b e k : ℕ) → k ≡ min e 63 → min (b ^ k) (2 ^ 63) ≡ min (b ^ e) (2 ^ 63)
power_all b e k h = ⊎_elim (λ p. ap (λ n. min (b ^ n) (2 ^ 63)) (omega arith)) (λ p. ap (λ n. min (b ^ n) (2 ^ 63)) (omega arith) ∙ power_past b (e - 63) ∙ ap (λ n. min (b ^ n) (2 ^ 63)) (omega arith)) (cases_lt e 63)

pub large_power : (b e : ℕ) → 2 ≤ b → 63 ≤ e → 2 ^ 63 ≤ b ^ e
large_power b e p q =
    let positive : 0 < b = omega arith in
    let two : 2 ^ 63 ≤ b ^ 63 = pow-le-pow_left p 63 in
    let more : b ^ 63 ≤ b ^ e = pow-le-pow_right positive q in
    omega arith

wide_power : (b e : ℕ) → 2 ^ 63 ≤ b → 1 ≤ e → 2 ^ 63 ≤ b ^ e
wide_power b zero p q = absurd (omega arith)
wide_power b (suc e) p q =
    let positive : 0 < b = omega arith in
    let more : 1 * b ≤ b ^ e * b = mul-le-mul_right b (one-le-pow e b positive) in
    omega (arith, pow-suc b e)

-- a power of a base and an exponent up to the limit is the power up to the limit
pub power_capped : (b e : ℕ) → 1 ≤ b → min (min b (2 ^ 63) ^ min e (2 ^ 63)) (2 ^ 63) ≡ min (b ^ e) (2 ^ 63)
power_capped zero e p = absurd (omega arith)
power_capped (suc zero) e p = rw (one-pow (min e (2 ^ 63)), one-pow e) refl
power_capped (suc (suc b)) zero p = rw (zero-min (2 ^ 63), pow-zero (min (suc (suc b)) (2 ^ 63)), pow-zero (suc (suc b))) refl
power_capped (suc (suc b)) (suc e) p =
    ⊎_elim
    (λ q. ⊎_elim
    (λ r. let x : min (suc (suc b)) (2 ^ 63) ≡ suc (suc b) = min-eq_left (omega arith) in
    let y : min (suc e) (2 ^ 63) ≡ suc e = min-eq_left (omega arith) in
    λ i. min (x i ^ y i) (2 ^ 63))
    (λ r. let x : 2 ^ 63 ≤ min (suc (suc b)) (2 ^ 63) ^ min (suc e) (2 ^ 63) = large_power _ _ (omega arith) (omega arith) in
    let y : 2 ^ 63 ≤ suc (suc b) ^ suc e = large_power _ _ (omega arith) (omega arith) in
    omega arith)
    (cases_lt (suc e) (2 ^ 63)))
    (λ q. let x : 2 ^ 63 ≤ min (suc (suc b)) (2 ^ 63) ^ min (suc e) (2 ^ 63) = wide_power _ _ (omega arith) (omega arith) in
    let y : 2 ^ 63 ≤ suc (suc b) ^ suc e = wide_power _ _ (omega arith) (omega arith) in
    omega arith)
    (cases_lt (suc (suc b)) (2 ^ 63))

-- the size of a map type, from sizes up to the limit
pub map_size : (r b e s x t : ℕ) → r ≡ min (b ^ e) (2 ^ 63) → b ≡ min (s + 1) (2 ^ 63) → s ≡ min x (2 ^ 63) → e ≡ min t (2 ^ 63) → r ≡ min ((x + 1) ^ t) (2 ^ 63)
map_size r b e s x t p q u v =
    let base : b ≡ min (x + 1) (2 ^ 63) = omega arith in
    p ∙ (λ i. min (base i ^ v i) (2 ^ 63)) ∙ power_capped (x + 1) t (omega arith)

tuples-push : (ts : List Ty) (t : Ty) → tuples (map numbering (ts ++ t ∷ [])) ≡ tuples (map numbering ts) * size_of t
tuples-push [] t = omega arith
tuples-push (x ∷ ts) t = rw (tuples-push ts t) (omega (arith, mul_assoc (size_of x) (tuples (map numbering ts)) (size_of t)))

pub tuples-take : (ts : List Ty) (i : ℕ) (t : Ty) → i < length ts → tuples (map numbering (take (i + 1) ts)) ≡ tuples (map numbering (take i ts)) * size_of (get_or ts i t)
tuples-take ts i t h = ap (λ xs. tuples (map numbering xs)) (take_more ts i t h) ∙ tuples-push (take i ts) (get_or ts i t)
