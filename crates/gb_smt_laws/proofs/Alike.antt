-- Meanings that are the same, and what is read of them.
use Rattle.std.proofs.Common.{◌≡◌, ℕ, ◌<◌, refl, sym, ap, ◌∙◌, subst, arith}
use Rattle.std.proofs.Math.Nat.{mul-pos}
use Rattle.gb_core.specs.declared.ty.Ty.{Ty}
use Rattle.gb_meaning.specs.Fractions.{Fraction, plus, minus, times, opposite, absolute, quotient}
use Rattle.gb_meaning.specs.Setting.{Meaning}
use Rattle.gb_meaning.specs.Setting.Meaning.{finite, whole, fraction, weights}
use Rattle.gb_meaning.specs.Meanings.{value_in, number_in, truth, fraction_in, weights_in, scaled, same}
use Rattle.gb_meaning.specs.Operators.{sum_at, difference_at, product_at, negated, less, at_most}
use Rattle.gb_smt_laws.specs.Alike.{Alike}
use Rattle.gb_smt_laws.proofs.Fractions.{Same, same_used, same_made, same_refl, same_sym, same_trans, same_plus, same_minus, same_times, same_below, same_at_most, same_same, same_opposite, same_absolute, same_quotient}

-- a fraction with a denominator above 0
abbrev pub IsProper : Meaning → Type 0
IsProper (fraction a) = 0 < a.1
IsProper x = Unit {0}

pub alike_itself : (x : Meaning) → Alike x x
alike_itself (fraction a) = same_made a a (same_refl a)
alike_itself (finite v) = refl
alike_itself (whole n) = refl
alike_itself (weights d) = refl

pub alike_of : (x y : Meaning) → x ≡ y → Alike x y
alike_of x y e = subst (Alike x) e (alike_itself x)

pub alike_turned : (x y : Meaning) → Alike x y → Alike y x
alike_turned (fraction a) (fraction b) h = same_made b a (same_sym a b (same_used a b h))
alike_turned x y h = alike_of y x (sym h)

pub alike_then : (x y z : Meaning) → IsProper y → Alike x y → Alike y z → Alike x z
alike_then (fraction a) (fraction b) (fraction c) p h k = same_made a c (same_trans a b c p (same_used a b h) (same_used b c k))
alike_then (fraction a) (fraction b) (finite v) p h k = cc
alike_then (fraction a) (fraction b) (whole n) p h k = cc
alike_then (fraction a) (fraction b) (weights d) p h k = cc
alike_then (finite v) y z p h k = subst (λ x. Alike x z) (sym h) k
alike_then (whole n) y z p h k = subst (λ x. Alike x z) (sym h) k
alike_then (weights d) y z p h k = subst (λ x. Alike x z) (sym h) k
alike_then (fraction a) (finite v) z p h k = cc
alike_then (fraction a) (whole n) z p h k = cc
alike_then (fraction a) (weights d) z p h k = cc

-- what is the same for all fractions
pub read_alike : {X : Type 0} (f : Meaning → X) → ((a b : Fraction) → f (fraction a) ≡ f (fraction b)) → (x y : Meaning) → Alike x y → f x ≡ f y
read_alike f g (fraction a) (fraction b) h = g a b
read_alike f g x y h = ap f h

pub value_alike : (x y : Meaning) → Alike x y → value_in x ≡ value_in y
value_alike x y h = read_alike value_in (λ a b. refl) x y h

pub number_alike : (x y : Meaning) → Alike x y → number_in x ≡ number_in y
number_alike x y h = read_alike number_in (λ a b. refl) x y h

pub truth_alike : (x y : Meaning) → Alike x y → truth x ≡ truth y
truth_alike x y h = read_alike truth (λ a b. refl) x y h

pub weights_alike : (x y : Meaning) → Alike x y → weights_in x ≡ weights_in y
weights_alike x y h = read_alike weights_in (λ a b. refl) x y h

pub fraction_same : (x y : Meaning) → Alike x y → Same (fraction_in x) (fraction_in y)
fraction_same (fraction a) (fraction b) h = same_used a b h
fraction_same x y h = subst (λ z. Same (fraction_in x) (fraction_in z)) h (same_refl (fraction_in x))

pub fraction_proper : (x : Meaning) → IsProper x → 0 < (fraction_in x).1
fraction_proper (fraction a) p = p
fraction_proper (finite v) p = omega arith
fraction_proper (whole n) p = omega arith
fraction_proper (weights d) p = omega arith

pub of_fractions : (a b : Fraction) → Same a b → Alike (fraction a) (fraction b)
of_fractions a b h = same_made a b h

pub scaled_alike : (k : ℕ) (x y : Meaning) → Alike x y → Alike (scaled k x) (scaled k y)
scaled_alike k (fraction a) (fraction b) h = h
scaled_alike k x y h = alike_of (scaled k x) (scaled k y) (ap (scaled k) h)

pub negated_alike : (x y : Meaning) → Alike x y → Alike (negated x) (negated y)
negated_alike (fraction a) (fraction b) h = same_made (opposite a) (opposite b) (same_opposite a b (same_used a b h))
negated_alike x y h = alike_of (negated x) (negated y) (ap negated h)

-- comparisons

pub equal_first : (x y z : Meaning) → IsProper x → IsProper y → IsProper z → Alike x y → same x z ≡ same y z
equal_first (fraction a) (fraction b) (fraction c) p q r h = same_same a c b c p r q r (same_used a b h) (same_refl c)
equal_first (fraction a) (fraction b) (finite v) p q r h = refl
equal_first (fraction a) (fraction b) (whole n) p q r h = refl
equal_first (fraction a) (fraction b) (weights d) p q r h = refl
equal_first (fraction a) (finite v) z p q r h = cc
equal_first (fraction a) (whole n) z p q r h = cc
equal_first (fraction a) (weights d) z p q r h = cc
equal_first (finite v) y z p q r h = ap (λ w. same w z) h
equal_first (whole n) y z p q r h = ap (λ w. same w z) h
equal_first (weights d) y z p q r h = ap (λ w. same w z) h

pub equal_second : (x y z : Meaning) → IsProper x → IsProper y → IsProper z → Alike x y → same z x ≡ same z y
equal_second (fraction a) (fraction b) (fraction c) p q r h = same_same c a c b r p r q (same_refl c) (same_used a b h)
equal_second (fraction a) (fraction b) (finite v) p q r h = refl
equal_second (fraction a) (fraction b) (whole n) p q r h = refl
equal_second (fraction a) (fraction b) (weights d) p q r h = refl
equal_second (fraction a) (finite v) z p q r h = cc
equal_second (fraction a) (whole n) z p q r h = cc
equal_second (fraction a) (weights d) z p q r h = cc
equal_second (finite v) y z p q r h = ap (λ w. same z w) h
equal_second (whole n) y z p q r h = ap (λ w. same z w) h
equal_second (weights d) y z p q r h = ap (λ w. same z w) h

pub equal_alike : (x y z w : Meaning) → IsProper x → IsProper y → IsProper z → IsProper w → Alike x y → Alike z w → same x z ≡ same y w
equal_alike x y z w p q r s h k = equal_first x y z p q r h ∙ equal_second z w y r s q k

pub less_first : (x y z : Meaning) → IsProper x → IsProper y → IsProper z → Alike x y → less x z ≡ less y z
less_first (fraction a) (fraction b) (fraction c) p q r h = same_below a c b c p r q r (same_used a b h) (same_refl c)
less_first (fraction a) (fraction b) (finite v) p q r h = refl
less_first (fraction a) (fraction b) (whole n) p q r h = refl
less_first (fraction a) (fraction b) (weights d) p q r h = refl
less_first (fraction a) (finite v) z p q r h = cc
less_first (fraction a) (whole n) z p q r h = cc
less_first (fraction a) (weights d) z p q r h = cc
less_first (finite v) y z p q r h = ap (λ w. less w z) h
less_first (whole n) y z p q r h = ap (λ w. less w z) h
less_first (weights d) y z p q r h = ap (λ w. less w z) h

pub less_second : (x y z : Meaning) → IsProper x → IsProper y → IsProper z → Alike x y → less z x ≡ less z y
less_second (fraction a) (fraction b) (fraction c) p q r h = same_below c a c b r p r q (same_refl c) (same_used a b h)
less_second (fraction a) (fraction b) (finite v) p q r h = refl
less_second (fraction a) (fraction b) (whole n) p q r h = refl
less_second (fraction a) (fraction b) (weights d) p q r h = refl
less_second (fraction a) (finite v) z p q r h = cc
less_second (fraction a) (whole n) z p q r h = cc
less_second (fraction a) (weights d) z p q r h = cc
less_second (finite v) y z p q r h = ap (λ w. less z w) h
less_second (whole n) y z p q r h = ap (λ w. less z w) h
less_second (weights d) y z p q r h = ap (λ w. less z w) h

pub less_alike : (x y z w : Meaning) → IsProper x → IsProper y → IsProper z → IsProper w → Alike x y → Alike z w → less x z ≡ less y w
less_alike x y z w p q r s h k = less_first x y z p q r h ∙ less_second z w y r s q k

pub most_first : (x y z : Meaning) → IsProper x → IsProper y → IsProper z → Alike x y → at_most x z ≡ at_most y z
most_first (fraction a) (fraction b) (fraction c) p q r h = same_at_most a c b c p r q r (same_used a b h) (same_refl c)
most_first (fraction a) (fraction b) (finite v) p q r h = refl
most_first (fraction a) (fraction b) (whole n) p q r h = refl
most_first (fraction a) (fraction b) (weights d) p q r h = refl
most_first (fraction a) (finite v) z p q r h = cc
most_first (fraction a) (whole n) z p q r h = cc
most_first (fraction a) (weights d) z p q r h = cc
most_first (finite v) y z p q r h = ap (λ w. at_most w z) h
most_first (whole n) y z p q r h = ap (λ w. at_most w z) h
most_first (weights d) y z p q r h = ap (λ w. at_most w z) h

pub most_second : (x y z : Meaning) → IsProper x → IsProper y → IsProper z → Alike x y → at_most z x ≡ at_most z y
most_second (fraction a) (fraction b) (fraction c) p q r h = same_at_most c a c b r p r q (same_refl c) (same_used a b h)
most_second (fraction a) (fraction b) (finite v) p q r h = refl
most_second (fraction a) (fraction b) (whole n) p q r h = refl
most_second (fraction a) (fraction b) (weights d) p q r h = refl
most_second (fraction a) (finite v) z p q r h = cc
most_second (fraction a) (whole n) z p q r h = cc
most_second (fraction a) (weights d) z p q r h = cc
most_second (finite v) y z p q r h = ap (λ w. at_most z w) h
most_second (whole n) y z p q r h = ap (λ w. at_most z w) h
most_second (weights d) y z p q r h = ap (λ w. at_most z w) h

pub most_alike : (x y z w : Meaning) → IsProper x → IsProper y → IsProper z → IsProper w → Alike x y → Alike z w → at_most x z ≡ at_most y w
most_alike x y z w p q r s h k = most_first x y z p q r h ∙ most_second z w y r s q k

-- sums, differences and products

pub sum_first : (t : Ty) (x y z : Meaning) → Alike x y → Alike (sum_at t x z) (sum_at t y z)
sum_first t (fraction a) (fraction b) (fraction c) h = same_made (plus a c) (plus b c) (same_plus a c b c (same_used a b h) (same_refl c))
sum_first t (fraction a) (fraction b) (finite v) h = refl
sum_first t (fraction a) (fraction b) (whole n) h = refl
sum_first t (fraction a) (fraction b) (weights d) h = refl
sum_first t (fraction a) (finite v) z h = cc
sum_first t (fraction a) (whole n) z h = cc
sum_first t (fraction a) (weights d) z h = cc
sum_first t (finite v) y z h = alike_of (sum_at t (finite v) z) (sum_at t y z) (ap (λ w. sum_at t w z) h)
sum_first t (whole n) y z h = alike_of (sum_at t (whole n) z) (sum_at t y z) (ap (λ w. sum_at t w z) h)
sum_first t (weights d) y z h = alike_of (sum_at t (weights d) z) (sum_at t y z) (ap (λ w. sum_at t w z) h)

pub sum_second : (t : Ty) (x y z : Meaning) → Alike x y → Alike (sum_at t z x) (sum_at t z y)
sum_second t (fraction a) (fraction b) (fraction c) h = same_made (plus c a) (plus c b) (same_plus c a c b (same_refl c) (same_used a b h))
sum_second t (fraction a) (fraction b) (finite v) h = refl
sum_second t (fraction a) (fraction b) (whole n) h = refl
sum_second t (fraction a) (fraction b) (weights d) h = refl
sum_second t (fraction a) (finite v) z h = cc
sum_second t (fraction a) (whole n) z h = cc
sum_second t (fraction a) (weights d) z h = cc
sum_second t (finite v) y z h = alike_of (sum_at t z (finite v)) (sum_at t z y) (ap (λ w. sum_at t z w) h)
sum_second t (whole n) y z h = alike_of (sum_at t z (whole n)) (sum_at t z y) (ap (λ w. sum_at t z w) h)
sum_second t (weights d) y z h = alike_of (sum_at t z (weights d)) (sum_at t z y) (ap (λ w. sum_at t z w) h)

sum_proper : (t : Ty) (x y : Meaning) → IsProper x → IsProper y → IsProper (sum_at t x y)
sum_proper t (fraction a) (fraction b) p q = mul-pos p q
sum_proper t (whole m) (whole n) p q = tt
sum_proper t (whole m) (fraction b) p q = tt
sum_proper t (whole m) (finite v) p q = tt
sum_proper t (whole m) (weights d) p q = tt
sum_proper t (fraction a) (whole n) p q = tt
sum_proper t (fraction a) (finite v) p q = tt
sum_proper t (fraction a) (weights d) p q = tt
sum_proper t (finite v) y p q = tt
sum_proper t (weights d) y p q = tt

pub sum_alike : (t : Ty) (x y z w : Meaning) → IsProper y → IsProper z → Alike x y → Alike z w → Alike (sum_at t x z) (sum_at t y w)
sum_alike t x y z w p q h k = alike_then (sum_at t x z) (sum_at t y z) (sum_at t y w) (sum_proper t y z p q) (sum_first t x y z h) (sum_second t z w y k)

pub difference_first : (t : Ty) (x y z : Meaning) → Alike x y → Alike (difference_at t x z) (difference_at t y z)
difference_first t (fraction a) (fraction b) (fraction c) h = same_made (minus a c) (minus b c) (same_minus a c b c (same_used a b h) (same_refl c))
difference_first t (fraction a) (fraction b) (finite v) h = refl
difference_first t (fraction a) (fraction b) (whole n) h = refl
difference_first t (fraction a) (fraction b) (weights d) h = refl
difference_first t (fraction a) (finite v) z h = cc
difference_first t (fraction a) (whole n) z h = cc
difference_first t (fraction a) (weights d) z h = cc
difference_first t (finite v) y z h = alike_of (difference_at t (finite v) z) (difference_at t y z) (ap (λ w. difference_at t w z) h)
difference_first t (whole n) y z h = alike_of (difference_at t (whole n) z) (difference_at t y z) (ap (λ w. difference_at t w z) h)
difference_first t (weights d) y z h = alike_of (difference_at t (weights d) z) (difference_at t y z) (ap (λ w. difference_at t w z) h)

pub difference_second : (t : Ty) (x y z : Meaning) → Alike x y → Alike (difference_at t z x) (difference_at t z y)
difference_second t (fraction a) (fraction b) (fraction c) h = same_made (minus c a) (minus c b) (same_minus c a c b (same_refl c) (same_used a b h))
difference_second t (fraction a) (fraction b) (finite v) h = refl
difference_second t (fraction a) (fraction b) (whole n) h = refl
difference_second t (fraction a) (fraction b) (weights d) h = refl
difference_second t (fraction a) (finite v) z h = cc
difference_second t (fraction a) (whole n) z h = cc
difference_second t (fraction a) (weights d) z h = cc
difference_second t (finite v) y z h = alike_of (difference_at t z (finite v)) (difference_at t z y) (ap (λ w. difference_at t z w) h)
difference_second t (whole n) y z h = alike_of (difference_at t z (whole n)) (difference_at t z y) (ap (λ w. difference_at t z w) h)
difference_second t (weights d) y z h = alike_of (difference_at t z (weights d)) (difference_at t z y) (ap (λ w. difference_at t z w) h)

difference_proper : (t : Ty) (x y : Meaning) → IsProper x → IsProper y → IsProper (difference_at t x y)
difference_proper t (fraction a) (fraction b) p q = mul-pos p q
difference_proper t (whole m) (whole n) p q = tt
difference_proper t (whole m) (fraction b) p q = tt
difference_proper t (whole m) (finite v) p q = tt
difference_proper t (whole m) (weights d) p q = tt
difference_proper t (fraction a) (whole n) p q = tt
difference_proper t (fraction a) (finite v) p q = tt
difference_proper t (fraction a) (weights d) p q = tt
difference_proper t (finite v) y p q = tt
difference_proper t (weights d) y p q = tt

pub difference_alike : (t : Ty) (x y z w : Meaning) → IsProper y → IsProper z → Alike x y → Alike z w → Alike (difference_at t x z) (difference_at t y w)
difference_alike t x y z w p q h k = alike_then (difference_at t x z) (difference_at t y z) (difference_at t y w) (difference_proper t y z p q) (difference_first t x y z h) (difference_second t z w y k)

pub product_first : (t : Ty) (x y z : Meaning) → Alike x y → Alike (product_at t x z) (product_at t y z)
product_first t (fraction a) (fraction b) (fraction c) h = same_made (times a c) (times b c) (same_times a c b c (same_used a b h) (same_refl c))
product_first t (fraction a) (fraction b) (finite v) h = refl
product_first t (fraction a) (fraction b) (whole n) h = refl
product_first t (fraction a) (fraction b) (weights d) h = refl
product_first t (fraction a) (finite v) z h = cc
product_first t (fraction a) (whole n) z h = cc
product_first t (fraction a) (weights d) z h = cc
product_first t (finite v) y z h = alike_of (product_at t (finite v) z) (product_at t y z) (ap (λ w. product_at t w z) h)
product_first t (whole n) y z h = alike_of (product_at t (whole n) z) (product_at t y z) (ap (λ w. product_at t w z) h)
product_first t (weights d) y z h = alike_of (product_at t (weights d) z) (product_at t y z) (ap (λ w. product_at t w z) h)

pub product_second : (t : Ty) (x y z : Meaning) → Alike x y → Alike (product_at t z x) (product_at t z y)
product_second t (fraction a) (fraction b) (fraction c) h = same_made (times c a) (times c b) (same_times c a c b (same_refl c) (same_used a b h))
product_second t (fraction a) (fraction b) (finite v) h = refl
product_second t (fraction a) (fraction b) (whole n) h = refl
product_second t (fraction a) (fraction b) (weights d) h = refl
product_second t (fraction a) (finite v) z h = cc
product_second t (fraction a) (whole n) z h = cc
product_second t (fraction a) (weights d) z h = cc
product_second t (finite v) y z h = alike_of (product_at t z (finite v)) (product_at t z y) (ap (λ w. product_at t z w) h)
product_second t (whole n) y z h = alike_of (product_at t z (whole n)) (product_at t z y) (ap (λ w. product_at t z w) h)
product_second t (weights d) y z h = alike_of (product_at t z (weights d)) (product_at t z y) (ap (λ w. product_at t z w) h)

product_proper : (t : Ty) (x y : Meaning) → IsProper x → IsProper y → IsProper (product_at t x y)
product_proper t (fraction a) (fraction b) p q = mul-pos p q
product_proper t (whole m) (whole n) p q = tt
product_proper t (whole m) (fraction b) p q = tt
product_proper t (whole m) (finite v) p q = tt
product_proper t (whole m) (weights d) p q = tt
product_proper t (fraction a) (whole n) p q = tt
product_proper t (fraction a) (finite v) p q = tt
product_proper t (fraction a) (weights d) p q = tt
product_proper t (finite v) y p q = tt
product_proper t (weights d) y p q = tt

pub product_alike : (t : Ty) (x y z w : Meaning) → IsProper y → IsProper z → Alike x y → Alike z w → Alike (product_at t x z) (product_at t y w)
product_alike t x y z w p q h k = alike_then (product_at t x z) (product_at t y z) (product_at t y w) (product_proper t y z p q) (product_first t x y z h) (product_second t z w y k)

pub quotient_alike : (x y z w : Meaning) → IsProper z → IsProper w → Alike x y → Alike z w → Alike (fraction (quotient (fraction_in x) (fraction_in z))) (fraction (quotient (fraction_in y) (fraction_in w)))
quotient_alike x y z w p q h k =
    same_made (quotient (fraction_in x) (fraction_in z)) (quotient (fraction_in y) (fraction_in w))
    (same_quotient (fraction_in x) (fraction_in z) (fraction_in y) (fraction_in w) (fraction_proper z p) (fraction_proper w q) (fraction_same x y h) (fraction_same z w k))

pub absolute_alike : (x y : Meaning) → IsProper x → IsProper y → Alike x y → Alike (fraction (absolute (fraction_in x))) (fraction (absolute (fraction_in y)))
absolute_alike x y p q h =
    same_made (absolute (fraction_in x)) (absolute (fraction_in y)) (same_absolute (fraction_in x) (fraction_in y) (fraction_proper x p) (fraction_proper y q) (fraction_same x y h))
