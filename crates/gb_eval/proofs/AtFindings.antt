-- Operators at what their arguments come to, and at what these mean.
use Rattle.std.proofs.Common.{◌≡◌, ℕ, zero, suc, pred, ◌+◌, ◌-◌, ◌*◌, ◌%◌, ◌<◌, Bool, true, false, not, ◌==◌, nat_lt, nat_le, bit_xor, ℤ, pos, negsuc, ◌-ℤ◌, neg_ℤ, int_lt, is_lt, is_le, is_eq, nat_cmp, cond, List, [], ◌∷◌, get_or, refl, sym, ap, ◌∙◌, subst, arith}
use Rattle.std.specs.declared.cmp.Ordering.TheVariants.{Less, Equal, Greater}
use Rattle.std.proofs.lemmas.Bool.{and_parts}
use Rattle.std.proofs.lemmas.Bool.Decides.{Decides-eqb, nat_tests}
use Rattle.std.proofs.lemmas.Int.{ints}
use Rattle.gb_core.specs.declared.ty.Ty.{Ty}
use Rattle.gb_core.specs.declared.ty.Ty.TheVariants as ty
use Rattle.gb_core.specs.declared.value.Value.{Value}
use Rattle.gb_core.specs.declared.value.Value.TheVariants.{Num, Many, Many'}
use Rattle.gb_core.specs.declared.value.Card.{Card}
use Rattle.gb_core.specs.declared.value.Card.TheVariants.{Exact, Above}
use Rattle.gb_core.specs.Numbering.{parts_of, number_of, first_or}
use Rattle.gb_core.specs.Types.{card_of}
use Rattle.gb_terms.specs.declared.op.Op.{Op}
use Rattle.gb_terms.specs.declared.op.Op.TheVariants as op
use Rattle.gb_dist.specs.WeightedList.{unit}
use Rattle.gb_dist.specs.Fractions.{Fraction, IsSame, plus, minus, times, over, absolute, of_whole, reduced}
use Rattle.gb_dist.specs.Fractions as fractions
use Rattle.gb_dist.specs.Operations.{Operation, is_small, product_of, sum_of, difference_of, crossings, plus_steps, minus_steps, times_steps, over_steps}
use Rattle.gb_meaning.specs.Setting.{Meaning}
use Rattle.gb_meaning.specs.Setting.{Meaning as meaning}
use Rattle.gb_meaning.specs.Values.{Types, values}
use Rattle.gb_meaning.specs.Fractions as mf
use Rattle.gb_meaning.specs.Meanings as m
use Rattle.gb_meaning.specs.Operators as o
use Rattle.gb_meaning.specs.Operators.{Argument, denominator_at, outcome_type, entry_of, is_none}
use Rattle.gb_meaning.specs.Distributions as distributions
use Rattle.gb_eval.specs.Findings.{Finding, Comes, ◌>>=◌, after, of_truth, truth_in, value_in}
use Rattle.gb_eval.specs.Findings.Finding.{value, whole, fraction, table}
use Rattle.gb_eval.specs.Findings.Comes.{found, unknown, overflow}
use Rattle.gb_eval.specs.Operators.{whole_at, is_divisor, fraction_at, number_at, arithmetic, order, same, zero_fraction, opposite, as_fraction, absolute_of, part, first_among, opened, nullary, unary, weight_of, probability, in_support, paired, looked_up, in_map, binary}
use Rattle.gb_eval.specs.Meant.{IsFraction, IsFound, Means}
use Rattle.gb_eval.proofs.Truths.{IsTruth, then_finds, after_finds, if_finds, finds_means, number_is, truth_meant, of_truth_meant, answer_meant}
use Rattle.gb_eval.proofs.Tables.{chance_meant, weight_meant, product_same, exact, uniform_meant}
use Rattle.gb_eval.proofs.Fractions.{above_product, same_plus, same_minus, same_times, same_opposite, same_absolute, same_over, same_order, lt_of_cmp, le_of_cmp, reduced_meant}

-- at what two meanings are equal to
at_both : (P : Meaning → Meaning → Type 0) (a b c d : Meaning) → a ≡ c → b ≡ d → P c d → P a b
at_both P a b c d p q x = subst (λ z. P z b) (sym p) (subst (λ z. P c z) (sym q) x)

at_one : (P : Meaning → Type 0) (a c : Meaning) → a ≡ c → P c → P a
at_one P a c p x = subst P (sym p) x

quotient_above : (a b : Fraction) → 0 < a.1 → 0 < (mf.quotient a b).1
quotient_above a (pos (suc n), d) g = above_product a.1 (suc n) g (omega arith)
quotient_above a (pos zero, d) g = omega arith
quotient_above a (negsuc n, d) g = omega arith

-- what an operation on whole numbers gives
whole_meant : (p : Operation) (k : ℕ) → Means (after (p ∷ []) (whole p.result)) (meaning.whole p.result) k
whole_meant p k = finds_means (after (p ∷ []) (whole p.result)) (meaning.whole p.result) k (after_finds (λ f. IsFound f (meaning.whole p.result) k) (p ∷ []) (whole p.result) refl)

module _ (t : Ty) (k : ℕ) where
  plus_meant : (x y : Finding) (a b : Meaning) (i j : ℕ) → IsFound x a i → IsFound y b j → Means (arithmetic op.Plus t x y) (o.sum_at t a b) k
  plus_meant (whole p) (whole q) a b i j h l = at_both (λ c d. Means (arithmetic op.Plus t (whole p) (whole q)) (o.sum_at t c d) k) a b _ _ h l (whole_meant (sum_of p q) k)
  plus_meant (fraction p) (fraction q) a b i j h l =
      at_both (λ c d. Means (arithmetic op.Plus t (fraction p) (fraction q)) (o.sum_at t c d) k) a b _ _ h.is l.is
      (finds_means _ _ k (after_finds (λ f. IsFound f _ k) (plus_steps p q) _ (reduced_meant (plus p q) (mf.plus h.meant l.meant) (above_product _ _ h.found_above l.found_above) (above_product _ _ h.above l.above) (same_plus p h.meant q l.meant h.same l.same))))
  plus_meant (value (Num p)) (value (Num q)) a b i j h l =
      at_both (λ c d. Means (number_at op.Plus t p q) (o.sum_at t c d) k) a b _ _ h l (at_type t)
    where
      at_type : (u : Ty) → Means (number_at op.Plus u p q) (m.of_number ((number_of (Num p) + number_of (Num q)) % o.modulus u)) k
      at_type (ty.Mod n) = finds_means _ _ k (if_finds (λ f. IsFound f _ k) (nat_lt 0 n) _ (λ e. ap m.of_number (λ i. (number_is p i + number_is q i) % n)))
      at_type _ = tt
  plus_meant (value (Num p2)) (value (Many' n r)) a b i j h l = tt
  plus_meant (value (Many' n r)) (value w) a b i j h l = tt
  plus_meant (value v) (whole w) a b i j h l = tt
  plus_meant (value v) (fraction w) a b i j h l = tt
  plus_meant (value v) (table o2 w) a b i j h l = tt
  plus_meant (whole v) (value w) a b i j h l = tt
  plus_meant (whole v) (fraction w) a b i j h l = tt
  plus_meant (whole v) (table o2 w) a b i j h l = tt
  plus_meant (fraction v) (value w) a b i j h l = tt
  plus_meant (fraction v) (whole w) a b i j h l = tt
  plus_meant (fraction v) (table o2 w) a b i j h l = tt
  plus_meant (table n v) (value w) a b i j h l = tt
  plus_meant (table n v) (whole w) a b i j h l = tt
  plus_meant (table n v) (fraction w) a b i j h l = tt
  plus_meant (table n v) (table o2 w) a b i j h l = tt

  minus_meant : (x y : Finding) (a b : Meaning) (i j : ℕ) → IsFound x a i → IsFound y b j → Means (arithmetic op.Minus t x y) (o.difference_at t a b) k
  minus_meant (whole p) (whole q) a b i j h l = at_both (λ c d. Means (arithmetic op.Minus t (whole p) (whole q)) (o.difference_at t c d) k) a b _ _ h l (whole_meant (difference_of p q) k)
  minus_meant (fraction p) (fraction q) a b i j h l =
      at_both (λ c d. Means (arithmetic op.Minus t (fraction p) (fraction q)) (o.difference_at t c d) k) a b _ _ h.is l.is
      (finds_means _ _ k (after_finds (λ f. IsFound f _ k) (minus_steps p q) _ (reduced_meant (minus p q) (mf.minus h.meant l.meant) (above_product _ _ h.found_above l.found_above) (above_product _ _ h.above l.above) (same_minus p h.meant q l.meant h.same l.same))))
  minus_meant (value (Num p)) (value (Num q)) a b i j h l =
      at_both (λ c d. Means (number_at op.Minus t p q) (o.difference_at t c d) k) a b _ _ h l (at_type t)
    where
      at_type : (u : Ty) → Means (number_at op.Minus u p q) (m.of_number ((number_of (Num p) + (o.modulus u - number_of (Num q))) % o.modulus u)) k
      at_type (ty.Mod n) = finds_means _ _ k (if_finds (λ f. IsFound f _ k) (nat_lt 0 n) _ (λ e. ap m.of_number (λ i. (number_is p i + (n - number_is q i)) % n)))
      at_type _ = tt
  minus_meant (value (Num p2)) (value (Many' n r)) a b i j h l = tt
  minus_meant (value (Many' n r)) (value w) a b i j h l = tt
  minus_meant (value v) (whole w) a b i j h l = tt
  minus_meant (value v) (fraction w) a b i j h l = tt
  minus_meant (value v) (table o2 w) a b i j h l = tt
  minus_meant (whole v) (value w) a b i j h l = tt
  minus_meant (whole v) (fraction w) a b i j h l = tt
  minus_meant (whole v) (table o2 w) a b i j h l = tt
  minus_meant (fraction v) (value w) a b i j h l = tt
  minus_meant (fraction v) (whole w) a b i j h l = tt
  minus_meant (fraction v) (table o2 w) a b i j h l = tt
  minus_meant (table n v) (value w) a b i j h l = tt
  minus_meant (table n v) (whole w) a b i j h l = tt
  minus_meant (table n v) (fraction w) a b i j h l = tt
  minus_meant (table n v) (table o2 w) a b i j h l = tt

  times_meant : (x y : Finding) (a b : Meaning) (i j : ℕ) → IsFound x a i → IsFound y b j → Means (arithmetic op.Times t x y) (o.product_at t a b) k
  times_meant (whole p) (whole q) a b i j h l = at_both (λ c d. Means (arithmetic op.Times t (whole p) (whole q)) (o.product_at t c d) k) a b _ _ h l (whole_meant (product_of p q) k)
  times_meant (fraction p) (fraction q) a b i j h l =
      at_both (λ c d. Means (arithmetic op.Times t (fraction p) (fraction q)) (o.product_at t c d) k) a b _ _ h.is l.is
      (finds_means _ _ k (after_finds (λ f. IsFound f _ k) (times_steps p q) _ (reduced_meant (times p q) (mf.times h.meant l.meant) (above_product _ _ h.found_above l.found_above) (above_product _ _ h.above l.above) (same_times p h.meant q l.meant h.same l.same))))
  times_meant (value (Num p)) (value (Num q)) a b i j h l =
      at_both (λ c d. Means (number_at op.Times t p q) (o.product_at t c d) k) a b _ _ h l (at_type t)
    where
      at_type : (u : Ty) → Means (number_at op.Times u p q) (m.of_number ((number_of (Num p) * number_of (Num q)) % o.modulus u)) k
      at_type (ty.Mod n) = finds_means _ _ k (if_finds (λ f. IsFound f _ k) (nat_lt 0 n) _ (λ e. ap m.of_number (λ i. (number_is p i * number_is q i) % n)))
      at_type _ = tt
  times_meant (value (Num p2)) (value (Many' n r)) a b i j h l = tt
  times_meant (value (Many' n r)) (value w) a b i j h l = tt
  times_meant (value v) (whole w) a b i j h l = tt
  times_meant (value v) (fraction w) a b i j h l = tt
  times_meant (value v) (table o2 w) a b i j h l = tt
  times_meant (whole v) (value w) a b i j h l = tt
  times_meant (whole v) (fraction w) a b i j h l = tt
  times_meant (whole v) (table o2 w) a b i j h l = tt
  times_meant (fraction v) (value w) a b i j h l = tt
  times_meant (fraction v) (whole w) a b i j h l = tt
  times_meant (fraction v) (table o2 w) a b i j h l = tt
  times_meant (table n v) (value w) a b i j h l = tt
  times_meant (table n v) (whole w) a b i j h l = tt
  times_meant (table n v) (fraction w) a b i j h l = tt
  times_meant (table n v) (table o2 w) a b i j h l = tt

  xor_meant : (x y : Finding) (a b : Meaning) (i j : ℕ) → IsFound x a i → IsFound y b j → Means (arithmetic op.Xor t x y) (m.of_number (bit_xor (m.number_in a) (m.number_in b))) k
  xor_meant (value (Num p)) (value (Num q)) a b i j h l =
      at_both (λ c d. Means (number_at op.Xor t p q) (m.of_number (bit_xor (m.number_in c) (m.number_in d))) k) a b _ _ h l (ap m.of_number (λ i. bit_xor (number_is p i) (number_is q i)))
  xor_meant (value (Num p2)) (value (Many' n r)) a b i j h l = tt
  xor_meant (value (Many' n r)) (value w) a b i j h l = tt
  xor_meant (value v) (whole w) a b i j h l = tt
  xor_meant (value v) (fraction w) a b i j h l = tt
  xor_meant (value v) (table o2 w) a b i j h l = tt
  xor_meant (whole v) (value w) a b i j h l = tt
  xor_meant (whole v) (whole w) a b i j h l = tt
  xor_meant (whole v) (fraction w) a b i j h l = tt
  xor_meant (whole v) (table o2 w) a b i j h l = tt
  xor_meant (fraction v) (value w) a b i j h l = tt
  xor_meant (fraction v) (whole w) a b i j h l = tt
  xor_meant (fraction v) (fraction w) a b i j h l = tt
  xor_meant (fraction v) (table o2 w) a b i j h l = tt
  xor_meant (table n v) (value w) a b i j h l = tt
  xor_meant (table n v) (whole w) a b i j h l = tt
  xor_meant (table n v) (fraction w) a b i j h l = tt
  xor_meant (table n v) (table o2 w) a b i j h l = tt

  divide_meant : (x y : Finding) (a b : Meaning) (i j : ℕ) → IsFound x a i → IsFound y b j → Means (arithmetic op.Divide t x y) (meaning.fraction (mf.quotient (m.fraction_in a) (m.fraction_in b))) k
  divide_meant (fraction p) (fraction q) a b i j h l =
      at_both (λ c d. Means (arithmetic op.Divide t (fraction p) (fraction q)) (meaning.fraction (mf.quotient (m.fraction_in c) (m.fraction_in d))) k) a b _ _ h.is l.is
      (finds_means _ _ k (if_finds (λ f. IsFound f _ k) (is_divisor q) _ (λ e. after_finds (λ f. IsFound f _ k) (over_steps p q.0) _ (by q.0 q.1 l.same (and_parts (q.1 == 1) (int_lt (pos 0) q.0) e)))))
    where
      by : (n : ℤ) (d : ℕ) → IsSame (n, d) l.meant → ((d == 1) ≡ true) × (int_lt (pos 0) n ≡ true) → IsFraction (reduced (over p n)) (meaning.fraction (mf.quotient h.meant l.meant))
      by (pos zero) d s e = absurd (let u = e.1 in omega (arith, ints))
      by (negsuc n) d s e = absurd (let u = e.1 in omega (arith, ints))
      by (pos (suc n)) d s e =
          let one : d ≡ 1 = (Decides-eqb d 1).0 e.0 in
          let q1 : IsSame (pos (suc n), 1) l.meant = subst (λ z. IsSame (pos (suc n), z) l.meant) one s in
          reduced_meant (over p (pos (suc n))) (mf.quotient h.meant l.meant) (above_product _ _ h.found_above (omega arith)) (quotient_above h.meant l.meant h.above) (same_over p h.meant l.meant n h.same l.above q1)
  divide_meant (value (Num p2)) (value (Num q2)) a b i j h l = tt
  divide_meant (value (Num p2)) (value (Many' n r)) a b i j h l = tt
  divide_meant (value (Many' n r)) (value w) a b i j h l = tt
  divide_meant (value v) (whole w) a b i j h l = tt
  divide_meant (value v) (fraction w) a b i j h l = tt
  divide_meant (value v) (table o2 w) a b i j h l = tt
  divide_meant (whole v) (value w) a b i j h l = tt
  divide_meant (whole v) (whole w) a b i j h l = tt
  divide_meant (whole v) (fraction w) a b i j h l = tt
  divide_meant (whole v) (table o2 w) a b i j h l = tt
  divide_meant (fraction v) (value w) a b i j h l = tt
  divide_meant (fraction v) (whole w) a b i j h l = tt
  divide_meant (fraction v) (table o2 w) a b i j h l = tt
  divide_meant (table n v) (value w) a b i j h l = tt
  divide_meant (table n v) (whole w) a b i j h l = tt
  divide_meant (table n v) (fraction w) a b i j h l = tt
  divide_meant (table n v) (table o2 w) a b i j h l = tt

-- an operator that is none of arithmetic comes to nothing
not_arithmetic : (p : Op) (t : Ty) (x y : Finding) (a : Meaning) (k : ℕ) → ((i j : ℤ) → whole_at p i j ≡ unknown) → ((i j : Fraction) → fraction_at p i j ≡ unknown) → ((i j : ℕ) → number_at p t i j ≡ unknown) → Means (arithmetic p t x y) a k
not_arithmetic p t (whole i) (whole j) a k f g h = subst (λ c. Means c a k) (sym (f i j)) tt
not_arithmetic p t (fraction i) (fraction j) a k f g h = subst (λ c. Means c a k) (sym (g i j)) tt
not_arithmetic p t (value (Num i)) (value (Num j)) a k f g h = subst (λ c. Means c a k) (sym (h i j)) tt
not_arithmetic p t (value (Num p2)) (value (Many' n r)) a k f g h = tt
not_arithmetic p t (value (Many' n r)) (value w) a k f g h = tt
not_arithmetic p t (value v) (whole w) a k f g h = tt
not_arithmetic p t (value v) (fraction w) a k f g h = tt
not_arithmetic p t (value v) (table o2 w) a k f g h = tt
not_arithmetic p t (whole v) (value w) a k f g h = tt
not_arithmetic p t (whole v) (fraction w) a k f g h = tt
not_arithmetic p t (whole v) (table o2 w) a k f g h = tt
not_arithmetic p t (fraction v) (value w) a k f g h = tt
not_arithmetic p t (fraction v) (whole w) a k f g h = tt
not_arithmetic p t (fraction v) (table o2 w) a k f g h = tt
not_arithmetic p t (table n v) (value w) a k f g h = tt
not_arithmetic p t (table n v) (whole w) a k f g h = tt
not_arithmetic p t (table n v) (fraction w) a k f g h = tt
not_arithmetic p t (table n v) (table o2 w) a k f g h = tt

-- tests

nat_lt_of_cmp : (p q : ℕ) → is_lt (nat_cmp p q) ≡ nat_lt p q
nat_lt_of_cmp p q = step (nat_lt p q) (p == q)
  where
    step : (a b : Bool) → is_lt (cond a Less (cond b Equal Greater)) ≡ a
    step true b = refl
    step false true = refl
    step false false = refl

nat_le_of_cmp : (p q : ℕ) → is_le (nat_cmp p q) ≡ nat_le p q
nat_le_of_cmp p q = step (nat_lt p q) (p == q) refl refl
  where
    step : (a b : Bool) → nat_lt p q ≡ a → (p == q) ≡ b → is_le (cond a Less (cond b Equal Greater)) ≡ nat_le p q
    step true b e f = grind (arith, nat_tests)
    step false true e f = grind (arith, nat_tests)
    step false false e f = grind (arith, nat_tests)

same_meant : (x y : Finding) (a b : Meaning) (i j : ℕ) → IsFound x a i → IsFound y b j → IsTruth (same x y) (m.same a b)
same_meant (value v) (value w) a b i j h l = at_both (λ c d. IsTruth (same (value v) (value w)) (m.same c d)) a b _ _ h l refl
same_meant (whole p) (whole q) a b i j h l = at_both (λ c d. IsTruth (same (whole p) (whole q)) (m.same c d)) a b _ _ h l refl
same_meant (fraction p) (fraction q) a b i j h l =
    at_both (λ c d. IsTruth (same (fraction p) (fraction q)) (m.same c d)) a b _ _ h.is l.is
    (after_finds (λ d. mf.is_same h.meant l.meant ≡ d) (crossings p q) _ (sym (ap is_eq (same_order p h.meant q l.meant h.found_above h.above l.found_above l.above h.same l.same))))
same_meant (value v) (whole w) a b i j h l = tt
same_meant (value v) (fraction w) a b i j h l = tt
same_meant (value v) (table o2 w) a b i j h l = tt
same_meant (whole v) (value w) a b i j h l = tt
same_meant (whole v) (fraction w) a b i j h l = tt
same_meant (whole v) (table o2 w) a b i j h l = tt
same_meant (fraction v) (value w) a b i j h l = tt
same_meant (fraction v) (whole w) a b i j h l = tt
same_meant (fraction v) (table o2 w) a b i j h l = tt
same_meant (table n v) (value w) a b i j h l = tt
same_meant (table n v) (whole w) a b i j h l = tt
same_meant (table n v) (fraction w) a b i j h l = tt
same_meant (table n v) (table o2 w) a b i j h l = tt

less_meant : (x y : Finding) (a b : Meaning) (i j : ℕ) → IsFound x a i → IsFound y b j → IsTruth (order x y >>= λ c. found (is_lt c)) (o.less a b)
less_meant (whole p) (whole q) a b i j h l = at_both (λ c d. IsTruth (order (whole p) (whole q) >>= λ c. found (is_lt c)) (o.less c d)) a b _ _ h l (sym (lt_of_cmp p q))
less_meant (fraction p) (fraction q) a b i j h l =
    at_both (λ c d. IsTruth (order (fraction p) (fraction q) >>= λ c. found (is_lt c)) (o.less c d)) a b _ _ h.is l.is
    (then_finds (λ c. fractions.order h.meant l.meant ≡ c) (λ d. o.less (meaning.fraction h.meant) (meaning.fraction l.meant) ≡ d) (order (fraction p) (fraction q)) (λ c. found (is_lt c))
    (after_finds (λ c. fractions.order h.meant l.meant ≡ c) (crossings p q) _ (sym (same_order p h.meant q l.meant h.found_above h.above l.found_above l.above h.same l.same)))
    (λ c e s. sym (lt_of_cmp (fractions.crossed h.meant l.meant) (fractions.crossed l.meant h.meant)) ∙ ap is_lt s))
less_meant (value (Num p)) (value (Num q)) a b i j h l = at_both (λ c d. IsTruth (order (value (Num p)) (value (Num q)) >>= λ c. found (is_lt c)) (o.less c d)) a b _ _ h l ((λ i. nat_lt (number_is p i) (number_is q i)) ∙ sym (nat_lt_of_cmp p q))
less_meant (value (Num p2)) (value (Many' n r)) a b i j h l = tt
less_meant (value (Many' n r)) (value w) a b i j h l = tt
less_meant (value v) (whole w) a b i j h l = tt
less_meant (value v) (fraction w) a b i j h l = tt
less_meant (value v) (table o2 w) a b i j h l = tt
less_meant (whole v) (value w) a b i j h l = tt
less_meant (whole v) (fraction w) a b i j h l = tt
less_meant (whole v) (table o2 w) a b i j h l = tt
less_meant (fraction v) (value w) a b i j h l = tt
less_meant (fraction v) (whole w) a b i j h l = tt
less_meant (fraction v) (table o2 w) a b i j h l = tt
less_meant (table n v) (value w) a b i j h l = tt
less_meant (table n v) (whole w) a b i j h l = tt
less_meant (table n v) (fraction w) a b i j h l = tt
less_meant (table n v) (table o2 w) a b i j h l = tt

at_most_meant : (x y : Finding) (a b : Meaning) (i j : ℕ) → IsFound x a i → IsFound y b j → IsTruth (order x y >>= λ c. found (is_le c)) (o.at_most a b)
at_most_meant (whole p) (whole q) a b i j h l = at_both (λ c d. IsTruth (order (whole p) (whole q) >>= λ c. found (is_le c)) (o.at_most c d)) a b _ _ h l (sym (le_of_cmp p q))
at_most_meant (fraction p) (fraction q) a b i j h l =
    at_both (λ c d. IsTruth (order (fraction p) (fraction q) >>= λ c. found (is_le c)) (o.at_most c d)) a b _ _ h.is l.is
    (then_finds (λ c. fractions.order h.meant l.meant ≡ c) (λ d. o.at_most (meaning.fraction h.meant) (meaning.fraction l.meant) ≡ d) (order (fraction p) (fraction q)) (λ c. found (is_le c))
    (after_finds (λ c. fractions.order h.meant l.meant ≡ c) (crossings p q) _ (sym (same_order p h.meant q l.meant h.found_above h.above l.found_above l.above h.same l.same)))
    (λ c e s. sym (le_of_cmp (fractions.crossed h.meant l.meant) (fractions.crossed l.meant h.meant)) ∙ ap is_le s))
at_most_meant (value (Num p)) (value (Num q)) a b i j h l = at_both (λ c d. IsTruth (order (value (Num p)) (value (Num q)) >>= λ c. found (is_le c)) (o.at_most c d)) a b _ _ h l ((λ i. nat_le (number_is p i) (number_is q i)) ∙ sym (nat_le_of_cmp p q))
at_most_meant (value (Num p2)) (value (Many' n r)) a b i j h l = tt
at_most_meant (value (Many' n r)) (value w) a b i j h l = tt
at_most_meant (value v) (whole w) a b i j h l = tt
at_most_meant (value v) (fraction w) a b i j h l = tt
at_most_meant (value v) (table o2 w) a b i j h l = tt
at_most_meant (whole v) (value w) a b i j h l = tt
at_most_meant (whole v) (fraction w) a b i j h l = tt
at_most_meant (whole v) (table o2 w) a b i j h l = tt
at_most_meant (fraction v) (value w) a b i j h l = tt
at_most_meant (fraction v) (whole w) a b i j h l = tt
at_most_meant (fraction v) (table o2 w) a b i j h l = tt
at_most_meant (table n v) (value w) a b i j h l = tt
at_most_meant (table n v) (whole w) a b i j h l = tt
at_most_meant (table n v) (fraction w) a b i j h l = tt
at_most_meant (table n v) (table o2 w) a b i j h l = tt

support_meant : (x y : Finding) (a b : Meaning) (i j : ℕ) → IsFound x a i → IsFound y b j → IsTruth (in_support x y) (nat_lt 0 (o.weight_of b a))
support_meant (value v) (table n d) a b i j h l = sym (ap (nat_lt 0) (weight_meant v n j d b l a h))
support_meant (value v) (value w) a b i j h l = tt
support_meant (value v) (whole w) a b i j h l = tt
support_meant (value v) (fraction w) a b i j h l = tt
support_meant (whole v) y a b i j h l = tt
support_meant (fraction v) y a b i j h l = tt
support_meant (table n d) y a b i j h l = tt

in_map_meant : (x y : Finding) (a b : Meaning) (i j : ℕ) → IsFound x a i → IsFound y b j → IsTruth (in_map x y) (not (is_none (entry_of (parts_of (m.value_in b)) (m.value_in a))))
in_map_meant (value v) (value w) a b i j h l = λ z. not (is_none (entry_of (parts_of (m.value_in (l z))) (m.value_in (h z))))
in_map_meant (value v) (table n d) a b i j h l = tt
in_map_meant (value v) (whole w) a b i j h l = tt
in_map_meant (value v) (fraction w) a b i j h l = tt
in_map_meant (whole v) y a b i j h l = tt
in_map_meant (fraction v) y a b i j h l = tt
in_map_meant (table n d) y a b i j h l = tt

negated_truth : (c : Comes Bool) (b : Bool) → IsTruth c b → IsTruth (c >>= λ a. found (not a)) (not b)
negated_truth (found a) b h = ap not h
negated_truth unknown b h = tt
negated_truth (overflow v) b h = tt

not_meant : (c : Comes Bool) (b : Bool) → IsTruth c b → Means (c >>= λ a. found (of_truth (not a))) (m.of_truth (not b)) 1
not_meant (found a) b h = of_truth_meant (not a) (not b) 1 (ap not h)
not_meant unknown b h = tt
not_meant (overflow v) b h = tt

-- values

looked_up_meant : (x y : Finding) (a b : Meaning) (i j k : ℕ) → IsFound x a i → IsFound y b j → Means (looked_up x y) (meaning.finite (Many (entry_of (parts_of (m.value_in a)) (m.value_in b)))) k
looked_up_meant (value v) (value w) a b i j k h l = λ z. meaning.finite (Many (entry_of (parts_of (m.value_in (h z))) (m.value_in (l z))))
looked_up_meant (value v) (table n d) a b i j k h l = tt
looked_up_meant (value v) (whole w) a b i j k h l = tt
looked_up_meant (value v) (fraction w) a b i j k h l = tt
looked_up_meant (whole v) y a b i j k h l = tt
looked_up_meant (fraction v) y a b i j k h l = tt
looked_up_meant (table n d) y a b i j k h l = tt

probability_meant : (x y : Finding) (a b : Meaning) (i j k : ℕ) → IsFound x a i → IsFound y b j → Means (probability x y) (meaning.fraction (pos (o.weight_of a b), i)) k
probability_meant (table n d) (value v) a b i j k h l = chance_meant (weight_of v d) (o.weight_of a b) n i k (weight_meant v n i d a h b l) h.total
probability_meant (value w) (value v) a b i j k h l = tt
probability_meant (whole w) (value v) a b i j k h l = tt
probability_meant (fraction w) (value v) a b i j k h l = tt
probability_meant x (whole w) a b i j k h l = tt
probability_meant x (fraction w) a b i j k h l = tt
probability_meant x (table n d) a b i j k h l = tt

paired_meant : (x y : Finding) (a b : Meaning) (i j : ℕ) → IsFound x a i → IsFound y b j → Means (paired x y) (meaning.weights (distributions.product (m.weights_in a) (m.weights_in b))) (i * j)
paired_meant (table n d) (table p e) a b i j h l =
    at_both (λ c s. Means (paired (table n d) (table p e)) (meaning.weights (distributions.product (m.weights_in c) (m.weights_in s))) (i * j)) a b _ _ h.is l.is
    (finds_means _ _ (i * j) (after_finds (λ f. IsFound f _ (i * j)) _ _ (record {
      meant = distributions.product h.meant l.meant;
      is = refl;
      same = product_same d e h.meant l.meant h.same l.same;
      total = λ z. h.total z * l.total z;
    })))
paired_meant (table n d) (value v) a b i j h l = tt
paired_meant (table n d) (whole v) a b i j h l = tt
paired_meant (table n d) (fraction v) a b i j h l = tt
paired_meant (value v) y a b i j h l = tt
paired_meant (whole v) y a b i j h l = tt
paired_meant (fraction v) y a b i j h l = tt

-- operators of two arguments

module _ (t : Types) (ty : Ty) where
  abbrev IsBinary : Op → Finding → Finding → Argument → Argument → Type 0
  IsBinary p x y a b = Means (binary p ty x y) (o.binary t p ty a b) (denominator_at t p ty (a.denominator ∷ b.denominator ∷ []))

  pub binary_meant : (p : Op) (x y : Finding) (a b : Argument) → IsFound x a.meaning a.denominator → IsFound y b.meaning b.denominator → IsBinary p x y a b
  binary_meant op.Equal x y a b h l = answer_meant _ _ 1 (same_meant x y a.meaning b.meaning _ _ h l)
  binary_meant op.NotEqual x y a b h l = answer_meant _ _ 1 (negated_truth (same x y) _ (same_meant x y a.meaning b.meaning _ _ h l))
  binary_meant op.Less x y a b h l = answer_meant _ _ 1 (less_meant x y a.meaning b.meaning _ _ h l)
  binary_meant op.AtMost x y a b h l = answer_meant _ _ 1 (at_most_meant x y a.meaning b.meaning _ _ h l)
  binary_meant op.InSupport x y a b h l = answer_meant _ _ 1 (support_meant x y a.meaning b.meaning _ _ h l)
  binary_meant op.InMap x y a b h l = answer_meant _ _ 1 (in_map_meant x y a.meaning b.meaning _ _ h l)
  binary_meant op.Plus x y a b h l = plus_meant ty 1 x y a.meaning b.meaning _ _ h l
  binary_meant op.Minus x y a b h l = minus_meant ty 1 x y a.meaning b.meaning _ _ h l
  binary_meant op.Times x y a b h l = times_meant ty 1 x y a.meaning b.meaning _ _ h l
  binary_meant op.Xor x y a b h l = xor_meant ty 1 x y a.meaning b.meaning _ _ h l
  binary_meant op.Divide x y a b h l = divide_meant ty 1 x y a.meaning b.meaning _ _ h l
  binary_meant op.Get x y a b h l = looked_up_meant x y a.meaning b.meaning _ _ 1 h l
  binary_meant op.Mu1 x y a b h l = probability_meant x y a.meaning b.meaning _ _ 1 h l
  binary_meant op.Product x y a b h l = paired_meant x y a.meaning b.meaning _ _ h l
  binary_meant op.Not x y a b h l = not_arithmetic op.Not ty x y _ _ (λ p q. refl) (λ p q. refl) (λ p q. refl)
  binary_meant op.And x y a b h l = not_arithmetic op.And ty x y _ _ (λ p q. refl) (λ p q. refl) (λ p q. refl)
  binary_meant op.Or x y a b h l = not_arithmetic op.Or ty x y _ _ (λ p q. refl) (λ p q. refl) (λ p q. refl)
  binary_meant op.Implies x y a b h l = not_arithmetic op.Implies ty x y _ _ (λ p q. refl) (λ p q. refl) (λ p q. refl)
  binary_meant op.Iff x y a b h l = not_arithmetic op.Iff ty x y _ _ (λ p q. refl) (λ p q. refl) (λ p q. refl)
  binary_meant op.Negate x y a b h l = not_arithmetic op.Negate ty x y _ _ (λ p q. refl) (λ p q. refl) (λ p q. refl)
  binary_meant op.ToReal x y a b h l = not_arithmetic op.ToReal ty x y _ _ (λ p q. refl) (λ p q. refl) (λ p q. refl)
  binary_meant op.Abs x y a b h l = not_arithmetic op.Abs ty x y _ _ (λ p q. refl) (λ p q. refl) (λ p q. refl)
  binary_meant op.If x y a b h l = not_arithmetic op.If ty x y _ _ (λ p q. refl) (λ p q. refl) (λ p q. refl)
  binary_meant op.Tuple x y a b h l = not_arithmetic op.Tuple ty x y _ _ (λ p q. refl) (λ p q. refl) (λ p q. refl)
  binary_meant (op.Part i) x y a b h l = not_arithmetic (op.Part i) ty x y _ _ (λ p q. refl) (λ p q. refl) (λ p q. refl)
  binary_meant op.Some x y a b h l = not_arithmetic op.Some ty x y _ _ (λ p q. refl) (λ p q. refl) (λ p q. refl)
  binary_meant op.None x y a b h l = not_arithmetic op.None ty x y _ _ (λ p q. refl) (λ p q. refl) (λ p q. refl)
  binary_meant op.Oget x y a b h l = not_arithmetic op.Oget ty x y _ _ (λ p q. refl) (λ p q. refl) (λ p q. refl)
  binary_meant op.Empty x y a b h l = not_arithmetic op.Empty ty x y _ _ (λ p q. refl) (λ p q. refl) (λ p q. refl)
  binary_meant op.Set x y a b h l = not_arithmetic op.Set ty x y _ _ (λ p q. refl) (λ p q. refl) (λ p q. refl)
  binary_meant op.Coin x y a b h l = not_arithmetic op.Coin ty x y _ _ (λ p q. refl) (λ p q. refl) (λ p q. refl)
  binary_meant op.Uniform x y a b h l = not_arithmetic op.Uniform ty x y _ _ (λ p q. refl) (λ p q. refl) (λ p q. refl)
  binary_meant op.Dunit x y a b h l = not_arithmetic op.Dunit ty x y _ _ (λ p q. refl) (λ p q. refl) (λ p q. refl)

-- operators of one argument

from_zero : (z : ℤ) → pos 0 -ℤ z ≡ neg_ℤ z
from_zero z = omega (arith, ints)

opposite_meant : (x : Finding) (a : Meaning) (i k : ℕ) → IsFound x a i → Means (opposite x) (o.negated a) k
opposite_meant (whole n) a i k h =
    at_one (λ c. Means (opposite (whole n)) (o.negated c) k) a _ h
    (subst (λ z. Means (after (difference_of (pos 0) n ∷ []) (whole (pos 0 -ℤ n))) (meaning.whole z) k) (from_zero n) (whole_meant (difference_of (pos 0) n) k))
opposite_meant (fraction p) a i k h =
    at_one (λ c. Means (opposite (fraction p)) (o.negated c) k) a _ h.is
    (finds_means _ _ k (after_finds (λ f. IsFound f _ k) (minus_steps zero_fraction p) _ (reduced_meant (minus zero_fraction p) (mf.opposite h.meant) (above_product 1 p.1 (omega arith) h.found_above) h.above (same_opposite p h.meant h.same))))
opposite_meant (value v) a i k h = tt
opposite_meant (table n l) a i k h = tt

as_fraction_meant : (x : Finding) (a : Meaning) (i k : ℕ) → IsFound x a i → Means (as_fraction x) (meaning.fraction (m.fraction_in a)) k
as_fraction_meant (whole n) a i k h =
    at_one (λ c. Means (as_fraction (whole n)) (meaning.fraction (m.fraction_in c)) k) a _ h
    (finds_means _ _ k (if_finds (λ f. IsFound f _ k) (is_small n) _ (λ e. record { meant = mf.of_whole n; is = refl; above = omega arith; found_above = omega arith; same = refl })))
as_fraction_meant (value (Num n)) a i k h =
    at_one (λ c. Means (as_fraction (value (Num n))) (meaning.fraction (m.fraction_in c)) k) a _ h
    (finds_means _ _ k (if_finds (λ f. IsFound f _ k) (is_small (pos n)) _ (λ e. record { meant = mf.of_whole (pos n); is = ap (λ z. meaning.fraction (mf.of_whole (pos z))) (number_is n); above = omega arith; found_above = omega arith; same = refl })))
as_fraction_meant (value (Many' n r)) a i k h = tt
as_fraction_meant (fraction p) a i k h = tt
as_fraction_meant (table n l) a i k h = tt

absolute_meant : (x : Finding) (a : Meaning) (i k : ℕ) → IsFound x a i → Means (absolute_of x) (meaning.fraction (mf.absolute (m.fraction_in a))) k
absolute_meant (fraction p) a i k h =
    at_one (λ c. Means (absolute_of (fraction p)) (meaning.fraction (mf.absolute (m.fraction_in c))) k) a _ h.is
    (record { meant = mf.absolute h.meant; is = refl; above = h.above; found_above = h.found_above; same = same_absolute p h.meant h.same })
absolute_meant (value v) a i k h = tt
absolute_meant (whole n) a i k h = tt
absolute_meant (table n l) a i k h = tt

part_meant : (n : ℕ) (vs : List Value) (k : ℕ) → Means (part n vs) (meaning.finite (get_or vs n (Num 0))) k
part_meant n [] k = tt
part_meant zero (v ∷ vs) k = refl
part_meant (suc n) (v ∷ vs) k = part_meant n vs k

opened_meant : (t : Types) (u : Ty) (vs : List Value) (k : ℕ) → Means (opened u vs) (meaning.finite (first_or vs ((values t u).at 0))) k
opened_meant t u (v ∷ vs) k = refl
opened_meant t u [] k = by (card_of u) refl
  where
    by : (c : Card) → card_of u ≡ c → Means (first_among c u) (meaning.finite ((values t u).at 0)) k
    by Above e = tt
    by (Exact n) e = finds_means _ _ k (if_finds (λ f. IsFound f _ k) (nat_lt 0 n) _ (λ l. ap (λ z. meaning.finite (z.at 0)) (exact t u n e).0))

no_value : (x : Finding) (a : Meaning) (k : ℕ) → Means (value_in x >>= λ v. unknown) a k
no_value (value v) a k = tt
no_value (whole v) a k = tt
no_value (fraction v) a k = tt
no_value (table n v) a k = tt

at_value : (f : Value → Comes Finding) (x : Finding) (a : Meaning) (i k : ℕ) (q : Value → Meaning) → IsFound x a i → ((v : Value) → Means (f v) (q v) k) → Means (value_in x >>= f) (q (m.value_in a)) k
at_value f (value v) a i k q h g = subst (λ z. Means (f v) (q (m.value_in z)) k) (sym h) (g v)
at_value f (whole v) a i k q h g = tt
at_value f (fraction v) a i k q h g = tt
at_value f (table n v) a i k q h g = tt

module _ (t : Types) (ty : Ty) where
  pub unary_meant : (p : Op) (x : Finding) (a : Argument) → IsFound x a.meaning a.denominator → Means (unary p ty x) (o.unary t p ty a.meaning) (denominator_at t p ty (a.denominator ∷ []))
  unary_meant op.Not x a h = not_meant (truth_in x) _ (truth_meant x a.meaning _ h)
  unary_meant op.Negate x a h = opposite_meant x a.meaning _ 1 h
  unary_meant op.ToReal x a h = as_fraction_meant x a.meaning _ 1 h
  unary_meant op.Abs x a h = absolute_meant x a.meaning _ 1 h
  unary_meant (op.Part i) x a h = at_value (λ v. part (pred i) (parts_of v)) x a.meaning _ 1 (λ v. meaning.finite (get_or (parts_of v) (pred i) (Num 0))) h (λ v. part_meant (pred i) (parts_of v) 1)
  unary_meant op.Some x a h = at_value _ x a.meaning _ 1 (λ v. meaning.finite (Many (v ∷ []))) h (λ v. refl)
  unary_meant op.Oget x a h = at_value _ x a.meaning _ 1 (λ v. meaning.finite (first_or (parts_of v) ((values t ty).at 0))) h (λ v. opened_meant t ty (parts_of v) 1)
  unary_meant op.Dunit x a h = at_value _ x a.meaning _ 1 (λ v. meaning.weights (unit v)) h (λ v. record { meant = unit v; is = refl; same = λ f. refl; total = refl })
  unary_meant op.And x a h = no_value x _ _
  unary_meant op.Or x a h = no_value x _ _
  unary_meant op.Implies x a h = no_value x _ _
  unary_meant op.Iff x a h = no_value x _ _
  unary_meant op.Equal x a h = no_value x _ _
  unary_meant op.NotEqual x a h = no_value x _ _
  unary_meant op.Less x a h = no_value x _ _
  unary_meant op.AtMost x a h = no_value x _ _
  unary_meant op.Plus x a h = no_value x _ _
  unary_meant op.Minus x a h = no_value x _ _
  unary_meant op.Times x a h = no_value x _ _
  unary_meant op.Xor x a h = no_value x _ _
  unary_meant op.Divide x a h = no_value x _ _
  unary_meant op.If x a h = no_value x _ _
  unary_meant op.Tuple x a h = no_value x _ _
  unary_meant op.None x a h = no_value x _ _
  unary_meant op.Empty x a h = no_value x _ _
  unary_meant op.Get x a h = no_value x _ _
  unary_meant op.Set x a h = no_value x _ _
  unary_meant op.InMap x a h = no_value x _ _
  unary_meant op.InSupport x a h = no_value x _ _
  unary_meant op.Mu1 x a h = no_value x _ _
  unary_meant op.Coin x a h = no_value x _ _
  unary_meant op.Uniform x a h = no_value x _ _
  unary_meant op.Product x a h = no_value x _ _

  pub nullary_meant : (p : Op) → Means (nullary p ty) (o.nullary t p ty) (denominator_at t p ty [])
  nullary_meant op.None = refl
  nullary_meant op.Empty = refl
  nullary_meant op.Coin = record { meant = distributions.coin; is = refl; same = λ f. refl; total = refl }
  nullary_meant op.Uniform = uniform_meant t (outcome_type ty) (card_of (outcome_type ty)) refl
  nullary_meant _ = tt
