-- Tables that mean what a distribution does.
use Rattle.std.proofs.Common.{◌≡◌, ℕ, ◌+◌, ◌*◌, ◌<◌, Bool, true, false, ◌&&◌, nat_lt, nat_le, ◌^◌, if◌then◌else◌, pos, List, [], ◌∷◌, ◌++◌, map, refl, sym, ap, ◌∙◌, subst, arith}
use Rattle.std.proofs.lemmas.Bool.{false≢true, and_parts, ltb-true}
use Rattle.gb_core.specs.declared.ty.Ty.{Ty}
use Rattle.gb_core.specs.declared.value.Value.{Value}
use Rattle.gb_core.specs.declared.value.Value.TheVariants.{Many}
use Rattle.gb_core.specs.declared.value.Card.{Card}
use Rattle.gb_core.specs.declared.value.Card.TheVariants.{Exact, Above}
use Rattle.gb_core.specs.Types.{numbering, is_finite, size_of, card_of}
use Rattle.gb_dist.specs.WeightedList.{WeightedList, mass, total, weight, bit, dmap}
use Rattle.gb_dist.proofs.Masses.{mass-bind, mass-dmap, mass-same}
use Rattle.gb_dist.specs.Fractions.{reduced}
use Rattle.gb_dist.specs.Lists as lists
use Rattle.gb_dist.specs.Places.{outcomes}
use Rattle.gb_meaning.specs.Setting.{Meaning}
use Rattle.gb_meaning.specs.Setting.{Meaning as meaning}
use Rattle.gb_meaning.specs.Values.{Types, values, value_eq}
use Rattle.gb_meaning.specs.Distributions as distributions
use Rattle.gb_meaning.specs.Meanings as m
use Rattle.gb_meaning.specs.Operators as o
use Rattle.gb_meaning.proofs.Types.{values_finite}
use Rattle.gb_eval.specs.Findings.{Comes, ◌>>=◌, after, collected}
use Rattle.gb_eval.specs.Findings.Finding.{fraction, table}
use Rattle.gb_eval.specs.Findings.Comes.{found, unknown, overflow}
use Rattle.gb_eval.specs.Operators.{chance, uniform_over}
use Rattle.gb_eval.specs.Totals.{are_weights, is_weight, number_of_outcomes, weights_total}
use Rattle.gb_eval.specs.Eval.{weighted}
use Rattle.gb_terms.specs.declared.term.Pair.{Pair}
use Rattle.gb_dist.specs.Rows.{adding_steps}
use Rattle.gb_eval.specs.Meant.{IsTable, Means}
use Rattle.gb_eval.proofs.Truths.{Finds, if_finds, after_finds, then_finds, finds_means}
use Rattle.gb_eval.proofs.Fractions.{reduced_meant}

-- a weight over a denominator
pub chance_meant : (w v n k j : ℕ) → w ≡ v → n ≡ k → Means (chance w n) (meaning.fraction (pos v, k)) j
chance_meant w v n k j p q =
    subst (λ z. Means (chance w n) (meaning.fraction (pos z, k)) j) p
    (subst (λ z. Means (chance w n) (meaning.fraction (pos w, z)) j) q (by (nat_lt 0 n) refl))
  where
    by : (b : Bool) → nat_lt 0 n ≡ b → Means (if b then found (fraction (reduced (pos w, n))) else unknown) (meaning.fraction (pos w, n)) j
    by true e = let l : 0 < n = ltb-true 0 n e in reduced_meant (pos w, n) (pos w, n) l l refl
    by false e = tt

-- the weight of a value
pub weight_meant : (v : Value) (n k : ℕ) (l : WeightedList Value) (x : Meaning) → IsTable n l x k → (y : Meaning) → y ≡ meaning.finite v → weight l (λ w. value_eq w v) ≡ o.weight_of x y
weight_meant v n k l x h y e =
    h.same (λ w. bit (value_eq w v))
    ∙ sym (λ i. weight (m.weights_in (h.is i)) (λ w. value_eq w (m.value_in (e i))))

-- the part of a distribution on which a test holds

restricted_more : (p : Value → Bool) (e : Value × ℕ) (l : WeightedList Value) (f : Value → ℕ) (b : Bool) → mass (lists.restricted l p) f ≡ mass l (λ v. bit (p v) * f v) →
    mass (if b then e ∷ lists.restricted l p else lists.restricted l p) f ≡ e.1 * (bit b * f e.0) + mass l (λ v. bit (p v) * f v)
restricted_more p e l f true i = omega (arith, i)
restricted_more p e l f false i = omega (arith, i)

pub restricted_mass : (p : Value → Bool) (l : WeightedList Value) (f : Value → ℕ) → mass (lists.restricted l p) f ≡ mass l (λ v. bit (p v) * f v)
restricted_mass p [] f = refl
restricted_mass p (e ∷ l) f = restricted_more p e l f (p e.0) (restricted_mass p l f)

-- lists

pub behind_none : {A : Type 0} (xs : List A) → xs ≡ xs ++ []
behind_none [] = refl
behind_none (x ∷ xs) = ap (λ z. x ∷ z) (behind_none xs)

pub behind_one : {A : Type 0} (xs : List A) (a : A) (ys : List A) → (xs ++ a ∷ []) ++ ys ≡ xs ++ a ∷ ys
behind_one [] a ys = refl
behind_one (x ∷ xs) a ys = ap (λ z. x ∷ z) (behind_one xs a ys)

-- one thing more is collected, which is the one that is meant
pub one_collected : {A : Type 0} (out : List A) (c : Comes A) (a : A) (cs : List (Comes A)) (rest : List A) → Finds (λ b. a ≡ b) c →
    ((more : List A) → Finds (λ bs. bs ≡ more ++ rest) (collected more cs)) → Finds (λ bs. bs ≡ out ++ a ∷ rest) (c >>= λ b. collected (out ++ b ∷ []) cs)
one_collected out (found b) a cs rest q f =
    subst (λ z. Finds (λ bs. bs ≡ z) (collected (out ++ b ∷ []) cs)) (behind_one out b rest ∙ ap (λ z. out ++ z ∷ rest) (sym q)) (f (out ++ b ∷ []))
one_collected out unknown a cs rest q f = tt
one_collected out (overflow x) a cs rest q f = tt

-- what is found at each outcome is what is meant there
pub each_collected : {A : Type 0} (f : Value → Comes A) (p : Value → A) → ((v : Value) → Finds (λ a. p v ≡ a) (f v)) → (l : WeightedList Value) (out : List A) →
    Finds (λ xs. xs ≡ out ++ map p (outcomes l)) (collected out (map f (outcomes l)))
each_collected f p h [] out = behind_none out
each_collected f p h (e ∷ l) out = one_collected out (f e.0) (p e.0) (map f (outcomes l)) (map p (outcomes l)) (h e.0) (each_collected f p h l)

-- images

pub imaged_is : (p : Value → Value) (l : WeightedList Value) → lists.imaged (map p (outcomes l)) l ≡ dmap p l
imaged_is p [] = refl
imaged_is p (e ∷ l) = ap (λ z. (p e.0, e.1) ∷ z) (imaged_is p l)

pub image_same : (p : Value → Value) (l r : WeightedList Value) → ((f : Value → ℕ) → mass l f ≡ mass r f) → (f : Value → ℕ) → mass (dmap p l) f ≡ mass (dmap p r) f
image_same p l r h f = mass-dmap p l f ∙ h (λ v. f (p v)) ∙ sym (mass-dmap p r f)

-- stated weights

sum_is : (ps : List Pair) → total (distributions.stated ps) ≡ distributions.sum_of_weights ps
sum_is [] = refl
sum_is (p ∷ ps) = let q = sum_is ps in omega (arith, q)

-- pairs

product_mass : (d e : WeightedList Value) (f : Value → ℕ) → mass (lists.product d e) f ≡ mass d (λ v. mass e (λ w. f (Many (v ∷ w ∷ []))))
product_mass d e f =
    mass-bind d (λ v. dmap (λ w. Many (v ∷ w ∷ [])) e) f
    ∙ mass-same d _ _ (λ v. mass-dmap (λ w. Many (v ∷ w ∷ [])) e f)

pub product_same : (d e r s : WeightedList Value) → ((f : Value → ℕ) → mass d f ≡ mass r f) → ((f : Value → ℕ) → mass e f ≡ mass s f) → (f : Value → ℕ) → mass (lists.product d e) f ≡ mass (lists.product r s) f
product_same d e r s h k f =
    product_mass d e f
    ∙ h (λ v. mass e (λ w. f (Many (v ∷ w ∷ []))))
    ∙ mass-same r _ _ (λ v. k (λ w. f (Many (v ∷ w ∷ []))))
    ∙ sym (product_mass r s f)

-- the uniform distribution

exact_size : (b : Bool) (k n : ℕ) → (if b then Exact k else Above) ≡ Exact n → n ≡ k
exact_size true k n h = sym (ap size_in h)
  where
    size_in : Card → ℕ
    size_in (Exact n) = n
    size_in Above = 0
exact_size false k n h = absurd (false≢true (ap is_exact h))
  where
    is_exact : Card → Bool
    is_exact (Exact n) = true
    is_exact Above = false

exact_finite : (a b : Bool) (k n : ℕ) → (if a && b then Exact k else Above) ≡ Exact n → a ≡ true
exact_finite true b k n h = refl
exact_finite false b k n h = absurd (false≢true (ap is_exact h))
  where
    is_exact : Card → Bool
    is_exact (Exact n) = true
    is_exact Above = false

pub exact_type_finite : (u : Ty) (n : ℕ) → card_of u ≡ Exact n → is_finite u ≡ true
exact_type_finite u n e = exact_finite (is_finite u) (nat_lt (size_of u) (2 ^ 63)) (size_of u) n e

-- a type with an exact number of values
pub exact : (t : Types) (u : Ty) (n : ℕ) → card_of u ≡ Exact n → (values t u ≡ numbering u) × (n ≡ size_of u)
exact t u n e = (values_finite t u (exact_finite (is_finite u) (nat_lt (size_of u) (2 ^ 63)) (size_of u) n e), exact_size (is_finite u && nat_lt (size_of u) (2 ^ 63)) (size_of u) n e)

pub uniform_meant : (t : Types) (u : Ty) (c : Card) → card_of u ≡ c → Means (uniform_over c u) (meaning.weights (distributions.uniform (values t u))) (values t u).size
uniform_meant t u Above e = tt
uniform_meant t u (Exact n) e = by (nat_lt 0 n && nat_le n 65536)
  where
    by : (b : Bool) → Means (if b then found (table n (lists.uniform (numbering u))) else unknown) (meaning.weights (distributions.uniform (values t u))) (values t u).size
    by true = record {
      meant = distributions.uniform (values t u);
      is = refl;
      same = λ f. ap (λ z. mass (lists.uniform z) f) (sym (exact t u n e).0);
      total = (exact t u n e).1 ∙ ap (λ z. z.size) (sym (exact t u n e).0);
    }
    by false = tt

-- a denominator above 0
pub record IsTotal (k n : ℕ) : Type 0 where
  pub is : n ≡ k
  pub above : 0 < n

pub outcomes_total : (t : Types) (u : Ty) (c : Card) → card_of u ≡ c → Finds (IsTotal (values t u).size) (number_of_outcomes c)
outcomes_total t u Above e = tt
outcomes_total t u (Exact n) e = by (nat_lt 0 n && nat_le n 65536) refl
  where
    by : (b : Bool) → (nat_lt 0 n && nat_le n 65536) ≡ b → Finds (IsTotal (values t u).size) (if b then found n else unknown)
    by true q = record { is = (exact t u n e).1 ∙ ap (λ z. z.size) (sym (exact t u n e).0); above = ltb-true 0 n (and_parts (nat_lt 0 n) (nat_le n 65536) q).0 }
    by false q = tt

sum_total : (l : WeightedList Value) → Finds (IsTotal (total l)) (weights_total l)
sum_total [] = tt
sum_total (e ∷ l) =
    if_finds (IsTotal (total (e ∷ l))) (are_weights (e ∷ l)) (after (adding_steps 0 (e ∷ l)) (total (e ∷ l)))
    (λ w. after_finds (IsTotal (total (e ∷ l))) (adding_steps 0 (e ∷ l)) (total (e ∷ l)) (record { is = refl; above = above w }))
  where
    above : are_weights (e ∷ l) ≡ true → 0 < total (e ∷ l)
    above w =
        let one = and_parts (is_weight e.1) (are_weights l) w in
        let p : 0 < e.1 = ltb-true 0 e.1 (and_parts (nat_lt 0 e.1) (nat_lt e.1 (2 ^ 127)) one.0).0 in
        omega (arith, p)

-- the sum of stated weights
pub stated_total : (ps : List Pair) → Finds (IsTotal (distributions.sum_of_weights ps)) (weights_total (distributions.stated ps))
stated_total ps = subst (λ k. Finds (IsTotal k) (weights_total (distributions.stated ps))) (sum_is ps) (sum_total (distributions.stated ps))

pub stated_meant : (ps : List Pair) → Means (weighted (distributions.stated ps)) (meaning.weights (distributions.stated ps)) (distributions.sum_of_weights ps)
stated_meant ps =
    finds_means _ _ _ (then_finds (IsTotal (distributions.sum_of_weights ps)) _ (weights_total (distributions.stated ps)) (λ n. found (table n (distributions.stated ps))) (stated_total ps)
    (λ n e q. record { meant = distributions.stated ps; is = refl; same = λ f. refl; total = q.is }))
