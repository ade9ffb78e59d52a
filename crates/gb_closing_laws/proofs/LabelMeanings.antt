-- Related meanings.
use Rattle.std.proofs.Common.{◌≡◌, ℕ, ◌+◌, ◌*◌, Bool, true, false, if◌then◌else◌, ℤ, [], ◌∷◌, ◌++◌, refl, ap, sym, subst}
use Rattle.gb_core.specs.declared.ty.Ty.{Ty, Row_of-Ty, end_of-Ty, more_of-Ty}
use Rattle.gb_core.specs.declared.ty.Ty.TheVariants as ty
use Rattle.gb_core.specs.declared.value.Value.{Value}
use Rattle.gb_dist.specs.WeightedList.{WeightedList, mass, scale, bind, dmap, Every}
use Rattle.std.specs.Ordering.{int_eq}
use Rattle.gb_meaning.specs.Fractions.{Fraction, is_same}
use Rattle.gb_meaning.specs.Values.{Types, has, value_eq}
use Rattle.gb_meaning.specs.Setting.{Meaning}
use Rattle.gb_meaning.specs.Setting.Meaning.{finite, whole, fraction, weights}
use Rattle.gb_meaning.specs.Meanings.{value_in, truth, weights_in, scaled, same}
use Rattle.gb_meaning.specs.Distributions.{restricted}
use Rattle.gb_meaning.specs.Operators.{outcome_type, only_type}
use Rattle.gb_meaning.proofs.Bools.{same_truth}
use Rattle.gb_meaning.proofs.Values.{value_eq-true}
use Rattle.gb_meaning.specs.Globs.{IsGlobless, EachGlobIn}
use Rattle.gb_laws.specs.Finite.{IsFinite}
use Rattle.gb_laws.specs.Operators.{IsNoDistribution}
use Rattle.gb_laws.specs.Meant.{IsOfDistributions, IsOf}
use Rattle.gb_laws.proofs.Meanings.{finite_is}
use Rattle.gb_closing_laws.specs.Pairs.{Pairs, Pairing}
use Rattle.gb_closing_laws.specs.Related.{Related, WeightsRelated, MeaningRelated}
use Rattle.gb_closing_laws.proofs.Relations.{related_itself, related_equal, related_has, related_once, related_once_back}
use Rattle.gb_closing_laws.proofs.Extending.{IsLonger, related_longer}
use mathlib.Core.Former.{Count}

only_globless : {n : Count} (r : Row_of-Ty n) → EachGlobIn (λ m. ⊥) r → IsGlobless (only_type r)
only_globless end_of-Ty k = tt
only_globless (more_of-Ty a r) k = k.0

pub outcome_globless : (a : Ty) → IsGlobless a → IsGlobless (outcome_type a)
outcome_globless (ty.Distr' p x) k = only_globless x k
outcome_globless _ k = tt

apart : (a : Ty) → IsNoDistribution a → IsOfDistributions a → ⊥
apart (ty.Distr' p x) k d = k
apart _ k d = d

-- Types that speak of no module's globals.
module _ (t u : Types) (same_sizes : t.size ≡ u.size) (P : Pairs) where
  weights_equal : (a : Ty) → IsGlobless a → (d e : WeightedList Value) → WeightsRelated t u P a d e → d ≡ e
  weights_equal a k [] [] q = refl
  weights_equal a k (x ∷ d) (y ∷ e) q =
      let v = related_equal t u same_sizes P a k x.0 y.0 q.0.0 in
      let w = q.0.1 in
      λ i. (v i, w i) ∷ weights_equal a k d e q.1 i
  weights_equal a k x y q = absurd q

  -- related meanings of a type that speaks of no module's globals are equal
  pub meaning_equal : (a : Ty) → IsGlobless a → (x y : Meaning) → MeaningRelated t u P a x y → x ≡ y
  meaning_equal a k (finite v) (finite w) q = ap finite (related_equal t u same_sizes P a k v w q)
  meaning_equal a k (whole m) (whole n) q = ap whole q.1
  meaning_equal a k (fraction x) (fraction y) q = ap fraction q.2
  meaning_equal a k (weights d) (weights e) q = ap weights (weights_equal (outcome_type a) (outcome_globless a k) d e q.1)
  meaning_equal a k x y q = absurd q

  weights_itself : (a : Ty) → IsGlobless a → (d : WeightedList Value) → Every (λ v. has t a v ≡ true) d → WeightsRelated t u P a d d
  weights_itself a k [] h = tt
  weights_itself a k (x ∷ d) h = ((related_itself t u same_sizes P a k x.0 h.0, refl), weights_itself a k d h.1)

  -- a meaning of such a type is related to itself
  pub meaning_itself : (a : Ty) → IsGlobless a → (x : Meaning) → IsOf t a x → MeaningRelated t u P a x x
  meaning_itself a k (finite v) h = related_itself t u same_sizes P a k v h
  meaning_itself a k (whole n) h = (h, refl)
  meaning_itself a k (fraction x) h = (h.0, h.1, refl)
  meaning_itself a k (weights d) h = (h.0, weights_itself (outcome_type a) (outcome_globless a k) d h.1)

  -- the truth of related terms of type `bool`
  pub truth_related : (a : Ty) → a ≡ ty.Bool → (x y : Meaning) → MeaningRelated t u P a x y → truth x ≡ truth y
  truth_related a e x y q = ap truth (meaning_equal ty.Bool tt x y (subst (λ z. MeaningRelated t u P z x y) e q))

-- Weighted lists, entry by entry.
module _ (t u : Types) (P : Pairs) where
  pub mass_related : (a : Ty) (f g : Value → ℕ) → ((v w : Value) → Related t u P a v w → f v ≡ g w) → (d e : WeightedList Value) → WeightsRelated t u P a d e → mass d f ≡ mass e g
  mass_related a f g h [] [] q = refl
  mass_related a f g h (x ∷ d) (y ∷ e) q =
      let one = h x.0 y.0 q.0.0 in
      let w = q.0.1 in
      let rest = mass_related a f g h d e q.1 in
      λ i. w i * one i + rest i
  mass_related a f g h x y q = absurd q

  append_related : (a : Ty) (d e f g : WeightedList Value) → WeightsRelated t u P a d e → WeightsRelated t u P a f g → WeightsRelated t u P a (d ++ f) (e ++ g)
  append_related a [] [] f g q r = r
  append_related a (x ∷ d) (y ∷ e) f g q r = (q.0, append_related a d e f g q.1 r)
  append_related a x y f g q r = absurd q

  pub scale_related : (a : Ty) (k l : ℕ) → k ≡ l → (d e : WeightedList Value) → WeightsRelated t u P a d e → WeightsRelated t u P a (scale k d) (scale l e)
  scale_related a k l s [] [] q = tt
  scale_related a k l s (x ∷ d) (y ∷ e) q = let w = q.0.1 in ((q.0.0, λ i. s i * w i), scale_related a k l s d e q.1)
  scale_related a k l s x y q = absurd q

  pub dmap_related : (a b : Ty) (f g : Value → Value) → ((v w : Value) → Related t u P a v w → Related t u P b (f v) (g w)) → (d e : WeightedList Value) → WeightsRelated t u P a d e →
      WeightsRelated t u P b (dmap f d) (dmap g e)
  dmap_related a b f g h [] [] q = tt
  dmap_related a b f g h (x ∷ d) (y ∷ e) q = ((h x.0 y.0 q.0.0, q.0.1), dmap_related a b f g h d e q.1)
  dmap_related a b f g h x y q = absurd q

  pub bind_related : (a b : Ty) (f g : Value → WeightedList Value) → ((v w : Value) → Related t u P a v w → WeightsRelated t u P b (f v) (g w)) → (d e : WeightedList Value) → WeightsRelated t u P a d e →
      WeightsRelated t u P b (bind d f) (bind e g)
  bind_related a b f g h [] [] q = tt
  bind_related a b f g h (x ∷ d) (y ∷ e) q =
      append_related b (scale x.1 (f x.0)) (scale y.1 (g y.0)) (bind d f) (bind e g) (scale_related b x.1 y.1 q.0.1 (f x.0) (g y.0) (h x.0 y.0 q.0.0)) (bind_related a b f g h d e q.1)
  bind_related a b f g h x y q = absurd q

  pub restricted_related : (a : Ty) (f g : Value → Bool) → ((v w : Value) → Related t u P a v w → f v ≡ g w) → (d e : WeightedList Value) → WeightsRelated t u P a d e →
      WeightsRelated t u P a (restricted d f) (restricted e g)
  restricted_related a f g h [] [] q = tt
  restricted_related a f g h (x ∷ d) (y ∷ e) q =
      subst (λ b. WeightsRelated t u P a (if f x.0 then x ∷ restricted d f else restricted d f) (if b then y ∷ restricted e g else restricted e g)) (h x.0 y.0 q.0.0)
      (step (f x.0) (restricted_related a f g h d e q.1))
    where
      step : (b : Bool) → WeightsRelated t u P a (restricted d f) (restricted e g) → WeightsRelated t u P a (if b then x ∷ restricted d f else restricted d f) (if b then y ∷ restricted e g else restricted e g)
      step true r = (q.0, r)
      step false r = r
  restricted_related a f g h x y q = absurd q

  -- the weights of related meanings
  pub weights_related : (a : Ty) (x y : Meaning) → MeaningRelated t u P a x y → WeightsRelated t u P (outcome_type a) (weights_in x) (weights_in y)
  weights_related a (finite v) (finite w) q = tt
  weights_related a (whole m) (whole n) q = tt
  weights_related a (fraction x) (fraction y) q = tt
  weights_related a (weights d) (weights e) q = q.1
  weights_related a x y q = absurd q

  pub scaled_related : (a : Ty) (k l : ℕ) → k ≡ l → (x y : Meaning) → MeaningRelated t u P a x y → MeaningRelated t u P a (scaled k x) (scaled l y)
  scaled_related a k l s (finite v) (finite w) q = q
  scaled_related a k l s (whole m) (whole n) q = q
  scaled_related a k l s (fraction x) (fraction y) q = q
  scaled_related a k l s (weights d) (weights e) q = (q.0, scale_related (outcome_type a) k l s d e q.1)
  scaled_related a k l s x y q = absurd q

-- The same over two settings.
module _ (t u : Types) (same_sizes : t.size ≡ u.size) (P : Pairing t u) where
  weights_every : (a : Ty) (d e : WeightedList Value) → WeightsRelated t u P.pairs a d e → Every (λ v. has t a v ≡ true) d
  weights_every a [] [] q = tt
  weights_every a (x ∷ d) (y ∷ e) q = (related_has t u same_sizes P a x.0 y.0 q.0.0, weights_every a d e q.1)
  weights_every a x y q = absurd q

  -- a related meaning is of the type
  pub meaning_of : (a : Ty) (x y : Meaning) → MeaningRelated t u P.pairs a x y → IsOf t a x
  meaning_of a (finite v) (finite w) q = related_has t u same_sizes P a v w q
  meaning_of a (whole m) (whole n) q = q.0
  meaning_of a (fraction x) (fraction y) q = (q.0, q.1)
  meaning_of a (weights d) (weights e) q = (q.0, weights_every (outcome_type a) d e q.1)
  meaning_of a x y q = absurd q

  no_whole : (a : Ty) (m : _) → IsFinite a → IsOf t a (whole m) → ⊥
  no_whole a m f h = let e = finite_is t a (whole m) f h in absurd (cc)

  no_fraction : (a : Ty) (x : _) → IsFinite a → IsOf t a (fraction x) → ⊥
  no_fraction a x f h = let e = finite_is t a (fraction x) f h in absurd (cc)

  no_weights : (a : Ty) (d : WeightedList Value) → IsFinite a → IsOf t a (weights d) → ⊥
  no_weights a d f h = let e = finite_is t a (weights d) f h in absurd (cc)

  -- related values of a finite type
  pub value_related : (a : Ty) → IsFinite a → (x y : Meaning) → MeaningRelated t u P.pairs a x y → Related t u P.pairs a (value_in x) (value_in y)
  value_related a f (finite v) (finite w) q = q
  value_related a f (whole m) (whole n) q = absurd (no_whole a m f q.0)
  value_related a f (fraction x) (fraction y) q = absurd (no_fraction a x f (q.0, q.1))
  value_related a f (weights d) (weights e) q = absurd (no_weights a d f (meaning_of a (weights d) (weights e) q))
  value_related a f x y q = absurd q

  -- related values are equal on both sides, or on none
  pub equal_alike : (a : Ty) (v w x y : Value) → Related t u P.pairs a v x → Related t u P.pairs a w y → value_eq v w ≡ value_eq x y
  equal_alike a v w x y q r =
      same_truth (value_eq v w) (value_eq x y)
      (λ e. (value_eq-true x y).1 (related_once t u same_sizes P a v x y q (subst (λ z. Related t u P.pairs a z y) (sym ((value_eq-true v w).0 e)) r)))
      (λ e. (value_eq-true v w).1 (related_once_back t u same_sizes P a v w x q (subst (λ z. Related t u P.pairs a w z) (sym ((value_eq-true x y).0 e)) r)))

  finite_alike : (a : Ty) (v x : Value) → Related t u P.pairs a v x → (w y : Meaning) → MeaningRelated t u P.pairs a w y → same (finite v) w ≡ same (finite x) y
  finite_alike a v x q (finite w) (finite y) r = equal_alike a v w x y q r
  finite_alike a v x q (whole m) (whole n) r = refl
  finite_alike a v x q (fraction w) (fraction y) r = refl
  finite_alike a v x q (weights d) (weights e) r = refl
  finite_alike a v x q w y r = absurd r

  whole_alike : (a : Ty) (m n : ℤ) → m ≡ n → (w y : Meaning) → MeaningRelated t u P.pairs a w y → same (whole m) w ≡ same (whole n) y
  whole_alike a m n q (finite w) (finite y) r = refl
  whole_alike a m n q (whole k) (whole l) r = let e = r.1 in λ i. int_eq (q i) (e i)
  whole_alike a m n q (fraction w) (fraction y) r = refl
  whole_alike a m n q (weights d) (weights e) r = refl
  whole_alike a m n q w y r = absurd r

  fraction_alike : (a : Ty) (m n : Fraction) → m ≡ n → (w y : Meaning) → MeaningRelated t u P.pairs a w y → same (fraction m) w ≡ same (fraction n) y
  fraction_alike a m n q (finite w) (finite y) r = refl
  fraction_alike a m n q (whole k) (whole l) r = refl
  fraction_alike a m n q (fraction k) (fraction l) r = let e = r.2 in λ i. is_same (q i) (e i)
  fraction_alike a m n q (weights d) (weights e) r = refl
  fraction_alike a m n q w y r = absurd r

  -- two terms of one type mean the same in both settings, or in none
  pub same_alike : (a : Ty) → IsNoDistribution a → (w x y z : Meaning) → MeaningRelated t u P.pairs a w y → MeaningRelated t u P.pairs a x z → same w x ≡ same y z
  same_alike a k (finite v) x (finite y) z q r = finite_alike a v y q x z r
  same_alike a k (whole m) x (whole n) z q r = whole_alike a m n q.1 x z r
  same_alike a k (fraction m) x (fraction n) z q r = fraction_alike a m n q.2 x z r
  same_alike a k (weights d) x (weights e) z q r = absurd (apart a k q.0)
  same_alike a k w x y z q r = absurd q

module _ (t u : Types) (P Q : Pairing t u) (longer : IsLonger t u P Q) where
  weights_longer : (a : Ty) (d e : WeightedList Value) → WeightsRelated t u P.pairs a d e → WeightsRelated t u Q.pairs a d e
  weights_longer a [] [] q = tt
  weights_longer a (x ∷ d) (y ∷ e) q = ((related_longer t u P Q longer a x.0 y.0 q.0.0, q.0.1), weights_longer a d e q.1)
  weights_longer a x y q = absurd q

  -- related meanings stay so
  pub meaning_longer : (a : Ty) (x y : Meaning) → MeaningRelated t u P.pairs a x y → MeaningRelated t u Q.pairs a x y
  meaning_longer a (finite v) (finite w) q = related_longer t u P Q longer a v w q
  meaning_longer a (whole m) (whole n) q = q
  meaning_longer a (fraction x) (fraction y) q = q
  meaning_longer a (weights d) (weights e) q = (q.0, weights_longer (outcome_type a) d e q.1)
  meaning_longer a x y q = absurd q
