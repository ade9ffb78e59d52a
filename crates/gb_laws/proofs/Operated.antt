-- Built-in operators give results of their types.
use Rattle.std.proofs.Common.{◌≡◌, ℕ, zero, suc, pred, ◌≤◌, Bool, true, false, pos, List, [], ◌∷◌, map, get_or, Some, refl, sym, subst, arith}
use Rattle.std.proofs.lemmas.Bool.{false≢true, and_from, and_parts}
use Rattle.gb_core.specs.declared.ty.Ty.{Ty, Row_of-Ty, end_of-Ty, more_of-Ty}
use Rattle.gb_core.specs.declared.ty.Ty.TheVariants as ty
use Rattle.gb_core.specs.declared.value.Value.{Value}
use Rattle.gb_core.specs.declared.value.Value.TheVariants.{Num, Many}
use Rattle.gb_core.specs.Numbering.{Numbering, parts_of, numbers, is_tuple, is_option, first_or, are_entries}
use Rattle.gb_dist.specs.WeightedList.{WeightedList, Every, unit}
use Rattle.gb_dist.proofs.Entries.{Every-append, Every-bind, Every-dmap}
use Rattle.gb_terms.specs.declared.op.Op.{Op}
use Rattle.gb_terms.specs.declared.op.Op.TheVariants as op
use Rattle.gb_terms.specs.declared.module.Mexp.TheVariants.{Name as named}
use Rattle.gb_meaning.specs.Names.{Name}
use Rattle.gb_meaning.specs.Values.{Types, footprint_values, all_values_by, values, first, has}
use Rattle.gb_meaning.specs.Setting.{Meaning}
use Rattle.gb_meaning.specs.Setting.Meaning.{finite, whole, fraction, weights}
use Rattle.gb_meaning.specs.Meanings.{value_in, truth, fraction_in, weights_in}
use Rattle.gb_meaning.specs.Fractions.{absolute, quotient}
use Rattle.gb_meaning.specs.Distributions.{coin, values_below, uniform, product}
use Rattle.gb_meaning.specs.Operators.{Argument, outcome_type, operated, chosen, entry_of, entry_set, weight_of}
use Rattle.gb_meaning.specs.Trees.{distributions, options}
use Rattle.gb_meaning.proofs.Numberings.{lawful}
use Rattle.gb_laws.specs.Finite.{IsFinite, IsInhabited}
use Rattle.gb_laws.specs.Operators.{row, tuples, maps, items, parts_in, item, AreFinite, IsDistributionType, IsOptionType, IsMapType, IsOperator, entry_type}
use Rattle.gb_laws.specs.Meant.{IsOf, AreGiven}
use Rattle.gb_laws.proofs.Sizes.{first_has}
use Rattle.gb_laws.proofs.Maps.{entry_in, set_in}
use Rattle.gb_laws.proofs.Meanings.{number_has, many_has, parts_have, finite_has, fraction_above, weights_have, bool_in, real_in, at_type, scaled_in, sum_in, difference_in, product_in, negated_in, xor_in, quotient_above}
use mathlib.Core.Former.{Count}

module _ (ts : Types) (i : IsInhabited ts) where
  abbrev a : Name → Numbering
  a n = numbers (ts.size n)

  abbrev g : Name → Numbering
  g n = footprint_values ts.size (ts.footprint (named n))

  none_in : (t : Ty) → IsOptionType t → IsOf ts t (finite (Many []))
  none_in (ty.Opt' p (more_of-Ty u end_of-Ty)) h = many_has (is_option (values ts u)) [] refl
  none_in _ h = absurd h

  empty_in : (t : Ty) → IsMapType t → IsOf ts t (finite (Many []))
  empty_in (ty.Map' p (more_of-Ty k end_of-Ty) q (more_of-Ty u end_of-Ty)) h = many_has (are_entries (values ts k) (values ts u) 0) [] refl
  empty_in _ h = absurd h

  some_in : (u : Ty) (v : Value) → has ts u v ≡ true → IsOf ts (options u) (finite (Many (v ∷ [])))
  some_in u v h = many_has (is_option (values ts u)) (v ∷ []) h

  first_or_in : (u : Ty) (vs : List Value) → IsFinite u → is_option (values ts u) vs ≡ true → has ts u (first_or vs (first ts u)) ≡ true
  first_or_in u [] f h = first_has ts i u f
  first_or_in u (v ∷ []) f h = h
  first_or_in u (v ∷ w ∷ vs) f h = absurd (false≢true h)

  oget_in : (u : Ty) (v : Value) → IsFinite u → has ts (options u) v ≡ true → has ts u (first_or (parts_of v) (first ts u)) ≡ true
  oget_in u v f h = first_or_in u (parts_of v) f (parts_have (is_option (values ts u)) v h)

  get_in : (m : Ty) (v w : Value) → IsMapType m → has ts m v ≡ true → IsOf ts (options (entry_type m)) (finite (Many (entry_of (parts_of v) w)))
  get_in (ty.Map' p (more_of-Ty k end_of-Ty) q (more_of-Ty u end_of-Ty)) v w f h =
      many_has (is_option (values ts u)) _ (entry_in (values ts k) (values ts u) (lawful ts k) (lawful ts u) 0 (parts_of v) w (parts_have (are_entries (values ts k) (values ts u) 0) v h))
  get_in _ v w f h = absurd f

  map_finite : (m : Ty) → IsMapType m → IsFinite m
  map_finite (ty.Map' p (more_of-Ty k end_of-Ty) q (more_of-Ty u end_of-Ty)) f = ((f.0, tt), (f.1, tt))
  map_finite _ f = absurd f

  put_in : (k u : Ty) (v w x : Value) → has ts (maps k u) v ≡ true → has ts k w ≡ true → has ts u x ≡ true →
      IsOf ts (maps k u) (finite (Many (entry_set (values ts k) (parts_of v) w x)))
  put_in k u v w x h l m =
      many_has (are_entries (values ts k) (values ts u) 0) _
      (set_in (values ts k) (values ts u) (lawful ts k) (lawful ts u) 0 (parts_of v) w x l m (omega arith) (parts_have (are_entries (values ts k) (values ts u) 0) v h))

  items_in : {n : Count} (r : Row_of-Ty n) (vs : List Value) (j : ℕ) (t : Ty) → item (items r) j ≡ Some t → is_tuple (all_values_by a g r) vs ≡ true →
      has ts t (get_or vs j (Num 0)) ≡ true
  items_in end_of-Ty vs j t e h = cc
  items_in (more_of-Ty u r) [] j t e h = absurd (false≢true h)
  items_in (more_of-Ty u r) (v ∷ vs) zero t e h =
      let p = and_parts (has ts u v) (is_tuple (all_values_by a g r) vs) h in
      let q : u ≡ t = cc in
      subst (λ z. has ts z v ≡ true) q p.0
  items_in (more_of-Ty u r) (v ∷ vs) (suc j) t e h = items_in r vs j t e (and_parts (has ts u v) (is_tuple (all_values_by a g r) vs) h).1

  no_item : (j : ℕ) (t : Ty) → item [] j ≡ Some t → ⊥
  no_item j t e = cc

  part_in : (u : Ty) (x : Meaning) (j : ℕ) (t : Ty) → item (parts_in u) j ≡ Some t → IsOf ts u x → has ts t (get_or (parts_of (value_in x)) j (Num 0)) ≡ true
  part_in (ty.Tuple' n r) (finite v) j t e h = items_in r (parts_of v) j t e (parts_have (is_tuple (all_values_by a g r)) v h)
  part_in (ty.Tuple' n r) (whole k) j t e h = absurd h
  part_in (ty.Tuple' n r) (fraction k) j t e h = absurd h.0
  part_in (ty.Tuple' n r) (weights d) j t e h = absurd h.0
  part_in _ x j t e h = absurd (no_item j t e)

  abbrev types : List (Ty × Argument) → List Ty
  types xs = map (λ x. x.0) xs

  abbrev args : List (Ty × Argument) → List Argument
  args xs = map (λ x. x.1) xs

  tuple_in : (xs : List (Ty × Argument)) → AreGiven ts xs → AreFinite (types xs) → is_tuple (all_values_by a g (row (types xs))) (map (λ x. value_in x.meaning) (args xs)) ≡ true
  tuple_in [] k f = refl
  tuple_in (x ∷ xs) k f = and_from _ _ (finite_has ts x.0 x.1.meaning f.0 k.0.0) (tuple_in xs k.1 f.1)

  chosen_in : (b : Bool) (x y : Argument) (t : Ty) → IsOf ts t x.meaning → IsOf ts t y.meaning → IsOf ts t (chosen b x y)
  chosen_in true x y t h l = scaled_in ts y.denominator t x.meaning h
  chosen_in false x y t h l = scaled_in ts x.denominator t y.meaning l

  below_in : (u : Ty) (n : ℕ) → n ≤ (values ts u).size → Every (λ v. has ts u v ≡ true) (values_below (values ts u) n)
  below_in u zero h = tt
  below_in u (suc n) h = Every-append (λ v. has ts u v ≡ true) (values_below (values ts u) n) (((values ts u).at n, 1) ∷ []) (below_in u n (omega arith))
      ((lawful ts u).has_at n h, tt)

  uniform_in : (t : Ty) → IsDistributionType t → IsOf ts t (weights (uniform (values ts (outcome_type t))))
  uniform_in (ty.Distr' p (more_of-Ty u end_of-Ty)) f = (tt, below_in u (values ts u).size (omega arith))
  uniform_in _ f = absurd f

  pairs_in : (u w : Ty) (d e : WeightedList Value) → Every (λ v. has ts u v ≡ true) d → Every (λ v. has ts w v ≡ true) e →
      Every (λ v. has ts (tuples (u ∷ w ∷ [])) v ≡ true) (product d e)
  pairs_in u w d e h l =
      Every-bind (λ v. has ts u v ≡ true) (λ v. has ts (tuples (u ∷ w ∷ [])) v ≡ true) d _ h
      (λ v p. Every-dmap {P = λ v. has ts w v ≡ true} (λ v. has ts (tuples (u ∷ w ∷ [])) v ≡ true) (λ x. Many (v ∷ x ∷ [])) e
      (λ x q. many_has (is_tuple (values ts u ∷ values ts w ∷ [])) (v ∷ x ∷ []) (and_from _ _ p (and_from _ _ q refl))) l)

  pub operated_in : (o : Op) (t : Ty) (xs : List (Ty × Argument)) → AreGiven ts xs → IsOperator o (types xs) t → IsOf ts t (operated ts o t (args xs))
  operated_in op.Not t (x ∷ []) k h = bool_in ts t _ h.1.0
  operated_in op.And t (x ∷ y ∷ []) k h = bool_in ts t _ h.1.1.0
  operated_in op.Or t (x ∷ y ∷ []) k h = bool_in ts t _ h.1.1.0
  operated_in op.Implies t (x ∷ y ∷ []) k h = bool_in ts t _ h.1.1.0
  operated_in op.Iff t (x ∷ y ∷ []) k h = bool_in ts t _ h.1.1.0
  operated_in op.Equal t (x ∷ y ∷ []) k h = bool_in ts t _ h.2
  operated_in op.NotEqual t (x ∷ y ∷ []) k h = bool_in ts t _ h.2
  operated_in op.Less t (x ∷ y ∷ []) k h = bool_in ts t _ h.2
  operated_in op.AtMost t (x ∷ y ∷ []) k h = bool_in ts t _ h.2
  operated_in op.Plus t (x ∷ y ∷ []) k h = sum_in ts t x.1.meaning y.1.meaning h.0 (at_type ts _ t _ h.1.0 k.0.0) (at_type ts _ t _ h.1.1.0 k.1.0.0)
  operated_in op.Minus t (x ∷ y ∷ []) k h = difference_in ts t x.1.meaning y.1.meaning h.0 (at_type ts _ t _ h.1.0 k.0.0) (at_type ts _ t _ h.1.1.0 k.1.0.0)
  operated_in op.Times t (x ∷ y ∷ []) k h = product_in ts t x.1.meaning y.1.meaning h.0 (at_type ts _ t _ h.1.0 k.0.0) (at_type ts _ t _ h.1.1.0 k.1.0.0)
  operated_in op.Negate t (x ∷ []) k h = negated_in ts t x.1.meaning h.0 (at_type ts _ t _ h.1 k.0.0)
  operated_in op.Xor t (x ∷ y ∷ []) k h = xor_in ts t x.1.meaning y.1.meaning h.0 (at_type ts _ t _ h.1.0 k.0.0) (at_type ts _ t _ h.1.1.0 k.1.0.0)
  operated_in op.Divide t (x ∷ y ∷ []) k h = real_in ts t (quotient (fraction_in x.1.meaning) (fraction_in y.1.meaning)) (quotient_above (fraction_in x.1.meaning) (fraction_in y.1.meaning) (fraction_above ts x.0 x.1.meaning k.0.0)) h.1.1.0
  operated_in op.ToReal t (x ∷ []) k h = real_in ts t (fraction_in x.1.meaning) (fraction_above ts x.0 x.1.meaning k.0.0) h.1
  operated_in op.Abs t (x ∷ []) k h = real_in ts t (absolute (fraction_in x.1.meaning)) (fraction_above ts x.0 x.1.meaning k.0.0) h.1.0
  operated_in op.If t (x ∷ y ∷ z ∷ []) k h = chosen_in (truth x.1.meaning) y.1 z.1 t (at_type ts _ t _ h.1.0 k.1.0.0) (at_type ts _ t _ h.1.1.0 k.1.1.0.0)
  operated_in op.Tuple t xs k h = at_type ts (tuples (types xs)) t (finite (Many (map (λ x. value_in x.meaning) (args xs)))) (sym h.1) (many_has (is_tuple (all_values_by a g (row (types xs)))) _ (tuple_in xs k h.0))
  operated_in (op.Part j) t (x ∷ []) k h = part_in x.0 x.1.meaning (pred j) t h.1 k.0.0
  operated_in op.Some t (x ∷ []) k h = at_type ts (options x.0) t (finite (Many (value_in x.1.meaning ∷ []))) (sym h.1) (some_in x.0 _ (finite_has ts x.0 x.1.meaning h.0 k.0.0))
  operated_in op.None t [] k h = none_in t h
  operated_in op.Oget t (x ∷ []) k h = oget_in t (value_in x.1.meaning) h.0 (finite_has ts (options t) x.1.meaning (h.0, tt) (at_type ts _ (options t) _ h.1 k.0.0))
  operated_in op.Empty t [] k h = empty_in t h
  operated_in op.Get t (x ∷ y ∷ []) k h =
      at_type ts (options (entry_type x.0)) t (finite (Many (entry_of (parts_of (value_in x.1.meaning)) (value_in y.1.meaning)))) (sym h.2) (get_in x.0 (value_in x.1.meaning) (value_in y.1.meaning) h.0 (finite_has ts x.0 x.1.meaning (map_finite x.0 h.0) k.0.0))
  operated_in op.Set t (x ∷ y ∷ z ∷ []) k h =
      let m : IsOf ts (maps y.0 z.0) x.1.meaning = at_type ts _ (maps y.0 z.0) _ h.2.0 k.0.0 in
      subst (λ u. IsOf ts u (operated ts op.Set u (args (x ∷ y ∷ z ∷ [])))) (sym h.2.1.0)
      (put_in y.0 z.0 (value_in x.1.meaning) (value_in y.1.meaning) (value_in z.1.meaning) (finite_has ts (maps y.0 z.0) x.1.meaning ((h.0, tt), (h.1, tt)) m) (finite_has ts y.0 y.1.meaning h.0 k.1.0.0) (finite_has ts z.0 z.1.meaning h.1 k.1.1.0.0))
  operated_in op.InMap t (x ∷ y ∷ []) k h = bool_in ts t _ h.2
  operated_in op.InSupport t (x ∷ y ∷ []) k h = bool_in ts t _ h.2
  operated_in op.Mu1 t (x ∷ y ∷ []) k h = real_in ts t (pos (weight_of x.1.meaning y.1.meaning), x.1.denominator) (k.0.1 (subst IsDistributionType (sym h.1) h.0)) h.2
  operated_in op.Coin t [] k h = at_type ts (distributions ty.Bool) t (weights coin) (sym h) (tt, (number_has 2 0 (omega arith), (number_has 2 1 (omega arith), tt)))
  operated_in op.Uniform t [] k h = uniform_in t h
  operated_in op.Dunit t (x ∷ []) k h = at_type ts (distributions x.0) t (weights (unit (value_in x.1.meaning))) (sym h.1) (tt, (finite_has ts x.0 x.1.meaning h.0 k.0.0, tt))
  operated_in op.Product t (x ∷ y ∷ []) k h = at_type ts (distributions (tuples (outcome_type x.0 ∷ outcome_type y.0 ∷ []))) t (weights (product (weights_in x.1.meaning) (weights_in y.1.meaning))) (sym h.2)
      (tt, pairs_in (outcome_type x.0) (outcome_type y.0) (weights_in x.1.meaning) (weights_in y.1.meaning) (weights_have ts x.0 x.1.meaning k.0.0) (weights_have ts y.0 y.1.meaning k.1.0.0))
  operated_in _ t xs k h = absurd h
