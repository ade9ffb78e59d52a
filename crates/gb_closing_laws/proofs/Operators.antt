-- Operators give related results from related arguments.
use Rattle.std.proofs.Common.{◌≡◌, ◌⊎◌, inl, inr, ℕ, zero, suc, pred, ◌<◌, Bool, true, false, nat_lt, not, pos, Some, List, [], ◌∷◌, map, get_or, refl, ap, sym, ◌∙◌, subst, arith}
use Rattle.gb_core.specs.declared.ty.Ty.{Ty, Row_of-Ty, end_of-Ty, more_of-Ty}
use Rattle.gb_core.specs.declared.ty.Ty.TheVariants as ty
use Rattle.gb_core.specs.declared.value.Value.{Value}
use Rattle.gb_core.specs.declared.value.Value.TheVariants.{Num, Many}
use Rattle.gb_core.specs.Numbering.{parts_in, parts_of, first_or, are_entries}
use Rattle.gb_core.proofs.Lawful.{out-Many}
use Rattle.gb_dist.specs.WeightedList.{WeightedList, unit, bit}
use Rattle.gb_terms.specs.declared.op.Op.{Op}
use Rattle.gb_terms.specs.declared.op.Op.TheVariants as op
use Rattle.gb_terms.specs.declared.term.Head.TheVariants.{Builtin}
use Rattle.gb_meaning.specs.Values.{Types, values, first, has, value_eq}
use Rattle.gb_meaning.specs.Setting.{Meaning}
use Rattle.gb_meaning.specs.Setting.Meaning.{finite, whole, fraction, weights}
use Rattle.gb_meaning.specs.Meanings.{of_truth, value_in, truth, weights_in, same}
use Rattle.gb_meaning.specs.Distributions.{uniform, product}
use Rattle.gb_meaning.specs.Operators.{Argument, outcome_type, key_type, operated, chosen, weight_of, entry_of, entry_set, is_none}
use Rattle.gb_meaning.specs.Trees.{distributions, options}
use Rattle.gb_meaning.specs.Globs.{IsGlobless}
use Rattle.gb_typing.specs.Naming.{EachGlobAmong}
use Rattle.gb_typing.proofs.PlainGlobals.{globless_values}
use Rattle.gb_laws.specs.Finite.{IsFinite, IsInhabited}
use Rattle.gb_laws.specs.Operators.{row, tuples, maps, items, parts_in as types_in, item, AreFinite, IsOrdered, IsArithmetic, IsSigned, IsOfBits, IsOfNumbers, IsDistributionType, IsMapType, IsOptionType, IsOperator, entry_type}
use Rattle.gb_laws.specs.Meant.{IsOf, AreGiven}
use Rattle.gb_meaning.proofs.Numberings.{lawful}
use Rattle.gb_laws.proofs.Maps.{set_in}
use Rattle.gb_laws.proofs.Meanings.{truth_in}
use Rattle.gb_laws.proofs.Operated.{operated_in}
use Rattle.gb_closing_laws.specs.Pairs.{Pairs, Pairing}
use Rattle.gb_closing_laws.specs.Related.{KeyByKey, Related, AllRelated, OptionRelated, BoxRelated, WeightsRelated, MeaningRelated}
use Rattle.gb_closing_laws.specs.Needs.{names_in, IsMadeOf, HasFirsts, opened_at}
use Rattle.gb_closing_laws.proofs.MapRelations.{empty_by_key, set_by_key, entries_alike}
use Rattle.gb_closing_laws.proofs.Relations.{many_has, many_parts, related_has, related_has_back, related_once, related_once_back}
use Rattle.gb_closing_laws.proofs.LabelMeanings.{meaning_equal, meaning_itself, meaning_of, mass_related, dmap_related, bind_related, weights_related, scaled_related, truth_related, value_related, same_alike, equal_alike, outcome_globless}
use Rattle.gb_closing_laws.proofs.Firsts.{first_related}
use mathlib.Core.Former.{Count}

ordered_globless : (a : Ty) → IsOrdered a → IsGlobless a
ordered_globless (ty.Mod n) k = tt
ordered_globless (ty.Bits n) k = tt
ordered_globless ty.Int k = tt
ordered_globless ty.Real k = tt
ordered_globless _ k = absurd k

arithmetic_globless : (a : Ty) → IsArithmetic a → IsGlobless a
arithmetic_globless (ty.Mod n) k = tt
arithmetic_globless ty.Int k = tt
arithmetic_globless ty.Real k = tt
arithmetic_globless _ k = absurd k

signed_globless : (a : Ty) → IsSigned a → IsGlobless a
signed_globless ty.Int k = tt
signed_globless ty.Real k = tt
signed_globless _ k = absurd k

bits_globless : (a : Ty) → IsOfBits a → IsGlobless a
bits_globless ty.Bool k = tt
bits_globless (ty.Bits n) k = tt
bits_globless _ k = absurd k

numbers_globless : (a : Ty) → IsOfNumbers a → IsGlobless a
numbers_globless (ty.Mod n) k = tt
numbers_globless ty.Int k = tt
numbers_globless _ k = absurd k

no_globs : (a b : Ty) → a ≡ b → IsGlobless b → IsGlobless a
no_globs a b e k = subst IsGlobless (sym e) k

-- a part of a tuple
part_at : (t u : Types) (P : Pairs) {n : Count} (r : Row_of-Ty n) (vs ws : List Value) (i : ℕ) (a : Ty) → item (items r) i ≡ Some a → AllRelated t u P r vs ws →
    Related t u P a (get_or vs i (Num 0)) (get_or ws i (Num 0))
part_at t u P end_of-Ty [] [] i a e q = cc
part_at t u P (more_of-Ty b r) (v ∷ vs) (w ∷ ws) zero a e q = let s : b ≡ a = cc in subst (λ z. Related t u P z v w) s q.0
part_at t u P (more_of-Ty b r) (v ∷ vs) (w ∷ ws) (suc i) a e q = part_at t u P r vs ws i a e q.1
part_at t u P r vs ws i a e q = absurd q

parts_are : (v : Value) (vs : List Value) → v ≡ Many vs → parts_of v ≡ vs
parts_are v vs e = ap parts_of e ∙ ap parts_in (out-Many vs)

-- an argument of an operator in each of two settings, with its type
abbrev pub Arguments : Type 0
Arguments = List (Ty × Argument × Argument)

abbrev pub types_of : Arguments → List Ty
types_of xs = map (λ x. x.0) xs

abbrev pub lefts : Arguments → List Argument
lefts xs = map (λ x. x.1) xs

abbrev pub rights : Arguments → List Argument
rights xs = map (λ x. x.2) xs

abbrev pub ArgumentRelated : Types → Types → Pairs → Ty × Argument × Argument → Type 0
ArgumentRelated t u P x = MeaningRelated t u P x.0 x.1.meaning x.2.meaning × (x.1.denominator ≡ x.2.denominator) × (IsDistributionType x.0 → 0 < x.1.denominator)

abbrev pub ArgumentsRelated : Types → Types → Pairs → Arguments → Type 0
ArgumentsRelated t u P [] = Unit {0}
ArgumentsRelated t u P (x ∷ xs) = ArgumentRelated t u P x × ArgumentsRelated t u P xs

module _ (t u : Types) (same_sizes : t.size ≡ u.size) (inhabited : IsInhabited t) (P : Pairing t u) where
  abbrev given : Arguments → List (Ty × Argument)
  given xs = map (λ x. (x.0, x.1)) xs

  are_given : (xs : Arguments) → ArgumentsRelated t u P.pairs xs → AreGiven t (given xs)
  are_given [] k = tt
  are_given (x ∷ xs) k = ((meaning_of t u same_sizes P x.0 x.1.meaning x.2.meaning k.0.0, k.0.2), are_given xs k.1)

  given_types : (xs : Arguments) → map (λ x. x.0) (given xs) ≡ types_of xs
  given_types [] = refl
  given_types (x ∷ xs) = ap (λ z. x.0 ∷ z) (given_types xs)

  given_lefts : (xs : Arguments) → map (λ x. x.1) (given xs) ≡ lefts xs
  given_lefts [] = refl
  given_lefts (x ∷ xs) = ap (λ z. x.1 ∷ z) (given_lefts xs)

  -- the result is of its type
  left_in : (o : Op) (a : Ty) (xs : Arguments) → ArgumentsRelated t u P.pairs xs → IsOperator o (types_of xs) a → IsOf t a (operated t o a (lefts xs))
  left_in o a xs k h =
      subst (λ z. IsOf t a (operated t o a z)) (given_lefts xs) (operated_in t inhabited o a (given xs) (are_given xs k) (subst (λ z. IsOperator o z a) (sym (given_types xs)) h))

  same_arguments : (xs : Arguments) → ArgumentsRelated t u P.pairs xs → EachGlobAmong (λ m. ⊥) (types_of xs) → lefts xs ≡ rights xs
  same_arguments [] k g = refl
  same_arguments (x ∷ xs) k g =
      let e = meaning_equal t u same_sizes P.pairs x.0 g.0 x.1.meaning x.2.meaning k.0.0 in
      let d = k.0.1 in
      λ i. record { meaning = e i; denominator = d i } ∷ same_arguments xs k.1 g.1 i

  -- operators whose arguments and results are of types that speak of no modules' globals
  plain : (o : Op) (a : Ty) (xs : Arguments) → ArgumentsRelated t u P.pairs xs → IsOperator o (types_of xs) a → EachGlobAmong (λ m. ⊥) (types_of xs) → IsGlobless a →
      operated t o a (lefts xs) ≡ operated u o a (lefts xs) → MeaningRelated t u P.pairs a (operated t o a (lefts xs)) (operated u o a (rights xs))
  plain o a xs k h g n e =
      subst (MeaningRelated t u P.pairs a (operated t o a (lefts xs))) (e ∙ ap (operated u o a) (same_arguments xs k g))
      (meaning_itself t u same_sizes P.pairs a n (operated t o a (lefts xs)) (left_in o a xs k h))

  -- equal truths
  pub truths : (a : Ty) (b c : Bool) → a ≡ ty.Bool → b ≡ c → MeaningRelated t u P.pairs a (of_truth b) (of_truth c)
  truths a b c e q =
      subst (λ z. MeaningRelated t u P.pairs a (of_truth b) (of_truth z)) q
      (subst (λ z. MeaningRelated t u P.pairs z (of_truth b) (of_truth b)) (sym e) (meaning_itself t u same_sizes P.pairs ty.Bool tt (of_truth b) (truth_in t b)))

  part_related : (b : Ty) (i : ℕ) (a : Ty) → item (types_in b) i ≡ Some a → (x y : Meaning) → MeaningRelated t u P.pairs b x y →
      Related t u P.pairs a (get_or (parts_of (value_in x)) i (Num 0)) (get_or (parts_of (value_in y)) i (Num 0))
  part_related (ty.Tuple' n r) i a e (finite v) (finite w) q =
      subst (λ z. Related t u P.pairs a (get_or z i (Num 0)) (get_or (parts_of w) i (Num 0))) (sym (parts_are v q.0 q.2))
      (subst (λ z. Related t u P.pairs a (get_or q.0 i (Num 0)) (get_or z i (Num 0))) (sym (parts_are w q.1 q.3)) (part_at t u P.pairs r q.0 q.1 i a e q.4))
  part_related (ty.Tuple' n r) i a e (whole v) (whole w) q = absurd q.0
  part_related (ty.Tuple' n r) i a e (fraction v) (fraction w) q = absurd q.0
  part_related (ty.Tuple' n r) i a e (weights v) (weights w) q = absurd q.0
  part_related (ty.Tuple' n r) i a e v w q = absurd q
  part_related _ i a e x y q = absurd (no_item i a e)
    where
      no_item : (i : ℕ) (a : Ty) → item [] i ≡ Some a → ⊥
      no_item i a e = cc

  tuple_related : (xs : Arguments) → ArgumentsRelated t u P.pairs xs → AreFinite (types_of xs) →
      AllRelated t u P.pairs (row (types_of xs)) (map (λ x. value_in x.meaning) (lefts xs)) (map (λ x. value_in x.meaning) (rights xs))
  tuple_related [] k f = tt
  tuple_related (x ∷ xs) k f = (value_related t u same_sizes P x.0 f.0 x.1.meaning x.2.meaning k.0.0, tuple_related xs k.1 f.1)

  empty_related : (a : Ty) → IsMapType a → MeaningRelated t u P.pairs a (finite (Many [])) (finite (Many []))
  empty_related (ty.Map' p (more_of-Ty k end_of-Ty) q (more_of-Ty x end_of-Ty)) h = (
    many_has (are_entries (values t k) (values t x) 0) [] refl,
    many_has (are_entries (values u k) (values u x) 0) [] refl,
    empty_by_key (BoxRelated t u P.pairs (more_of-Ty k end_of-Ty)) (BoxRelated t u P.pairs (more_of-Ty x end_of-Ty)),
  )
  empty_related _ h = absurd h

  -- what two maps have for related keys
  entry_related : (k x : Ty) (v w i j : Value) → KeyByKey (Related t u P.pairs k) (Related t u P.pairs x) v w → Related t u P.pairs k i j →
      OptionRelated t u P.pairs (more_of-Ty x end_of-Ty) (entry_of (parts_of v) i) (entry_of (parts_of w) j)
  entry_related k x v w i j m r =
      step (entries_alike (Related t u P.pairs k) (Related t u P.pairs x) (related_once t u same_sizes P k) (related_once_back t u same_sizes P k) v w i j m r)
    where
      step : ((entry_of (parts_of v) i ≡ []) × (entry_of (parts_of w) j ≡ []))
          ⊎ ((a : Value) × (b : Value) × (entry_of (parts_of v) i ≡ a ∷ []) × (entry_of (parts_of w) j ≡ b ∷ []) × Related t u P.pairs x a b) →
          OptionRelated t u P.pairs (more_of-Ty x end_of-Ty) (entry_of (parts_of v) i) (entry_of (parts_of w) j)
      step (inl e) =
          subst (λ z. OptionRelated t u P.pairs (more_of-Ty x end_of-Ty) z (entry_of (parts_of w) j)) (sym e.0)
          (subst (λ z. OptionRelated t u P.pairs (more_of-Ty x end_of-Ty) [] z) (sym e.1) tt)
      step (inr e) =
          subst (λ z. OptionRelated t u P.pairs (more_of-Ty x end_of-Ty) z (entry_of (parts_of w) j)) (sym e.2)
          (subst (λ z. OptionRelated t u P.pairs (more_of-Ty x end_of-Ty) (e.0 ∷ []) z) (sym e.3) e.4)

  map_entry_related : (m : Ty) → IsMapType m → (v w i j : Value) → Related t u P.pairs m v w → Related t u P.pairs (key_type m) i j →
      OptionRelated t u P.pairs (more_of-Ty (entry_type m) end_of-Ty) (entry_of (parts_of v) i) (entry_of (parts_of w) j)
  map_entry_related (ty.Map' p (more_of-Ty k end_of-Ty) q (more_of-Ty x end_of-Ty)) h v w i j m r = entry_related k x v w i j m.2 r
  map_entry_related _ h v w i j m r = absurd h

  map_finite : (m : Ty) → IsMapType m → IsFinite m
  map_finite (ty.Map' p (more_of-Ty k end_of-Ty) q (more_of-Ty x end_of-Ty)) h = ((h.0, tt), (h.1, tt))
  map_finite _ h = absurd h

  key_finite : (m : Ty) → IsMapType m → IsFinite (key_type m)
  key_finite (ty.Map' p (more_of-Ty k end_of-Ty) q (more_of-Ty x end_of-Ty)) h = h.0
  key_finite _ h = absurd h

  -- a map and a key
  got_related : (m k : Ty) → IsMapType m → k ≡ key_type m → (x y a b : Meaning) → MeaningRelated t u P.pairs m x y → MeaningRelated t u P.pairs k a b →
      OptionRelated t u P.pairs (more_of-Ty (entry_type m) end_of-Ty) (entry_of (parts_of (value_in x)) (value_in a)) (entry_of (parts_of (value_in y)) (value_in b))
  got_related m k h e x y a b q r =
      map_entry_related m h (value_in x) (value_in y) (value_in a) (value_in b) (value_related t u same_sizes P m (map_finite m h) x y q)
      (value_related t u same_sizes P (key_type m) (key_finite m h) a b (subst (λ z. MeaningRelated t u P.pairs z a b) e r))

  none_alike : (a : Ty) (vs ws : List Value) → OptionRelated t u P.pairs (more_of-Ty a end_of-Ty) vs ws → is_none vs ≡ is_none ws
  none_alike a [] [] q = refl
  none_alike a (v ∷ []) (w ∷ []) q = refl
  none_alike a vs ws q = absurd q

  -- a key with a new value
  set_has : (s : Types) (k x : Ty) (v i a : Value) → has s (maps k x) v ≡ true → has s k i ≡ true → has s x a ≡ true → has s (maps k x) (Many (entry_set (values s k) (parts_of v) i a)) ≡ true
  set_has s k x v i a h l m =
      many_has (are_entries (values s k) (values s x) 0) _
      (set_in (values s k) (values s x) (lawful s k) (lawful s x) 0 (parts_of v) i a l m (omega arith) (many_parts (are_entries (values s k) (values s x) 0) v h).1)

  put_related : (k x : Ty) (v w i j a b : Value) → Related t u P.pairs (maps k x) v w → Related t u P.pairs k i j → Related t u P.pairs x a b →
      Related t u P.pairs (maps k x) (Many (entry_set (values t k) (parts_of v) i a)) (Many (entry_set (values u k) (parts_of w) j b))
  put_related k x v w i j a b m q r =
      let hi = related_has t u same_sizes P k i j q in
      let hj = related_has_back t u same_sizes P k i j q in (
        set_has t k x v i a m.0 hi (related_has t u same_sizes P x a b r),
        set_has u k x w j b m.1 hj (related_has_back t u same_sizes P x a b r),
        set_by_key (values t k) (values t x) (values u k) (values u x) (lawful t k) (lawful t x) (lawful u k) (lawful u x) (Related t u P.pairs k) (Related t u P.pairs x)
            (related_once t u same_sizes P k) (related_once_back t u same_sizes P k) v w i j a b m.0 m.1 hi hj q r m.2,
      )

  set_related : (c k x : Ty) → c ≡ maps k x → (v w i j a b : Value) → Related t u P.pairs (maps k x) v w → Related t u P.pairs k i j → Related t u P.pairs x a b →
      Related t u P.pairs c (Many (entry_set (values t (key_type c)) (parts_of v) i a)) (Many (entry_set (values u (key_type c)) (parts_of w) j b))
  set_related c k x e v w i j a b m q r =
      subst (λ z. Related t u P.pairs z (Many (entry_set (values t (key_type z)) (parts_of v) i a)) (Many (entry_set (values u (key_type z)) (parts_of w) j b))) (sym e) (put_related k x v w i j a b m q r)

  oget_step : (a : Ty) (vs ws : List Value) → OptionRelated t u P.pairs (more_of-Ty a end_of-Ty) vs ws → Related t u P.pairs a (first t a) (first u a) →
      Related t u P.pairs a (first_or vs (first t a)) (first_or ws (first u a))
  oget_step a [] [] q f = f
  oget_step a (v ∷ []) (w ∷ []) q f = q
  oget_step a vs ws q f = absurd q

  oget_related : (a : Ty) (v w : Value) → Related t u P.pairs (options a) v w → Related t u P.pairs a (first t a) (first u a) →
      Related t u P.pairs a (first_or (parts_of v) (first t a)) (first_or (parts_of w) (first u a))
  oget_related a v w q f =
      subst (λ z. Related t u P.pairs a (first_or z (first t a)) (first_or (parts_of w) (first u a))) (sym (parts_are v q.0 q.2))
      (subst (λ z. Related t u P.pairs a (first_or q.0 (first t a)) (first_or z (first u a))) (sym (parts_are w q.1 q.3)) (oget_step a q.0 q.1 q.4 f))

  -- the weight of a value
  weight_related : (d a : Ty) → d ≡ distributions a → IsFinite a → (x y v w : Meaning) → MeaningRelated t u P.pairs d x y → MeaningRelated t u P.pairs a v w → weight_of x v ≡ weight_of y w
  weight_related d a e f x y v w q r =
      let s = value_related t u same_sizes P a f v w r in
      let k = subst (λ z. MeaningRelated t u P.pairs z x y) e q in
      mass_related t u P.pairs a (λ z. bit (value_eq z (value_in v))) (λ z. bit (value_eq z (value_in w)))
      (λ m n l. ap bit (equal_alike t u same_sizes P a m (value_in v) n (value_in w) l s)) (weights_in x) (weights_in y) (weights_related t u P.pairs (distributions a) x y k)

  chosen_related : (b : Bool) (x y : Ty × Argument × Argument) (a : Ty) → x.0 ≡ a → y.0 ≡ a → ArgumentRelated t u P.pairs x → ArgumentRelated t u P.pairs y →
      MeaningRelated t u P.pairs a (chosen b x.1 y.1) (chosen b x.2 y.2)
  chosen_related true x y a d e q r =
      scaled_related t u P.pairs a y.1.denominator y.2.denominator r.1 x.1.meaning x.2.meaning (subst (λ z. MeaningRelated t u P.pairs z x.1.meaning x.2.meaning) d q.0)
  chosen_related false x y a d e q r =
      scaled_related t u P.pairs a x.1.denominator x.2.denominator q.1 y.1.meaning y.2.meaning (subst (λ z. MeaningRelated t u P.pairs z y.1.meaning y.2.meaning) e r.0)

  pub at_type : (a b : Ty) (x y : Meaning) → a ≡ b → MeaningRelated t u P.pairs a x y → MeaningRelated t u P.pairs b x y
  at_type a b x y e q = subst (λ z. MeaningRelated t u P.pairs z x y) e q

  pub of_row : (a : Ty) → IsDistributionType a → (d e : WeightedList Value) → WeightsRelated t u P.pairs (outcome_type a) d e → MeaningRelated t u P.pairs a (weights d) (weights e)
  of_row (ty.Distr' p x) k d e q = (tt, q)
  of_row _ k d e q = absurd k

  pairs_related : (a b : Ty) (d e f g : WeightedList Value) → WeightsRelated t u P.pairs a d e → WeightsRelated t u P.pairs b f g →
      WeightsRelated t u P.pairs (tuples (a ∷ b ∷ [])) (product d f) (product e g)
  pairs_related a b d e f g q r =
      bind_related t u P.pairs a (tuples (a ∷ b ∷ [])) _ _
      (λ v w s. dmap_related t u P.pairs b (tuples (a ∷ b ∷ [])) (λ z. Many (v ∷ z ∷ [])) (λ z. Many (w ∷ z ∷ []))
      (λ x y k. (v ∷ x ∷ [], w ∷ y ∷ [], refl, refl, (s, (k, tt)))) f g r) d e q

  pub operated_related : (o : Op) (a : Ty) (xs : Arguments) → ArgumentsRelated t u P.pairs xs → IsOperator o (types_of xs) a → IsMadeOf o a → HasFirsts t u P.pairs (opened_at (Builtin o) a) →
      MeaningRelated t u P.pairs a (operated t o a (lefts xs)) (operated u o a (rights xs))
  operated_related op.Not a (x ∷ []) k h m f = plain op.Not a (x ∷ []) k h (no_globs _ _ h.0 tt, tt) (no_globs _ _ h.1.0 tt) refl
  operated_related op.And a (x ∷ y ∷ []) k h m f = plain op.And a (x ∷ y ∷ []) k h (no_globs _ _ h.0 tt, (no_globs _ _ h.1.0 tt, tt)) (no_globs _ _ h.1.1.0 tt) refl
  operated_related op.Or a (x ∷ y ∷ []) k h m f = plain op.Or a (x ∷ y ∷ []) k h (no_globs _ _ h.0 tt, (no_globs _ _ h.1.0 tt, tt)) (no_globs _ _ h.1.1.0 tt) refl
  operated_related op.Implies a (x ∷ y ∷ []) k h m f = plain op.Implies a (x ∷ y ∷ []) k h (no_globs _ _ h.0 tt, (no_globs _ _ h.1.0 tt, tt)) (no_globs _ _ h.1.1.0 tt) refl
  operated_related op.Iff a (x ∷ y ∷ []) k h m f = plain op.Iff a (x ∷ y ∷ []) k h (no_globs _ _ h.0 tt, (no_globs _ _ h.1.0 tt, tt)) (no_globs _ _ h.1.1.0 tt) refl
  operated_related op.Equal a (x ∷ y ∷ []) k h m f =
      truths a (same x.1.meaning y.1.meaning) (same x.2.meaning y.2.meaning) h.2
      (same_alike t u same_sizes P x.0 h.0 x.1.meaning y.1.meaning x.2.meaning y.2.meaning k.0.0 (at_type y.0 x.0 y.1.meaning y.2.meaning (sym h.1) k.1.0.0))
  operated_related op.NotEqual a (x ∷ y ∷ []) k h m f =
      truths a (not (same x.1.meaning y.1.meaning)) (not (same x.2.meaning y.2.meaning)) h.2
      (ap not (same_alike t u same_sizes P x.0 h.0 x.1.meaning y.1.meaning x.2.meaning y.2.meaning k.0.0 (at_type y.0 x.0 y.1.meaning y.2.meaning (sym h.1) k.1.0.0)))
  operated_related op.Less a (x ∷ y ∷ []) k h m f =
      let g = ordered_globless x.0 h.0 in plain op.Less a (x ∷ y ∷ []) k h (g, (no_globs _ _ (sym h.1) g, tt)) (no_globs _ _ h.2 tt) refl
  operated_related op.AtMost a (x ∷ y ∷ []) k h m f =
      let g = ordered_globless x.0 h.0 in plain op.AtMost a (x ∷ y ∷ []) k h (g, (no_globs _ _ (sym h.1) g, tt)) (no_globs _ _ h.2 tt) refl
  operated_related op.Plus a (x ∷ y ∷ []) k h m f =
      let g = arithmetic_globless a h.0 in plain op.Plus a (x ∷ y ∷ []) k h (no_globs _ _ h.1.0 g, (no_globs _ _ h.1.1.0 g, tt)) g refl
  operated_related op.Minus a (x ∷ y ∷ []) k h m f =
      let g = arithmetic_globless a h.0 in plain op.Minus a (x ∷ y ∷ []) k h (no_globs _ _ h.1.0 g, (no_globs _ _ h.1.1.0 g, tt)) g refl
  operated_related op.Times a (x ∷ y ∷ []) k h m f =
      let g = arithmetic_globless a h.0 in plain op.Times a (x ∷ y ∷ []) k h (no_globs _ _ h.1.0 g, (no_globs _ _ h.1.1.0 g, tt)) g refl
  operated_related op.Negate a (x ∷ []) k h m f =
      let g = signed_globless a h.0 in plain op.Negate a (x ∷ []) k h (no_globs _ _ h.1 g, tt) g refl
  operated_related op.Xor a (x ∷ y ∷ []) k h m f =
      let g = bits_globless a h.0 in plain op.Xor a (x ∷ y ∷ []) k h (no_globs _ _ h.1.0 g, (no_globs _ _ h.1.1.0 g, tt)) g refl
  operated_related op.Divide a (x ∷ y ∷ []) k h m f = plain op.Divide a (x ∷ y ∷ []) k h (no_globs _ _ h.0 tt, (no_globs _ _ h.1.0 tt, tt)) (no_globs _ _ h.1.1.0 tt) refl
  operated_related op.ToReal a (x ∷ []) k h m f = plain op.ToReal a (x ∷ []) k h (numbers_globless x.0 h.0, tt) (no_globs _ _ h.1 tt) refl
  operated_related op.Abs a (x ∷ []) k h m f = plain op.Abs a (x ∷ []) k h (no_globs _ _ h.0 tt, tt) (no_globs _ _ h.1.0 tt) refl
  operated_related op.If a (x ∷ y ∷ z ∷ []) k h m f =
      subst (λ b. MeaningRelated t u P.pairs a (chosen (truth x.1.meaning) y.1 z.1) (chosen b y.2 z.2)) (truth_related t u same_sizes P.pairs x.0 h.0 x.1.meaning x.2.meaning k.0.0)
      (chosen_related (truth x.1.meaning) y z a h.1.0 h.1.1.0 k.1.0 k.1.1.0)
  operated_related op.Tuple a xs k h m f =
      at_type (tuples (types_of xs)) a (finite (Many (map (λ x. value_in x.meaning) (lefts xs)))) (finite (Many (map (λ x. value_in x.meaning) (rights xs)))) (sym h.1)
      (_, _, refl, refl, tuple_related xs k h.0)
  operated_related (op.Part i) a (x ∷ []) k h m f = part_related x.0 (pred i) a h.1 x.1.meaning x.2.meaning k.0.0
  operated_related op.Some a (x ∷ []) k h m f =
      at_type (options x.0) a (finite (Many (value_in x.1.meaning ∷ []))) (finite (Many (value_in x.2.meaning ∷ []))) (sym h.1)
      (_, _, refl, refl, value_related t u same_sizes P x.0 h.0 x.1.meaning x.2.meaning k.0.0)
  operated_related op.None a [] k h m f = none_related a h
    where
      none_related : (a : Ty) → IsOptionType a → MeaningRelated t u P.pairs a (finite (Many [])) (finite (Many []))
      none_related (ty.Opt' p x) h = ([], [], refl, refl, tt)
      none_related _ h = absurd h
  operated_related op.Oget a (x ∷ []) k h m f =
      oget_related a (value_in x.1.meaning) (value_in x.2.meaning)
      (value_related t u same_sizes P (options a) (h.0, tt) x.1.meaning x.2.meaning (at_type x.0 (options a) x.1.meaning x.2.meaning h.1 k.0.0))
      (first_related t u P.pairs same_sizes inhabited a m.0 m.1 h.0 (subst (HasFirsts t u P.pairs) (ap names_in m.1) f))
  operated_related op.Empty a [] k h m f = empty_related a h
  operated_related op.Get a (x ∷ y ∷ []) k h m f =
      at_type (options (entry_type x.0)) a (finite (Many (entry_of (parts_of (value_in x.1.meaning)) (value_in y.1.meaning)))) (finite (Many (entry_of (parts_of (value_in x.2.meaning)) (value_in y.2.meaning)))) (sym h.2)
      (_, _, refl, refl, got_related x.0 y.0 h.0 h.1 x.1.meaning x.2.meaning y.1.meaning y.2.meaning k.0.0 k.1.0.0)
  operated_related op.Set a (x ∷ y ∷ z ∷ []) k h m f =
      set_related a y.0 z.0 h.2.1.0 (value_in x.1.meaning) (value_in x.2.meaning) (value_in y.1.meaning) (value_in y.2.meaning) (value_in z.1.meaning) (value_in z.2.meaning)
      (value_related t u same_sizes P (maps y.0 z.0) ((h.0, tt), (h.1, tt)) x.1.meaning x.2.meaning (at_type x.0 (maps y.0 z.0) x.1.meaning x.2.meaning h.2.0 k.0.0))
      (value_related t u same_sizes P y.0 h.0 y.1.meaning y.2.meaning k.1.0.0) (value_related t u same_sizes P z.0 h.1 z.1.meaning z.2.meaning k.1.1.0.0)
  operated_related op.InMap a (x ∷ y ∷ []) k h m f =
      truths a _ _ h.2 (ap not (none_alike (entry_type y.0) _ _ (got_related y.0 x.0 h.0 h.1 y.1.meaning y.2.meaning x.1.meaning x.2.meaning k.1.0.0 k.0.0)))
  operated_related op.InSupport a (x ∷ y ∷ []) k h m f =
      truths a _ _ h.2 (ap (nat_lt 0) (weight_related y.0 x.0 h.1 h.0 y.1.meaning y.2.meaning x.1.meaning x.2.meaning k.1.0.0 k.0.0))
  operated_related op.Mu1 a (x ∷ y ∷ []) k h m f =
      let w = weight_related x.0 y.0 h.1 h.0 x.1.meaning x.2.meaning y.1.meaning y.2.meaning k.0.0 k.1.0.0 in
      let d = k.0.1 in
      at_type ty.Real a (fraction (pos (weight_of x.1.meaning y.1.meaning), x.1.denominator)) (fraction (pos (weight_of x.2.meaning y.2.meaning), x.2.denominator)) (sym h.2)
      (tt, k.0.2 (subst IsDistributionType (sym h.1) h.0), λ i. (pos (w i), d i))
  operated_related op.Coin a [] k h m f = plain op.Coin a [] k h tt (no_globs _ _ h (tt, tt)) refl
  operated_related op.Uniform a [] k h m f =
      plain op.Uniform a [] k h tt m (ap (λ z. weights (uniform z)) (globless_values t u same_sizes (outcome_type a) (outcome_globless a m)))
  operated_related op.Dunit a (x ∷ []) k h m f =
      at_type (distributions x.0) a (weights (unit (value_in x.1.meaning))) (weights (unit (value_in x.2.meaning))) (sym h.1)
      (tt, ((value_related t u same_sizes P x.0 h.0 x.1.meaning x.2.meaning k.0.0, refl), tt))
  operated_related op.Product a (x ∷ y ∷ []) k h m f =
      at_type (distributions (tuples (outcome_type x.0 ∷ outcome_type y.0 ∷ []))) a (weights (product (weights_in x.1.meaning) (weights_in y.1.meaning))) (weights (product (weights_in x.2.meaning) (weights_in y.2.meaning))) (sym h.2) (
        tt,
        pairs_related (outcome_type x.0) (outcome_type y.0) (weights_in x.1.meaning) (weights_in x.2.meaning) (weights_in y.1.meaning) (weights_in y.2.meaning)
            (weights_related t u P.pairs x.0 x.1.meaning x.2.meaning k.0.0) (weights_related t u P.pairs y.0 y.1.meaning y.2.meaning k.1.0.0),
      )
  operated_related _ a xs k h m f = absurd h
