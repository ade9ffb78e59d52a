-- Built-in operators give the same from the same.
use Rattle.std.proofs.Common.{◌≡◌, Bool, true, false, not, ◌&&◌, ◌||◌, nat_lt, bit_xor, pred, pos, List, [], ◌∷◌, map, get_or, refl, sym, ap, ◌∙◌, subst}
use Rattle.gb_core.specs.declared.ty.Ty.{Ty}
use Rattle.gb_core.specs.declared.value.Value.{Value}
use Rattle.gb_core.specs.declared.value.Value.TheVariants.{Num, Many}
use Rattle.gb_core.specs.Numbering.{parts_of, first_or, number_of}
use Rattle.gb_dist.specs.WeightedList.{unit, weight}
use Rattle.gb_terms.specs.declared.op.Op.{Op}
use Rattle.gb_terms.specs.declared.op.Op.TheVariants as op
use Rattle.gb_meaning.specs.Values.{Types, values, first, value_eq}
use Rattle.gb_meaning.specs.Distributions.{product}
use Rattle.gb_meaning.specs.Setting.{Meaning}
use Rattle.gb_meaning.specs.Setting.Meaning.{finite, fraction, weights}
use Rattle.gb_meaning.specs.Meanings.{nothing, of_truth, of_number, value_in, truth, fraction_in, weights_in, scaled}
use Rattle.gb_meaning.specs.Operators.{Argument, alike, entry_of, entry_set, is_none, key_type, weight_of, chosen, nullary, unary, binary, ternary, operated}
use Rattle.gb_smt_laws.specs.Alike.{Alike}
use Rattle.gb_smt_laws.proofs.Fractions.{same_made}
use Rattle.gb_smt_laws.proofs.Alike.{IsProper, alike_itself, alike_of, value_alike, truth_alike, weights_alike, fraction_same, scaled_alike, negated_alike, absolute_alike, quotient_alike, equal_alike, less_alike, most_alike, sum_alike, difference_alike, product_alike}

-- arguments that are the same: their meanings are, and they have one denominator
pub record AreOne (x y : Argument) : Type 0 where
  pub alike : Alike x.meaning y.meaning
  pub denominator : x.denominator ≡ y.denominator
  pub first : IsProper x.meaning
  pub second : IsProper y.meaning

abbrev pub AllOne : List Argument → List Argument → Type 0
AllOne [] [] = Unit {0}
AllOne (x ∷ xs) (y ∷ ys) = AreOne x y × AllOne xs ys
AllOne _ _ = ⊥

module _ (g : Types) (ty : Ty) where
  unary_alike : (o : Op) (x y : Argument) → AreOne x y → Alike (unary g o ty x.meaning) (unary g o ty y.meaning)
  unary_alike op.Not x y h = ap (λ b. of_truth (not b)) (truth_alike x.meaning y.meaning h.alike)
  unary_alike op.Negate x y h = negated_alike x.meaning y.meaning h.alike
  unary_alike op.ToReal x y h = same_made (fraction_in x.meaning) (fraction_in y.meaning) (fraction_same x.meaning y.meaning h.alike)
  unary_alike op.Abs x y h = absolute_alike x.meaning y.meaning h.first h.second h.alike
  unary_alike (op.Part i) x y h = ap (λ v. finite (get_or (parts_of v) (pred i) (Num 0))) (value_alike x.meaning y.meaning h.alike)
  unary_alike op.Some x y h = ap (λ v. finite (Many (v ∷ []))) (value_alike x.meaning y.meaning h.alike)
  unary_alike op.Oget x y h = ap (λ v. finite (first_or (parts_of v) (first g ty))) (value_alike x.meaning y.meaning h.alike)
  unary_alike op.Dunit x y h = ap (λ v. weights (unit v)) (value_alike x.meaning y.meaning h.alike)
  unary_alike _ x y h = refl

  module _ (x y z w : Argument) (h : AreOne x y) (k : AreOne z w) where
    truths : (f : Bool → Bool → Bool) → of_truth (f (truth x.meaning) (truth z.meaning)) ≡ of_truth (f (truth y.meaning) (truth w.meaning))
    truths f =
        ap (λ b. of_truth (f b (truth z.meaning))) (truth_alike x.meaning y.meaning h.alike)
        ∙ ap (λ b. of_truth (f (truth y.meaning) b)) (truth_alike z.meaning w.meaning k.alike)

    read_both : {X : Type 0} (f : Value → Value → X) → f (value_in x.meaning) (value_in z.meaning) ≡ f (value_in y.meaning) (value_in w.meaning)
    read_both f =
        ap (λ v. f v (value_in z.meaning)) (value_alike x.meaning y.meaning h.alike)
        ∙ ap (f (value_in y.meaning)) (value_alike z.meaning w.meaning k.alike)

    -- the weight of a value, and that of one in the support
    weighed : weight_of x.meaning z.meaning ≡ weight_of y.meaning w.meaning
    weighed =
        ap (λ d. weight d (λ r. value_eq r (value_in z.meaning))) (weights_alike x.meaning y.meaning h.alike)
        ∙ ap (λ v. weight (weights_in y.meaning) (λ r. value_eq r v)) (value_alike z.meaning w.meaning k.alike)

    supported : weight_of z.meaning x.meaning ≡ weight_of w.meaning y.meaning
    supported =
        ap (λ d. weight d (λ r. value_eq r (value_in x.meaning))) (weights_alike z.meaning w.meaning k.alike)
        ∙ ap (λ v. weight (weights_in w.meaning) (λ r. value_eq r v)) (value_alike x.meaning y.meaning h.alike)

    binary_alike : (o : Op) → Alike (binary g o ty x z) (binary g o ty y w)
    binary_alike op.And = truths (λ a b. a && b)
    binary_alike op.Or = truths (λ a b. a || b)
    binary_alike op.Implies = truths (λ a b. not a || b)
    binary_alike op.Iff = truths alike
    binary_alike op.Equal = ap of_truth (equal_alike x.meaning y.meaning z.meaning w.meaning h.first h.second k.first k.second h.alike k.alike)
    binary_alike op.NotEqual = ap (λ b. of_truth (not b)) (equal_alike x.meaning y.meaning z.meaning w.meaning h.first h.second k.first k.second h.alike k.alike)
    binary_alike op.Less = ap of_truth (less_alike x.meaning y.meaning z.meaning w.meaning h.first h.second k.first k.second h.alike k.alike)
    binary_alike op.AtMost = ap of_truth (most_alike x.meaning y.meaning z.meaning w.meaning h.first h.second k.first k.second h.alike k.alike)
    binary_alike op.Plus = sum_alike ty x.meaning y.meaning z.meaning w.meaning h.second k.first h.alike k.alike
    binary_alike op.Minus = difference_alike ty x.meaning y.meaning z.meaning w.meaning h.second k.first h.alike k.alike
    binary_alike op.Times = product_alike ty x.meaning y.meaning z.meaning w.meaning h.second k.first h.alike k.alike
    binary_alike op.Xor = read_both (λ u v. of_number (bit_xor (number_of u) (number_of v)))
    binary_alike op.Divide = quotient_alike x.meaning y.meaning z.meaning w.meaning k.first k.second h.alike k.alike
    binary_alike op.Get = read_both (λ u v. finite (Many (entry_of (parts_of u) v)))
    binary_alike op.InMap = read_both (λ u v. of_truth (not (is_none (entry_of (parts_of v) u))))
    binary_alike op.InSupport = ap (λ n. of_truth (nat_lt 0 n)) supported
    binary_alike op.Mu1 =
        alike_of (binary g op.Mu1 ty x z) (binary g op.Mu1 ty y w)
        (ap (λ n. fraction (pos n, x.denominator)) weighed ∙ ap (λ n. fraction (pos (weight_of y.meaning w.meaning), n)) h.denominator)
    binary_alike op.Product =
        ap (λ d. weights (product d (weights_in z.meaning))) (weights_alike x.meaning y.meaning h.alike)
        ∙ ap (λ d. weights (product (weights_in y.meaning) d)) (weights_alike z.meaning w.meaning k.alike)
    binary_alike _ = refl

    -- a conditional
    chosen_alike : (b : Bool) → Alike (chosen b x z) (chosen b y w)
    chosen_alike true = subst (λ n. Alike (scaled z.denominator x.meaning) (scaled n y.meaning)) k.denominator (scaled_alike z.denominator x.meaning y.meaning h.alike)
    chosen_alike false = subst (λ n. Alike (scaled x.denominator z.meaning) (scaled n w.meaning)) h.denominator (scaled_alike x.denominator z.meaning w.meaning k.alike)

  ternary_alike : (o : Op) (x y z w u v : Argument) → AreOne x y → AreOne z w → AreOne u v → Alike (ternary g o ty x z u) (ternary g o ty y w v)
  ternary_alike op.If x y z w u v h k l = subst (λ b. Alike (chosen (truth x.meaning) z u) (chosen b w v)) (truth_alike x.meaning y.meaning h.alike) (chosen_alike z w u v k l (truth x.meaning))
  ternary_alike op.Set x y z w u v h k l =
      ap (λ a. finite (Many (entry_set (values g (key_type ty)) (parts_of a) (value_in z.meaning) (value_in u.meaning)))) (value_alike x.meaning y.meaning h.alike)
      ∙ read_both z w u v k l (λ a b. finite (Many (entry_set (values g (key_type ty)) (parts_of (value_in y.meaning)) a b)))
  ternary_alike _ x y z w u v h k l = refl

  values_one : (xs ys : List Argument) → AllOne xs ys → map (λ x. value_in x.meaning) xs ≡ map (λ x. value_in x.meaning) ys
  values_one [] [] h = refl
  values_one [] (y ∷ ys) h = absurd h
  values_one (x ∷ xs) [] h = absurd h
  values_one (x ∷ xs) (y ∷ ys) h =
      ap (λ v. v ∷ map (λ x. value_in x.meaning) xs) (value_alike x.meaning y.meaning h.0.alike) ∙ ap (λ vs. value_in y.meaning ∷ vs) (values_one xs ys h.1)

  -- an operator that isn't that of tuples, by the number of its arguments
  abbrev by_number : Op → List Argument → Meaning
  by_number o [] = nullary g o ty
  by_number o (a ∷ []) = unary g o ty a.meaning
  by_number o (a ∷ b ∷ []) = binary g o ty a b
  by_number o (a ∷ b ∷ c ∷ []) = ternary g o ty a b c
  by_number o _ = nothing

  by_number_alike : (o : Op) (xs ys : List Argument) → AllOne xs ys → Alike (by_number o xs) (by_number o ys)
  by_number_alike o [] [] h = alike_itself (nullary g o ty)
  by_number_alike o [] (y ∷ ys) h = absurd h
  by_number_alike o (x ∷ xs) [] h = absurd h
  by_number_alike o (x ∷ []) (y ∷ []) h = unary_alike o x y h.0
  by_number_alike o (x ∷ []) (y ∷ w ∷ ys) h = absurd h.1
  by_number_alike o (x ∷ z ∷ xs) (y ∷ []) h = absurd h.1
  by_number_alike o (x ∷ z ∷ []) (y ∷ w ∷ []) h = binary_alike x y z w h.0 h.1.0 o
  by_number_alike o (x ∷ z ∷ []) (y ∷ w ∷ v ∷ ys) h = absurd h.1.1
  by_number_alike o (x ∷ z ∷ u ∷ xs) (y ∷ w ∷ []) h = absurd h.1.1
  by_number_alike o (x ∷ z ∷ u ∷ []) (y ∷ w ∷ v ∷ []) h = ternary_alike o x y z w u v h.0 h.1.0 h.1.1.0
  by_number_alike o (x ∷ z ∷ u ∷ []) (y ∷ w ∷ v ∷ q ∷ ys) h = absurd h.1.1.1
  by_number_alike o (x ∷ z ∷ u ∷ p ∷ xs) (y ∷ w ∷ v ∷ []) h = absurd h.1.1.1
  by_number_alike o (x ∷ z ∷ u ∷ p ∷ xs) (y ∷ w ∷ v ∷ q ∷ ys) h = refl

  abbrev IsNoTuple : Op → Type 0
  IsNoTuple op.Tuple = ⊥
  IsNoTuple _ = Unit {0}

  by_number_is : (o : Op) (xs : List Argument) → IsNoTuple o → operated g o ty xs ≡ by_number o xs
  by_number_is op.Tuple xs n = absurd n
  by_number_is o [] n = refl
  by_number_is o (a ∷ []) n = refl
  by_number_is o (a ∷ b ∷ []) n = refl
  by_number_is o (a ∷ b ∷ c ∷ []) n = refl
  by_number_is o (a ∷ b ∷ c ∷ d ∷ xs) n = refl

  others_alike : (o : Op) → IsNoTuple o → (xs ys : List Argument) → AllOne xs ys → Alike (operated g o ty xs) (operated g o ty ys)
  others_alike o n xs ys h =
      subst (λ m. Alike m (operated g o ty ys)) (sym (by_number_is o xs n)) (subst (Alike (by_number o xs)) (sym (by_number_is o ys n)) (by_number_alike o xs ys h))

  pub operated_alike : (o : Op) (xs ys : List Argument) → AllOne xs ys → Alike (operated g o ty xs) (operated g o ty ys)
  operated_alike op.Tuple xs ys h = ap (λ vs. finite (Many vs)) (values_one xs ys h)
  operated_alike o xs ys h = others_alike o tt xs ys h
