-- Operators have the types of their table also where modules are put in types.
use Rattle.std.proofs.Common.{◌≡◌, ℕ, zero, suc, pred, true, List, [], ◌∷◌, map, Some, refl, ap, sym, ◌∙◌, subst}
use Rattle.std.proofs.lemmas.Option.{none-some}
use Rattle.std.specs.Option.{option_map}
use mathlib.Core.Former.{Count}
use Rattle.gb_core.specs.declared.ty.Ty.{Ty, Row_of-Ty, end_of-Ty, more_of-Ty, items-the_row-Ty}
use Rattle.gb_core.specs.declared.ty.Ty.TheVariants as ty
use Rattle.gb_terms.specs.declared.op.Op.{Op}
use Rattle.gb_terms.specs.declared.op.Op.TheVariants as op
use Rattle.gb_meaning.specs.Globs.{EachGlobIn, IsGlobless}
use Rattle.gb_meaning.specs.Names.{Name}
use Rattle.gb_meaning.specs.Operators.{key_type, outcome_type}
use Rattle.gb_meaning.specs.Trees.{distributions, options}
use Rattle.gb_laws.specs.Finite.{AreFiniteWith, IsFinite}
use Rattle.gb_laws.specs.Operators.{Are, AreFinite, IsArithmetic, IsDistributionType, IsMapType, IsNoDistribution, IsOfBits, IsOfNumbers, IsOperator, IsOptionType, IsOrdered, IsSigned, entry_type, item, items, maps, parts_in, row, tuples}
use Rattle.gb_laws.proofs.Constructors.{distribution_is, map_is, option_is, tuple_is}
use Rattle.gb_instances.specs.Put.{type_put}
use Rattle.gb_arguments.proofs.Literals.{tuple_of}
use Rattle.gb_arguments.proofs.TypeParts.{distr_put, glob_put, is_leaf, leaf_put, map_put, opt_put, tuple_put}

items_row : {n : Count} (r : Row_of-Ty n) → items-the_row-Ty _ r ≡ items r
items_row end_of-Ty = refl
items_row (more_of-Ty t r) = ap (λ z. t ∷ z) (items_row r)

row_items : (ts : List Ty) → items (row ts) ≡ ts
row_items [] = refl
row_items (t ∷ ts) = ap (λ z. t ∷ z) (row_items ts)

module _ (f : Name → Name) where
  abbrev pub led : Ty → Ty
  led t = type_put f t

  -- Types by their parts.

  pub led_options : (t : Ty) → led (options t) ≡ options (led t)
  led_options t = opt_put f tt t ∙ option_is (led t)

  pub led_distributions : (t : Ty) → led (distributions t) ≡ distributions (led t)
  led_distributions t = distr_put f tt t ∙ distribution_is (led t)

  pub led_maps : (k t : Ty) → led (maps k t) ≡ maps (led k) (led t)
  led_maps k t = map_put f tt tt k t ∙ map_is (led k) (led t)

  pub led_tuple : (n : _) (r : _) → led (ty.Tuple' n r) ≡ tuples (map led (items r))
  led_tuple n r = tuple_put f n r ∙ ap (λ z. ty.Tuple (map led z)) (items_row r) ∙ tuple_is (map led (items r))

  pub led_tuples : (ts : List Ty) → led (tuples ts) ≡ tuples (map led ts)
  led_tuples ts = led_tuple _ (row ts) ∙ ap (λ z. tuples (map led z)) (row_items ts)

  pub led_bool : led ty.Bool ≡ ty.Bool
  led_bool = leaf_put f ty.Bool refl

  led_real : led ty.Real ≡ ty.Real
  led_real = leaf_put f ty.Real refl

  -- types without globals of modules stay
  mutual
    pub globless_led : (t : Ty) → IsGlobless t → led t ≡ t
    globless_led (ty.Tuple' n r) w = tuple_put f n r ∙ ap ty.Tuple (globless_each r w) ∙ tuple_of n r
    globless_led (ty.Opt' p (more_of-Ty x end_of-Ty)) w = opt_put f p x ∙ option_is (led x) ∙ ap options (globless_led x w.0)
    globless_led (ty.Map' p (more_of-Ty k end_of-Ty) q (more_of-Ty x end_of-Ty)) w =
        map_put f p q k x ∙ map_is (led k) (led x) ∙ (λ i. maps (globless_led k w.0.0 i) (globless_led x w.1.0 i))
    globless_led (ty.Distr' p (more_of-Ty x end_of-Ty)) w = distr_put f p x ∙ distribution_is (led x) ∙ ap distributions (globless_led x w.0)
    globless_led (ty.Glob a) w = absurd w
    globless_led ty.Unit w = leaf_put f ty.Unit refl
    globless_led ty.Bool w = leaf_put f ty.Bool refl
    globless_led (ty.Bits n) w = leaf_put f (ty.Bits n) refl
    globless_led (ty.Mod n) w = leaf_put f (ty.Mod n) refl
    globless_led (ty.Enumeration x n) w = leaf_put f (ty.Enumeration x n) refl
    globless_led (ty.Abstract x) w = leaf_put f (ty.Abstract x) refl
    globless_led ty.Int w = leaf_put f ty.Int refl
    globless_led ty.Real w = leaf_put f ty.Real refl

    globless_each : {n : Count} (r : Row_of-Ty n) → EachGlobIn (λ m. ⊥) r → map led (items-the_row-Ty _ r) ≡ items r
    globless_each end_of-Ty w = refl
    globless_each (more_of-Ty t r) w = λ i. globless_led t w.0 i ∷ globless_each r w.1 i

  -- types of values stay so
  mutual
    pub finite_led : (t : Ty) → IsFinite t → IsFinite (led t)
    finite_led (ty.Tuple' n r) w = subst IsFinite (sym (led_tuple n r)) (finite_each r w)
    finite_led (ty.Opt' p (more_of-Ty x end_of-Ty)) w = subst IsFinite (sym (opt_put f p x ∙ option_is (led x))) (finite_led x w.0, tt)
    finite_led (ty.Map' p (more_of-Ty k end_of-Ty) q (more_of-Ty x end_of-Ty)) w =
        subst IsFinite (sym (map_put f p q k x ∙ map_is (led k) (led x))) ((finite_led k w.0.0, tt), (finite_led x w.1.0, tt))
    finite_led (ty.Distr' p x) w = absurd w
    finite_led (ty.Glob a) w = subst IsFinite (sym (glob_put f a)) refl
    finite_led ty.Unit w = subst IsFinite (sym (leaf_put f ty.Unit refl)) w
    finite_led ty.Bool w = subst IsFinite (sym (leaf_put f ty.Bool refl)) w
    finite_led (ty.Bits n) w = subst IsFinite (sym (leaf_put f (ty.Bits n) refl)) w
    finite_led (ty.Mod n) w = subst IsFinite (sym (leaf_put f (ty.Mod n) refl)) w
    finite_led (ty.Enumeration x n) w = subst IsFinite (sym (leaf_put f (ty.Enumeration x n) refl)) w
    finite_led (ty.Abstract x) w = subst IsFinite (sym (leaf_put f (ty.Abstract x) refl)) w
    finite_led ty.Int w = absurd w
    finite_led ty.Real w = absurd w

    finite_each : {n : Count} (r : Row_of-Ty n) → AreFiniteWith true r → AreFiniteWith true (row (map led (items r)))
    finite_each end_of-Ty w = tt
    finite_each (more_of-Ty t r) w = (finite_led t w.0, finite_each r w.1)

  are_finite_led : (ts : List Ty) → AreFinite ts → AreFinite (map led ts)
  are_finite_led [] w = tt
  are_finite_led (t ∷ ts) w = (finite_led t w.0, are_finite_led ts w.1)

  pub no_distribution_led : (t : Ty) → IsNoDistribution t → IsNoDistribution (led t)
  no_distribution_led (ty.Tuple' n r) w = subst IsNoDistribution (sym (led_tuple n r)) tt
  no_distribution_led (ty.Opt' p (more_of-Ty x end_of-Ty)) w = subst IsNoDistribution (sym (opt_put f p x ∙ option_is (led x))) tt
  no_distribution_led (ty.Map' p (more_of-Ty k end_of-Ty) q (more_of-Ty x end_of-Ty)) w = subst IsNoDistribution (sym (map_put f p q k x ∙ map_is (led k) (led x))) tt
  no_distribution_led (ty.Distr' p x) w = absurd w
  no_distribution_led (ty.Glob a) w = subst IsNoDistribution (sym (glob_put f a)) tt
  no_distribution_led ty.Unit w = subst IsNoDistribution (sym (leaf_put f ty.Unit refl)) tt
  no_distribution_led ty.Bool w = subst IsNoDistribution (sym (leaf_put f ty.Bool refl)) tt
  no_distribution_led (ty.Bits n) w = subst IsNoDistribution (sym (leaf_put f (ty.Bits n) refl)) tt
  no_distribution_led (ty.Mod n) w = subst IsNoDistribution (sym (leaf_put f (ty.Mod n) refl)) tt
  no_distribution_led (ty.Enumeration x n) w = subst IsNoDistribution (sym (leaf_put f (ty.Enumeration x n) refl)) tt
  no_distribution_led (ty.Abstract x) w = subst IsNoDistribution (sym (leaf_put f (ty.Abstract x) refl)) tt
  no_distribution_led ty.Int w = subst IsNoDistribution (sym (leaf_put f ty.Int refl)) tt
  no_distribution_led ty.Real w = subst IsNoDistribution (sym (leaf_put f ty.Real refl)) tt

  -- Kinds of types without parts.

  by_leaf : (P : Ty → Type 0) (t : Ty) → is_leaf t ≡ true → P t → P (led t)
  by_leaf P t e w = subst P (sym (leaf_put f t e)) w

  ordered_led : (t : Ty) → IsOrdered t → IsOrdered (led t)
  ordered_led (ty.Mod n) w = by_leaf IsOrdered (ty.Mod n) refl w
  ordered_led (ty.Bits n) w = by_leaf IsOrdered (ty.Bits n) refl w
  ordered_led ty.Int w = by_leaf IsOrdered ty.Int refl w
  ordered_led ty.Real w = by_leaf IsOrdered ty.Real refl w
  ordered_led _ w = absurd w

  arithmetic_led : (t : Ty) → IsArithmetic t → IsArithmetic (led t)
  arithmetic_led (ty.Mod n) w = by_leaf IsArithmetic (ty.Mod n) refl w
  arithmetic_led ty.Int w = by_leaf IsArithmetic ty.Int refl w
  arithmetic_led ty.Real w = by_leaf IsArithmetic ty.Real refl w
  arithmetic_led _ w = absurd w

  signed_led : (t : Ty) → IsSigned t → IsSigned (led t)
  signed_led ty.Int w = by_leaf IsSigned ty.Int refl w
  signed_led ty.Real w = by_leaf IsSigned ty.Real refl w
  signed_led _ w = absurd w

  bits_led : (t : Ty) → IsOfBits t → IsOfBits (led t)
  bits_led ty.Bool w = by_leaf IsOfBits ty.Bool refl w
  bits_led (ty.Bits n) w = by_leaf IsOfBits (ty.Bits n) refl w
  bits_led _ w = absurd w

  numbers_led : (t : Ty) → IsOfNumbers t → IsOfNumbers (led t)
  numbers_led (ty.Mod n) w = by_leaf IsOfNumbers (ty.Mod n) refl w
  numbers_led ty.Int w = by_leaf IsOfNumbers ty.Int refl w
  numbers_led _ w = absurd w

  -- Distributions, options, maps and tuples.

  pub distribution_led : (t : Ty) → IsDistributionType t → IsDistributionType (led t) × (outcome_type (led t) ≡ led (outcome_type t))
  distribution_led (ty.Distr' p (more_of-Ty x end_of-Ty)) w =
      let e = distr_put f p x ∙ distribution_is (led x) in
      (subst IsDistributionType (sym e) (finite_led x w), ap outcome_type e)
  distribution_led _ w = absurd w

  option_led : (t : Ty) → IsOptionType t → IsOptionType (led t)
  option_led (ty.Opt' p (more_of-Ty x end_of-Ty)) w = subst IsOptionType (sym (opt_put f p x ∙ option_is (led x))) (finite_led x w)
  option_led _ w = absurd w

  map_led : (t : Ty) → IsMapType t → IsMapType (led t) × (key_type (led t) ≡ led (key_type t)) × (entry_type (led t) ≡ led (entry_type t))
  map_led (ty.Map' p (more_of-Ty k end_of-Ty) q (more_of-Ty x end_of-Ty)) w =
      let e = map_put f p q k x ∙ map_is (led k) (led x) in
      (subst IsMapType (sym e) (finite_led k w.0, finite_led x w.1), ap key_type e, ap entry_type e)
  map_led _ w = absurd w

  item_map : (ts : List Ty) (i : ℕ) → item (map led ts) i ≡ option_map led (item ts i)
  item_map [] i = refl
  item_map (t ∷ ts) zero = refl
  item_map (t ∷ ts) (suc i) = item_map ts i

  part_led : (a t : Ty) (i : ℕ) → item (parts_in a) i ≡ Some t → item (parts_in (led a)) i ≡ Some (led t)
  part_led (ty.Tuple' n r) t i e =
      ap (λ z. item (parts_in z) i) (led_tuple n r) ∙ ap (λ z. item z i) (row_items (map led (items r))) ∙ item_map (items r) i ∙ ap (option_map led) e
  part_led _ t i e = absurd (none-some t e)

  are_led : (ts : List Ty) (t : Ty) → Are ts t → Are (map led ts) (led t)
  are_led [] t w = tt
  are_led (a ∷ ts) t w = (ap led w.0, are_led ts t w.1)

  pub are_bool : (ts : List Ty) → Are ts ty.Bool → Are (map led ts) ty.Bool
  are_bool ts w = subst (Are (map led ts)) led_bool (are_led ts ty.Bool w)

  are_real : (ts : List Ty) → Are ts ty.Real → Are (map led ts) ty.Real
  are_real ts w = subst (Are (map led ts)) led_real (are_led ts ty.Real w)

  pub truth_led : (t : Ty) → t ≡ ty.Bool → led t ≡ ty.Bool
  truth_led t e = ap led e ∙ led_bool

  pub real_led : (t : Ty) → t ≡ ty.Real → led t ≡ ty.Real
  real_led t e = ap led e ∙ led_real

  pub operator_led : (o : Op) (ts : List Ty) (t : Ty) → IsOperator o ts t → IsOperator o (map led ts) (led t)
  operator_led op.Not (a ∷ []) t w = are_bool (a ∷ t ∷ []) w
  operator_led op.And (a ∷ b ∷ []) t w = are_bool (a ∷ b ∷ t ∷ []) w
  operator_led op.Or (a ∷ b ∷ []) t w = are_bool (a ∷ b ∷ t ∷ []) w
  operator_led op.Implies (a ∷ b ∷ []) t w = are_bool (a ∷ b ∷ t ∷ []) w
  operator_led op.Iff (a ∷ b ∷ []) t w = are_bool (a ∷ b ∷ t ∷ []) w
  operator_led op.Equal (a ∷ b ∷ []) t w = (no_distribution_led a w.0, ap led w.1, truth_led t w.2)
  operator_led op.NotEqual (a ∷ b ∷ []) t w = (no_distribution_led a w.0, ap led w.1, truth_led t w.2)
  operator_led op.Less (a ∷ b ∷ []) t w = (ordered_led a w.0, ap led w.1, truth_led t w.2)
  operator_led op.AtMost (a ∷ b ∷ []) t w = (ordered_led a w.0, ap led w.1, truth_led t w.2)
  operator_led op.Plus (a ∷ b ∷ []) t w = (arithmetic_led t w.0, are_led (a ∷ b ∷ []) t w.1)
  operator_led op.Minus (a ∷ b ∷ []) t w = (arithmetic_led t w.0, are_led (a ∷ b ∷ []) t w.1)
  operator_led op.Times (a ∷ b ∷ []) t w = (arithmetic_led t w.0, are_led (a ∷ b ∷ []) t w.1)
  operator_led op.Negate (a ∷ []) t w = (signed_led t w.0, ap led w.1)
  operator_led op.Xor (a ∷ b ∷ []) t w = (bits_led t w.0, are_led (a ∷ b ∷ []) t w.1)
  operator_led op.Divide (a ∷ b ∷ []) t w = are_real (a ∷ b ∷ t ∷ []) w
  operator_led op.ToReal (a ∷ []) t w = (numbers_led a w.0, real_led t w.1)
  operator_led op.Abs (a ∷ []) t w = are_real (a ∷ t ∷ []) w
  operator_led op.If (a ∷ b ∷ c ∷ []) t w = (truth_led a w.0, are_led (b ∷ c ∷ []) t w.1)
  operator_led op.Tuple ts t w = (are_finite_led ts w.0, ap led w.1 ∙ led_tuples ts)
  operator_led (op.Part i) (a ∷ []) t w = (w.0, part_led a t (pred i) w.1, finite_led t w.2)
  operator_led op.Some (a ∷ []) t w = (finite_led a w.0, ap led w.1 ∙ led_options a)
  operator_led op.None [] t w = option_led t w
  operator_led op.Oget (a ∷ []) t w = (finite_led t w.0, ap led w.1 ∙ led_options t)
  operator_led op.Empty [] t w = let k = map_led t w in k.0
  operator_led op.Get (a ∷ b ∷ []) t w =
      let k = map_led a w.0 in (k.0, ap led w.1 ∙ sym k.1, ap led w.2 ∙ led_options (entry_type a) ∙ ap options (sym k.2))
  operator_led op.Set (a ∷ b ∷ c ∷ []) t w =
      (finite_led b w.0, finite_led c w.1, subst (Are (led a ∷ led t ∷ [])) (led_maps b c) (are_led (a ∷ t ∷ []) (maps b c) w.2))
  operator_led op.InMap (a ∷ b ∷ []) t w = let k = map_led b w.0 in (k.0, ap led w.1 ∙ sym k.1, truth_led t w.2)
  operator_led op.InSupport (a ∷ b ∷ []) t w = (finite_led a w.0, ap led w.1 ∙ led_distributions a, truth_led t w.2)
  operator_led op.Mu1 (a ∷ b ∷ []) t w = (finite_led b w.0, ap led w.1 ∙ led_distributions b, real_led t w.2)
  operator_led op.Coin [] t w = ap led w ∙ led_distributions ty.Bool ∙ ap distributions led_bool
  operator_led op.Uniform [] t w = let k = distribution_led t w in k.0
  operator_led op.Dunit (a ∷ []) t w = (finite_led a w.0, ap led w.1 ∙ led_distributions a)
  operator_led op.Product (a ∷ b ∷ []) t w =
      let k = distribution_led a w.0 in
      let l = distribution_led b w.1 in (
        k.0,
        l.0,
        ap led w.2 ∙ led_distributions (tuples (outcome_type a ∷ outcome_type b ∷ [])) ∙ ap distributions (led_tuples (outcome_type a ∷ outcome_type b ∷ []))
            ∙ (λ i. distributions (tuples (sym k.1 i ∷ sym l.1 i ∷ []))),
      )
  operator_led _ ts t w = absurd w
