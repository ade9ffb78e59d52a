-- Types with labels have the values of the types without them where the values of globals are labels.
use Rattle.std.proofs.Common.{◌≡◌, ℕ, suc, ◌/◌, ◌%◌, Bool, true, false, ◌&&◌, if◌then◌else◌, Option, Some, None, List, [], ◌∷◌, map, bytes_eq, refl, ap, sym, ◌∙◌, subst}
use Rattle.gb_core.specs.declared.ty.Ty.{Ty, out-Ty, roll-Ty}
use Rattle.gb_core.specs.declared.ty.Ty.TheVariants as ty
use Rattle.gb_core.specs.declared.ty.Ty.TheOpen as layer
use Rattle.gb_core.specs.declared.ty.Ty.TheViews.{roll-out-Ty}
use Rattle.gb_core.specs.declared.ty.Ty.TheFolds.{fold-roll-Ty, ind-Ty, map-Ty}
use Rattle.gb_core.specs.Numbering.{Numbering, numbers, tuple_of, option_of, map_of}
use Rattle.gb_core.specs.Types.{finite_step, is_finite, all_true}
use Rattle.gb_terms.specs.declared.module.Mexp.TheVariants.{Name as named}
use Rattle.gb_meaning.specs.Names.{Name}
use Rattle.gb_meaning.specs.Values.{Types, values, all_values_by, footprint_values}
use Rattle.gb_meaning.specs.Operators.{is_distribution, outcome_type, key_type, modulus}
use Rattle.gb_meaning.specs.Trees.{distributions, options}
use Rattle.gb_laws.specs.Operators.{row, maps, tuples}
use Rattle.gb_laws.proofs.Constructors.{option_is, distribution_is, map_is, tuple_is}
use Rattle.gb_labels.specs.Labels.{Labels, count_of, labels, labels_or, labelled_layer, labelled_ty, choices, choice_at}
use Rattle.gb_smt_laws.specs.Labels.{AreLabels}

-- a type with labels, by its layers
abbrev labelled_parts : Labels → layer.Ty-F Ty → Ty
labelled_parts ls x = labelled_layer ls (map-Ty Ty Ty (labelled_ty ls) x)

labelled_rolled : (ls : Labels) (x : layer.Ty-F Ty) → labelled_ty ls (roll-Ty x) ≡ labelled_parts ls x
labelled_rolled ls x = fold-roll-Ty Ty (labelled_layer ls) x

-- Values.
module _ (t : Types) (ls : Labels) (are : AreLabels t ls) where
  -- a type that has the same values with labels
  abbrev Kept : Type 0
  Kept = (u : Ty) × (values t (labelled_ty ls u) ≡ values t u)

  abbrev row_of : List Ty → List Numbering
  row_of us = all_values_by (λ n. numbers (t.size n)) (λ m. footprint_values t.size (t.footprint (named m))) (row us)

  row_kept : (ys : List Kept) → row_of (map (labelled_ty ls) (map (λ y. y.0) ys)) ≡ row_of (map (λ y. y.0) ys)
  row_kept [] = refl
  row_kept (y ∷ ys) = let rest = row_kept ys in λ i. y.1 i ∷ rest i

  globals_kept : (m : Name) (o : Option ℕ) → count_of ls m ≡ o → values t (labels_or o (ty.Glob m)) ≡ values t (ty.Glob m)
  globals_kept m None e = refl
  globals_kept m (Some k) e = sym (are m k e)

  layer_kept : (y : layer.Ty-F Kept) → values t (labelled_parts ls (map-Ty Kept Ty (λ y. y.0) y)) ≡ values t (roll-Ty (map-Ty Kept Ty (λ y. y.0) y))
  layer_kept layer.Unit = ap (values t) (sym ty.rolls-Unit)
  layer_kept layer.Bool = ap (values t) (sym ty.rolls-Bool)
  layer_kept (layer.Bits n) = ap (values t) (sym (ty.rolls-Bits n))
  layer_kept (layer.Mod n) = ap (values t) (sym (ty.rolls-Mod n))
  layer_kept (layer.Enumeration x n) = ap (values t) (sym (ty.rolls-Enumeration x n))
  layer_kept (layer.Tuple ys) =
      let us = map (λ (y : Kept). y.0) ys in
      ap (values t) (tuple_is (map (labelled_ty ls) us)) ∙ ap tuple_of (row_kept ys) ∙ ap (values t) (sym (ty.rolls-Tuple us ∙ tuple_is us))
  layer_kept (layer.Opt y) = ap (values t) (option_is (labelled_ty ls y.0)) ∙ ap option_of y.1 ∙ ap (values t) (sym (ty.rolls-Opt y.0 ∙ option_is y.0))
  layer_kept (layer.Map k y) =
      ap (values t) (map_is (labelled_ty ls k.0) (labelled_ty ls y.0))
      ∙ (λ i. map_of (k.1 i) (y.1 i))
      ∙ ap (values t) (sym (ty.rolls-Map k.0 y.0 ∙ map_is k.0 y.0))
  layer_kept (layer.Abstract x) = ap (values t) (sym (ty.rolls-Abstract x))
  layer_kept (layer.Glob m) = globals_kept m (count_of ls m) refl ∙ ap (values t) (sym (ty.rolls-Glob m))
  layer_kept (layer.Distr y) = ap (values t) (distribution_is (labelled_ty ls y.0)) ∙ ap (values t) (sym (ty.rolls-Distr y.0 ∙ distribution_is y.0))
  layer_kept layer.Int = ap (values t) (sym ty.rolls-Int)
  layer_kept layer.Real = ap (values t) (sym ty.rolls-Real)

  pub labelled_values : (u : Ty) → values t (labelled_ty ls u) ≡ values t u
  labelled_values =
      ind-Ty (λ u. values t (labelled_ty ls u) ≡ values t u) (λ x y is.
      ap (values t) (labelled_rolled ls x) ∙ subst (λ (z : layer.Ty-F Ty). values t (labelled_parts ls z) ≡ values t (roll-Ty z)) is (layer_kept y))

-- What operators look at in a type.

-- both are types of distributions, of maps or of numbers below a bound, or none is; parts of the first are those of the second with labels
abbrev pub Alike : Labels → Ty → Ty → Type 0
Alike ls a b =
    (is_distribution a ≡ is_distribution b) × (outcome_type a ≡ labelled_ty ls (outcome_type b)) × (key_type a ≡ labelled_ty ls (key_type b)) × (modulus a ≡ modulus b)

module _ (ls : Labels) where
  unit : labelled_ty ls ty.Unit ≡ ty.Unit
  unit = ap (labelled_ty ls) (sym ty.rolls-Unit) ∙ labelled_rolled ls layer.Unit

  globals_alike : (m : Name) (o : Option ℕ) → Alike ls (labels_or o (ty.Glob m)) (ty.Glob m)
  globals_alike m None = (refl, sym unit, sym unit, refl)
  globals_alike m (Some k) = subst (λ a. Alike ls a (ty.Glob m)) (sym (tuple_is (ty.Mod k ∷ []))) (refl, sym unit, sym unit, refl)

  layer_alike : (x : layer.Ty-F Ty) → Alike ls (labelled_parts ls x) (roll-Ty x)
  layer_alike layer.Unit = subst (Alike ls ty.Unit) (sym ty.rolls-Unit) (refl, sym unit, sym unit, refl)
  layer_alike layer.Bool = subst (Alike ls ty.Bool) (sym ty.rolls-Bool) (refl, sym unit, sym unit, refl)
  layer_alike (layer.Bits n) = subst (Alike ls (ty.Bits n)) (sym (ty.rolls-Bits n)) (refl, sym unit, sym unit, refl)
  layer_alike (layer.Mod n) = subst (Alike ls (ty.Mod n)) (sym (ty.rolls-Mod n)) (refl, sym unit, sym unit, refl)
  layer_alike (layer.Enumeration x n) = subst (Alike ls (ty.Enumeration x n)) (sym (ty.rolls-Enumeration x n)) (refl, sym unit, sym unit, refl)
  layer_alike (layer.Tuple us) =
      subst (λ a. Alike ls a (roll-Ty (layer.Tuple us))) (sym (tuple_is (map (labelled_ty ls) us)))
      (subst (Alike ls (tuples (map (labelled_ty ls) us))) (sym (ty.rolls-Tuple us ∙ tuple_is us)) (refl, sym unit, sym unit, refl))
  layer_alike (layer.Opt u) =
      subst (λ a. Alike ls a (roll-Ty (layer.Opt u))) (sym (option_is (labelled_ty ls u)))
      (subst (Alike ls (options (labelled_ty ls u))) (sym (ty.rolls-Opt u ∙ option_is u)) (refl, sym unit, sym unit, refl))
  layer_alike (layer.Map k u) =
      subst (λ a. Alike ls a (roll-Ty (layer.Map k u))) (sym (map_is (labelled_ty ls k) (labelled_ty ls u)))
      (subst (Alike ls (maps (labelled_ty ls k) (labelled_ty ls u))) (sym (ty.rolls-Map k u ∙ map_is k u)) (refl, sym unit, refl, refl))
  layer_alike (layer.Abstract x) = subst (Alike ls (ty.Abstract x)) (sym (ty.rolls-Abstract x)) (refl, sym unit, sym unit, refl)
  layer_alike (layer.Glob m) = subst (Alike ls (labels_or (count_of ls m) (ty.Glob m))) (sym (ty.rolls-Glob m)) (globals_alike m (count_of ls m))
  layer_alike (layer.Distr u) =
      subst (λ a. Alike ls a (roll-Ty (layer.Distr u))) (sym (distribution_is (labelled_ty ls u)))
      (subst (Alike ls (distributions (labelled_ty ls u))) (sym (ty.rolls-Distr u ∙ distribution_is u)) (refl, refl, sym unit, refl))
  layer_alike layer.Int = subst (Alike ls ty.Int) (sym ty.rolls-Int) (refl, sym unit, sym unit, refl)
  layer_alike layer.Real = subst (Alike ls ty.Real) (sym ty.rolls-Real) (refl, sym unit, sym unit, refl)

  pub labelled_alike : (u : Ty) → Alike ls (labelled_ty ls u) u
  labelled_alike u =
      subst (λ u. Alike ls (labelled_ty ls u) u) (roll-out-Ty u)
      (subst (λ a. Alike ls a (roll-Ty (out-Ty u))) (sym (labelled_rolled ls (out-Ty u))) (layer_alike (out-Ty u)))

-- Labels of the same modules.

abbrev pub is_counted : Option ℕ → Bool
is_counted None = false
is_counted (Some k) = true

-- the same modules have labels
abbrev pub AreOfSame : Labels → Labels → Type 0
AreOfSame ls ms = (m : Name) → is_counted (count_of ls m) ≡ is_counted (count_of ms m)

either : (b : Bool) (j k : ℕ) (o p : Option ℕ) → is_counted o ≡ is_counted p → is_counted (if b then Some j else o) ≡ is_counted (if b then Some k else p)
either true j k o p e = refl
either false j k o p e = e

pub choice_of_same : (ls : Labels) (i : ℕ) → AreOfSame (choice_at ls i) ls
choice_of_same [] i m = refl
choice_of_same (l ∷ ls) i m =
    either (bytes_eq l.name m) (suc (i / choices ls)) l.count (count_of (choice_at ls (i % choices ls)) m) (count_of ls m) (choice_of_same ls (i % choices ls) m)

finite_rolled : (x : layer.Ty-F Ty) → is_finite (roll-Ty x) ≡ finite_step (map-Ty Ty Bool is_finite x)
finite_rolled x = fold-roll-Ty Bool finite_step x

finite_tuple : (us : List Ty) → is_finite (ty.Tuple us) ≡ all_true (map is_finite us)
finite_tuple us = ap is_finite (sym (ty.rolls-Tuple us)) ∙ finite_rolled (layer.Tuple us)

finite_option : (u : Ty) → is_finite (ty.Opt u) ≡ is_finite u
finite_option u = ap is_finite (sym (ty.rolls-Opt u)) ∙ finite_rolled (layer.Opt u)

finite_map : (k u : Ty) → is_finite (ty.Map k u) ≡ (is_finite k && is_finite u)
finite_map k u = ap is_finite (sym (ty.rolls-Map k u)) ∙ finite_rolled (layer.Map k u)

finite_distribution : (u : Ty) → is_finite (ty.Distr u) ≡ false
finite_distribution u = ap is_finite (sym (ty.rolls-Distr u)) ∙ finite_rolled (layer.Distr u)

finite_labels : (k : ℕ) → is_finite (labels k) ≡ true
finite_labels k = finite_tuple (ty.Mod k ∷ []) ∙ ap (λ b. b && true) (ap is_finite (sym (ty.rolls-Mod k)) ∙ finite_rolled (layer.Mod k))

module _ (ls ms : Labels) (same : AreOfSame ls ms) where
  -- a type that is finite with the ones as with the others
  abbrev AsFinite : Type 0
  AsFinite = (u : Ty) × (is_finite (labelled_ty ls u) ≡ is_finite (labelled_ty ms u))

  row_finite : (ys : List AsFinite) → all_true (map is_finite (map (labelled_ty ls) (map (λ y. y.0) ys))) ≡ all_true (map is_finite (map (labelled_ty ms) (map (λ y. y.0) ys)))
  row_finite [] = refl
  row_finite (y ∷ ys) = let rest = row_finite ys in λ i. y.1 i && rest i

  globals_finite : (m : Name) (o p : Option ℕ) → is_counted o ≡ is_counted p → is_finite (labels_or o (ty.Glob m)) ≡ is_finite (labels_or p (ty.Glob m))
  globals_finite m None None e = refl
  globals_finite m None (Some k) e = cc
  globals_finite m (Some j) None e = cc
  globals_finite m (Some j) (Some k) e = finite_labels j ∙ sym (finite_labels k)

  layer_finite : (y : layer.Ty-F AsFinite) → is_finite (labelled_parts ls (map-Ty AsFinite Ty (λ y. y.0) y)) ≡ is_finite (labelled_parts ms (map-Ty AsFinite Ty (λ y. y.0) y))
  layer_finite (layer.Tuple ys) = finite_tuple _ ∙ row_finite ys ∙ sym (finite_tuple _)
  layer_finite (layer.Opt y) = finite_option _ ∙ y.1 ∙ sym (finite_option _)
  layer_finite (layer.Map k y) = finite_map _ _ ∙ (λ i. k.1 i && y.1 i) ∙ sym (finite_map _ _)
  layer_finite (layer.Glob m) = globals_finite m (count_of ls m) (count_of ms m) (same m)
  layer_finite (layer.Distr y) = finite_distribution _ ∙ sym (finite_distribution _)
  layer_finite _ = refl

  pub finite_with_same : (u : Ty) → is_finite (labelled_ty ls u) ≡ is_finite (labelled_ty ms u)
  finite_with_same =
      ind-Ty (λ u. is_finite (labelled_ty ls u) ≡ is_finite (labelled_ty ms u)) (λ x y is.
      ap is_finite (labelled_rolled ls x)
      ∙ subst (λ (z : layer.Ty-F Ty). is_finite (labelled_parts ls z) ≡ is_finite (labelled_parts ms z)) is (layer_finite y)
      ∙ ap is_finite (sym (labelled_rolled ms x)))
