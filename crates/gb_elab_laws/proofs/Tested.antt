-- What tests of types say of the types that forms may have.
use Rattle.std.proofs.Common.{◌≡◌, ◌⊎◌, inl, inr, ℕ, zero, suc, pred, ◌-◌, ◌==◌, ◌<◌, ◌≤◌, Bool, true, false, if◌then◌else◌, List, [], ◌∷◌, Some, None, refl, ap, sym, ◌∙◌, subst, arith}
use Rattle.std.specs.Prelude.{slice_get}
use Rattle.std.proofs.Math.Numerals.{sub-one}
use Rattle.std.proofs.lemmas.Bool.{false≢true, eqb-false, ltb-true, leb-true}
use Rattle.gb_core.specs.declared.ty.Ty.{Ty, out-Ty, roll-Ty, end_of-Ty, more_of-Ty}
use Rattle.gb_core.specs.declared.ty.Ty.TheVariants as ty
use Rattle.gb_core.specs.declared.ty.Ty.TheOpen as layer
use Rattle.gb_core.specs.declared.ty.Ty.TheViews.{out-roll-Ty}
use Rattle.gb_meaning.specs.Names.{Name}
use Rattle.gb_laws.specs.Operators.{item, IsArithmetic, IsOfBits, IsOfNumbers, IsOrdered, IsSigned}
use Rattle.gb_names.specs.Allowed.{is_distribution, is_distribution_layer}
use Rattle.gb_operators.specs.Domain.{counts_to, counts_to_layer}
use Rattle.gb_operators.specs.Kinds.{component, components, components_layer, element, element_layer, entries, entries_layer, inside_option, is_arithmetic, is_arithmetic_layer, is_of_bits, is_of_bits_layer, is_of_numbers, is_of_numbers_layer, is_of_values, is_of_values_layer, is_ordered, is_ordered_layer, is_signed, is_signed_layer, option_layer, outcome, outcome_layer}
use Rattle.gb_elab_laws.specs.Fitting.{IsFormType, IsFormTypeIf, IsFiniteIn}
use Rattle.gb_elab_laws.proofs.Given.{none_some, same_some}
use Rattle.gb_elab_laws.proofs.Types.{distribution_layer}
use Rattle.gb_elab_laws.proofs.Shapes.{by_layer, made_of, finite_form, EachFiniteIn}

-- a type of which the layer passes a test
tested : (P : Ty → Type 0) (test : layer.Ty-F Ty → Bool) → ((x : layer.Ty-F Ty) → test x ≡ true → P (roll-Ty x)) → (t : Ty) → test (out-Ty t) ≡ true → P t
tested P test step t e = by_layer P t (step (out-Ty t) e)

pub ordered : (t : Ty) → is_ordered t ≡ true → IsOrdered t
ordered = tested IsOrdered is_ordered_layer step
  where
    step : (x : layer.Ty-F Ty) → is_ordered_layer x ≡ true → IsOrdered (roll-Ty x)
    step (layer.Mod n) e = subst IsOrdered (sym (ty.rolls-Mod n)) tt
    step (layer.Bits n) e = subst IsOrdered (sym (ty.rolls-Bits n)) tt
    step layer.Int e = subst IsOrdered (sym ty.rolls-Int) tt
    step layer.Real e = subst IsOrdered (sym ty.rolls-Real) tt
    step _ e = absurd (false≢true e)

pub arithmetic : (t : Ty) → is_arithmetic t ≡ true → IsArithmetic t
arithmetic = tested IsArithmetic is_arithmetic_layer step
  where
    step : (x : layer.Ty-F Ty) → is_arithmetic_layer x ≡ true → IsArithmetic (roll-Ty x)
    step (layer.Mod n) e = subst IsArithmetic (sym (ty.rolls-Mod n)) (ltb-true 0 n e)
    step layer.Int e = subst IsArithmetic (sym ty.rolls-Int) tt
    step layer.Real e = subst IsArithmetic (sym ty.rolls-Real) tt
    step _ e = absurd (false≢true e)

pub signed : (t : Ty) → is_signed t ≡ true → IsSigned t
signed = tested IsSigned is_signed_layer step
  where
    step : (x : layer.Ty-F Ty) → is_signed_layer x ≡ true → IsSigned (roll-Ty x)
    step layer.Int e = subst IsSigned (sym ty.rolls-Int) tt
    step layer.Real e = subst IsSigned (sym ty.rolls-Real) tt
    step _ e = absurd (false≢true e)

pub of_bits : (t : Ty) → is_of_bits t ≡ true → IsOfBits t
of_bits = tested IsOfBits is_of_bits_layer step
  where
    step : (x : layer.Ty-F Ty) → is_of_bits_layer x ≡ true → IsOfBits (roll-Ty x)
    step layer.Bool e = subst IsOfBits (sym ty.rolls-Bool) tt
    step (layer.Bits n) e = subst IsOfBits (sym (ty.rolls-Bits n)) tt
    step _ e = absurd (false≢true e)

pub of_numbers : (t : Ty) → is_of_numbers t ≡ true → IsOfNumbers t
of_numbers = tested IsOfNumbers is_of_numbers_layer step
  where
    step : (x : layer.Ty-F Ty) → is_of_numbers_layer x ≡ true → IsOfNumbers (roll-Ty x)
    step (layer.Mod n) e = subst IsOfNumbers (sym (ty.rolls-Mod n)) tt
    step layer.Int e = subst IsOfNumbers (sym ty.rolls-Int) tt
    step _ e = absurd (false≢true e)

-- a type of forms that passes the test is one of values
pub of_values : (globs : Name → Bool) (t : Ty) → is_of_values t ≡ true → IsFormType globs t → IsFiniteIn globs t
of_values globs ty.Int e f = absurd (false≢true (sym (ap is_of_values_layer (ap out-Ty (sym ty.rolls-Int) ∙ out-roll-Ty layer.Int)) ∙ e))
of_values globs ty.Real e f = absurd (false≢true (sym (ap is_of_values_layer (ap out-Ty (sym ty.rolls-Real) ∙ out-roll-Ty layer.Real)) ∙ e))
of_values globs (ty.Distr' p (more_of-Ty t end_of-Ty)) e f = absurd (false≢true (sym (ap is_of_values_layer (distribution_layer t)) ∙ e))
of_values globs ty.Unit e f = f
of_values globs ty.Bool e f = f
of_values globs (ty.Bits n) e f = f
of_values globs (ty.Mod n) e f = f
of_values globs (ty.Enumeration x n) e f = f
of_values globs (ty.Tuple' n ts) e f = f
of_values globs (ty.Opt' p x) e f = f
of_values globs (ty.Map' p k q x) e f = f
of_values globs (ty.Abstract x) e f = f
of_values globs (ty.Glob x) e f = f

-- a type is made of its layer
whole : (t : Ty) → t ≡ roll-Ty (out-Ty t)
whole t = made_of t (out-Ty t) refl

pub option_of : (t u : Ty) → inside_option t ≡ Some u → t ≡ ty.Opt u
option_of t u e = whole t ∙ step (out-Ty t) e
  where
    step : (x : layer.Ty-F Ty) → option_layer x ≡ Some u → roll-Ty x ≡ ty.Opt u
    step (layer.Opt v) h = ty.rolls-Opt v ∙ ap ty.Opt (same_some v u h)
    step _ h = none_some u h

pub distribution_of : (t u : Ty) → outcome t ≡ Some u → t ≡ ty.Distr u
distribution_of t u e = whole t ∙ step (out-Ty t) e
  where
    step : (x : layer.Ty-F Ty) → outcome_layer x ≡ Some u → roll-Ty x ≡ ty.Distr u
    step (layer.Distr v) h = ty.rolls-Distr v ∙ ap ty.Distr (same_some v u h)
    step _ h = none_some u h

pub map_of : (t : Ty) (e : Ty × Ty) → entries t ≡ Some e → t ≡ ty.Map e.0 e.1
map_of t e h = whole t ∙ step (out-Ty t) h
  where
    step : (x : layer.Ty-F Ty) → entries_layer x ≡ Some e → roll-Ty x ≡ ty.Map e.0 e.1
    step (layer.Map k v) h = ty.rolls-Map k v ∙ ap (λ (z : Ty × Ty). ty.Map z.0 z.1) (same_some (k, v) e h)
    step _ h = none_some e h

pub tuple_of : (t : Ty) (us : List Ty) → components t ≡ Some us → t ≡ ty.Tuple us
tuple_of t us e = whole t ∙ step (out-Ty t) e
  where
    step : (x : layer.Ty-F Ty) → components_layer x ≡ Some us → roll-Ty x ≡ ty.Tuple us
    step (layer.Tuple vs) h = ty.rolls-Tuple vs ∙ ap ty.Tuple (same_some vs us h)
    step _ h = none_some us h

-- what has such elements is a distribution, or else a map
pub element_of : (t u : Ty) → element t ≡ Some u → ((is_distribution t ≡ true) × (t ≡ ty.Distr u)) ⊎ ((v : Ty) × (is_distribution t ≡ false) × (t ≡ ty.Map u v))
element_of t u e = step (out-Ty t) (whole t) e
  where
    step : (x : layer.Ty-F Ty) → t ≡ roll-Ty x → element_layer x ≡ Some u → ((is_distribution_layer x ≡ true) × (t ≡ ty.Distr u)) ⊎ ((v : Ty) × (is_distribution_layer x ≡ false) × (t ≡ ty.Map u v))
    step (layer.Map k v) m h = inr (v, refl, m ∙ ty.rolls-Map k v ∙ ap (λ z. ty.Map z v) (same_some k u h))
    step (layer.Distr v) m h = inl (refl, m ∙ ty.rolls-Distr v ∙ ap ty.Distr (same_some v u h))
    step _ m h = none_some u h

-- an `int[m]` that has the numbers below n
pub counting : (n : ℕ) (t : Ty) → counts_to n t ≡ true → (m : ℕ) × (n ≤ m) × (t ≡ ty.Mod m)
counting n t e = step (out-Ty t) (whole t) e
  where
    step : (x : layer.Ty-F Ty) → t ≡ roll-Ty x → counts_to_layer n x ≡ true → (m : ℕ) × (n ≤ m) × (t ≡ ty.Mod m)
    step (layer.Mod m) w h = (m, leb-true n m h, w ∙ ty.rolls-Mod m)
    step _ w h = absurd (false≢true h)

-- a part of a tuple, by its number
pub got : (us : List Ty) (i : ℕ) (t : Ty) → slice_get us i ≡ Some t → item us i ≡ Some t
got [] i t e = none_some t e
got (u ∷ us) zero t e = e
got (u ∷ us) (suc i) t e = got us i t e

above : (k : ℕ) → (k ≡ 0 → ⊥) → 0 < k
above zero h = absurd (h refl)
above (suc k) h = omega arith

-- the part of a number, counted from 1
pub numbered : (us : List Ty) (k : ℕ) (t : Ty) → component us k ≡ Some t → (0 < k) × (slice_get us (pred k) ≡ Some t)
numbered us k t e = step (k == 0) refl e
  where
    step : (b : Bool) → (k == 0) ≡ b → (if b then None else slice_get us (k - 1)) ≡ Some t → (0 < k) × (slice_get us (pred k) ≡ Some t)
    step true z h = none_some t h
    step false z h = (above k (eqb-false k 0 z), subst (λ i. slice_get us i ≡ Some t) (sub-one k) h)

module _ (globs : Name → Bool) where
  pub got_finite : (us : List Ty) (i : ℕ) (t : Ty) → EachFiniteIn globs us → slice_get us i ≡ Some t → IsFiniteIn globs t
  got_finite [] i t h e = none_some t e
  got_finite (u ∷ us) zero t h e = subst (IsFiniteIn globs) (same_some u t e) h.0
  got_finite (u ∷ us) (suc i) t h e = got_finite us i t h.1 e

  -- the part that is wanted at a place, if one is
  pub got_form : (us : List Ty) (i : ℕ) → EachFiniteIn globs us → IsFormTypeIf globs (slice_get us i)
  got_form [] i h = tt
  got_form (u ∷ us) zero h = finite_form globs u h.0
  got_form (u ∷ us) (suc i) h = got_form us i h.1
