-- Types in which names are names: those of which a type is made, and those that are made of others.
use Rattle.std.proofs.Common.{◌≡◌, ℕ, zero, suc, Bool, true, false, List, [], ◌∷◌, Some, refl, ap, sym, ◌∙◌, subst}
use Rattle.std.proofs.lemmas.Bool.{false≢true}
use Rattle.std.specs.List.{AllByRecursion, slice_get}
use Rattle.gb_core.specs.declared.ty.Ty as X
use Rattle.gb_core.specs.declared.ty.Ty.{Ty, Row_of-Ty, end_of-Ty, more_of-Ty, out-Ty, roll-Ty, items-the_row-Ty, items_shown-the_row-Ty-0}
use Rattle.gb_core.specs.declared.ty.Ty.TheVariants as ty
use Rattle.gb_core.specs.declared.ty.Ty.TheOpen as layer
use Rattle.gb_core.specs.declared.ty.Ty.TheBlock as B
use Rattle.gb_core.specs.declared.ty.Ty.TheViews.{roll-out-Ty}
use Rattle.gb_laws.specs.Operators.{row}
use Rattle.gb_laws.proofs.Constructors.{distribution_is, map_is, option_is, tuple_is}
use Rattle.gb_operators.specs.Kinds.{components, components_layer, element, element_layer, entries, entries_layer, inside_option, option_layer, outcome, outcome_layer}
use Rattle.gb_print.specs.Written.{IsWrittenType, AreWrittenTypes}
use Rattle.gb_print.specs.Written as w
use Rattle.gb_shown.specs.Named.{IsNamedType, AreNamedTypes, IsNamedResult}
use Rattle.gb_shown.proofs.Given.{same_some}
use mathlib.Core.Former.{Count}

-- a type of values is one of forms
pub as_result : (t : Ty) → IsNamedType t → IsNamedResult t
as_result (ty.Distr' p x) h = absurd h
as_result _ h = h

out_distr : (p : _) (x : Ty) → out-Ty (ty.Distr' p (more_of-Ty x end_of-Ty)) ≡ layer.Distr x
unfolding X.out-Ty denote.Hole.Carrier.out B.shown-the_row-Ty-1 denote.Hole.Carrier.shown
out_distr p x = refl

-- a type that passes a test which none of distributions does
pub as_type : (test : layer.Ty-F Ty → Bool) → ((t : Ty) → test (layer.Distr t) ≡ false) → (t : Ty) → IsNamedResult t → test (out-Ty t) ≡ true → IsNamedType t
as_type test apart (ty.Distr' p (more_of-Ty x end_of-Ty)) h e = absurd (false≢true (sym (ap test (out_distr p x) ∙ apart x) ∙ e))
as_type test apart ty.Unit h e = h
as_type test apart ty.Bool h e = h
as_type test apart (ty.Bits n) h e = h
as_type test apart (ty.Mod n) h e = h
as_type test apart (ty.Enumeration x n) h e = h
as_type test apart (ty.Tuple' n ts) h e = h
as_type test apart (ty.Opt' p x) h e = h
as_type test apart (ty.Map' p k q x) h e = h
as_type test apart (ty.Abstract x) h e = h
as_type test apart (ty.Glob x) h e = h
as_type test apart ty.Int h e = h
as_type test apart ty.Real h e = h

-- Types made of others.

pub option_named : (t : Ty) → IsNamedType t → IsNamedType (ty.Opt t)
option_named t h = subst IsNamedType (sym (option_is t)) (h, tt)

pub map_named : (t u : Ty) → IsNamedType t → IsNamedType u → IsNamedType (ty.Map t u)
map_named t u h k = subst IsNamedType (sym (map_is t u)) ((h, tt), (k, tt))

pub distribution_named : (t : Ty) → IsNamedType t → IsNamedResult (ty.Distr t)
distribution_named t h = subst IsNamedResult (sym (distribution_is t)) (h, tt)

row_named : (ts : List Ty) → AllByRecursion IsNamedType ts → AreNamedTypes (row ts)
row_named [] h = tt
row_named (t ∷ ts) h = (h.0, row_named ts h.1)

pub tuple_named : (t u : Ty) (ts : List Ty) → AllByRecursion IsNamedType (t ∷ u ∷ ts) → IsNamedType (ty.Tuple (t ∷ u ∷ ts))
tuple_named t u ts h = subst IsNamedType (sym (tuple_is (t ∷ u ∷ ts))) (tt, row_named (t ∷ u ∷ ts) h)

-- The types of which a type is made.

-- a type is made of its layer
pub whole : (t : Ty) → t ≡ roll-Ty (out-Ty t)
whole t = sym (roll-out-Ty t)

items_named : {n : Count} (r : Row_of-Ty n) → AreNamedTypes r → AllByRecursion IsNamedType (items-the_row-Ty _ r)
items_named end_of-Ty h = tt
items_named (more_of-Ty t r) h = (h.0, items_named r h.1)

-- what the layer of a named type has in it
abbrev OfLayer : layer.Ty-F Ty → Type 0
OfLayer (layer.Tuple ts) = AllByRecursion IsNamedType ts
OfLayer (layer.Opt t) = IsNamedType t
OfLayer (layer.Map k t) = IsNamedType k × IsNamedType t
OfLayer (layer.Distr t) = IsNamedType t
OfLayer _ = Unit {0}

layer_named : (t : Ty) → IsNamedResult t → OfLayer (out-Ty t)
unfolding X.out-Ty denote.Hole.Carrier.out B.shown-the_row-Ty-1 denote.Hole.Carrier.shown
layer_named (ty.Tuple' n r) h = subst (AllByRecursion IsNamedType) (sym (items_shown-the_row-Ty-0 n r)) (items_named r h.1)
layer_named (ty.Opt' p (more_of-Ty x end_of-Ty)) h = h.0
layer_named (ty.Map' p (more_of-Ty k end_of-Ty) q (more_of-Ty x end_of-Ty)) h = (h.0.0, h.1.0)
layer_named (ty.Distr' p (more_of-Ty x end_of-Ty)) h = h.0
layer_named _ h = tt

module _ (t : Ty) (h : IsNamedResult t) where
  pub outcome_named : (u : Ty) → outcome t ≡ Some u → IsNamedType u
  outcome_named u e = step (out-Ty t) (layer_named t h) e
    where
      step : (x : layer.Ty-F Ty) → OfLayer x → outcome_layer x ≡ Some u → IsNamedType u
      step (layer.Distr v) k i = subst IsNamedType (same_some i) k
      step _ k i = cc

  pub inside_named : (u : Ty) → inside_option t ≡ Some u → IsNamedType u
  inside_named u e = step (out-Ty t) (layer_named t h) e
    where
      step : (x : layer.Ty-F Ty) → OfLayer x → option_layer x ≡ Some u → IsNamedType u
      step (layer.Opt v) k i = subst IsNamedType (same_some i) k
      step _ k i = cc

  pub entries_named : (e : Ty × Ty) → entries t ≡ Some e → IsNamedType e.0 × IsNamedType e.1
  entries_named e i = step (out-Ty t) (layer_named t h) i
    where
      step : (x : layer.Ty-F Ty) → OfLayer x → entries_layer x ≡ Some e → IsNamedType e.0 × IsNamedType e.1
      step (layer.Map k v) n i = subst (λ (z : Ty × Ty). IsNamedType z.0 × IsNamedType z.1) {x = (k, v)} (same_some i) n
      step _ n i = cc

  pub element_named : (u : Ty) → element t ≡ Some u → IsNamedType u
  element_named u e = step (out-Ty t) (layer_named t h) e
    where
      step : (x : layer.Ty-F Ty) → OfLayer x → element_layer x ≡ Some u → IsNamedType u
      step (layer.Map k v) n i = subst IsNamedType (same_some i) n.0
      step (layer.Distr v) n i = subst IsNamedType (same_some i) n
      step _ n i = cc

  pub components_named : (us : List Ty) → components t ≡ Some us → AllByRecursion IsNamedType us
  components_named us e = step (out-Ty t) (layer_named t h) e
    where
      step : (x : layer.Ty-F Ty) → OfLayer x → components_layer x ≡ Some us → AllByRecursion IsNamedType us
      step (layer.Tuple vs) k i = subst (AllByRecursion IsNamedType) (same_some i) k
      step _ k i = cc

-- the type at a place of a list
pub got_named : (P : Ty → Type 0) (us : List Ty) (i : ℕ) (t : Ty) → AllByRecursion P us → slice_get us i ≡ Some t → P t
got_named P [] i t h e = cc
got_named P (u ∷ us) zero t h e = subst P (same_some e) h.0
got_named P (u ∷ us) (suc i) t h e = got_named P us i t h.1 e

-- A type as forms print it is named: it is such a type without `glob`.
mutual
  pub written_named : (t : Ty) → IsWrittenType 0 [] t → IsNamedType t
  written_named t (w.unit e) = subst IsNamedType (sym (whole t ∙ ap roll-Ty e ∙ ty.rolls-Unit)) tt
  written_named t (w.bool e) = subst IsNamedType (sym (whole t ∙ ap roll-Ty e ∙ ty.rolls-Bool)) tt
  written_named t (w.whole e) = subst IsNamedType (sym (whole t ∙ ap roll-Ty e ∙ ty.rolls-Int)) tt
  written_named t (w.real e) = subst IsNamedType (sym (whole t ∙ ap roll-Ty e ∙ ty.rolls-Real)) tt
  written_named t (w.bits {n = n} e r) = subst IsNamedType (sym (whole t ∙ ap roll-Ty e ∙ ty.rolls-Bits n)) r
  written_named t (w.numbers {n = n} e r) = subst IsNamedType (sym (whole t ∙ ap roll-Ty e ∙ ty.rolls-Mod n)) r
  written_named t (w.enumeration {x = x} {n = n} e r) = subst IsNamedType (sym (whole t ∙ ap roll-Ty e ∙ ty.rolls-Enumeration x n)) r
  written_named t (w.abstract {x = x} e r) = subst IsNamedType (sym (whole t ∙ ap roll-Ty e ∙ ty.rolls-Abstract x)) r
  written_named t (w.product {u = u} {v = v} {ts = ts} e r) = subst IsNamedType (sym (whole t ∙ ap roll-Ty e ∙ ty.rolls-Tuple (u ∷ v ∷ ts))) (tuple_named u v ts (all_written_named (u ∷ v ∷ ts) r))
  written_named t (w.option {u = u} e r) = subst IsNamedType (sym (whole t ∙ ap roll-Ty e ∙ ty.rolls-Opt u)) (option_named u (written_named u r))
  written_named t (w.maps {u = u} {v = v} e r s) = subst IsNamedType (sym (whole t ∙ ap roll-Ty e ∙ ty.rolls-Map u v)) (map_named u v (written_named u r) (written_named v s))
  written_named t (w.globals e n p) = absurd (false≢true n)

  all_written_named : (ts : List Ty) → AreWrittenTypes 0 [] ts → AllByRecursion IsNamedType ts
  all_written_named [] w.none = tt
  all_written_named (t ∷ ts) (w.more h hs) = (written_named t h, all_written_named ts hs)
