-- Types that forms may have, by their shapes.
use Rattle.std.proofs.Common.{◌≡◌, Bool, true, false, List, [], ◌∷◌, refl, ap, sym, ◌∙◌, subst}
use mathlib.Core.Former.{Count}
use Rattle.std.proofs.lemmas.Bool.{false≢true}
use Rattle.gb_core.specs.declared.ty.Ty.{Ty, Row_of-Ty, out-Ty, roll-Ty, end_of-Ty, more_of-Ty}
use Rattle.gb_core.specs.declared.ty.Ty.TheVariants as ty
use Rattle.gb_core.specs.declared.ty.Ty.TheOpen as layer
use Rattle.gb_core.specs.declared.ty.Ty.TheViews.{roll-out-Ty}
use Rattle.gb_meaning.specs.Operators.{outcome_type, key_type}
use Rattle.gb_meaning.specs.Trees.{distributions, options}
use Rattle.gb_meaning.specs.Globs.{EachGlob, EachGlobIn}
use Rattle.gb_meaning.specs.Names.{Name}
use Rattle.gb_laws.specs.Finite.{AreFiniteWith, IsFiniteWith, IsFinite, IsVariableType}
use Rattle.gb_laws.specs.Operators.{row, items, parts_in, maps, AreFinite, IsDistributionType, IsOptionType, IsMapType, entry_type}
use Rattle.gb_laws.proofs.Constructors.{distribution_is, map_is, option_is, tuple_is}
use Rattle.gb_elab_laws.specs.Fitting.{Allows, AreFiniteIn, IsFiniteIn, IsFormType, of_each_module, of_no_module}

-- what holds of a type that is made of its layer holds of the type
pub by_layer : (P : Ty → Type 0) (t : Ty) → P (roll-Ty (out-Ty t)) → P t
by_layer P t h = subst P (roll-out-Ty t) h

-- a type is made of its layer
pub made_of : (t : Ty) (x : layer.Ty-F Ty) → out-Ty t ≡ x → t ≡ roll-Ty x
made_of t x e = sym (roll-out-Ty t) ∙ ap roll-Ty e

-- from types of values with all types of globals, or without them, to those in which some of them may stand
module _ (globs : Name → Bool) (whole : Bool) (stands : whole ≡ true → (a : Name) → globs a ≡ true) where
  mutual
    finite_in : (t : Ty) → IsFiniteWith whole t → IsFiniteIn globs t
    finite_in (ty.Tuple' n ts) h = row_in ts h
    finite_in (ty.Opt' p x) h = row_in x h
    finite_in (ty.Map' p k q x) h = (row_in k h.0, row_in x h.1)
    finite_in (ty.Glob a) h = stands h a
    finite_in (ty.Distr' p x) h = absurd h
    finite_in _ h = h

    row_in : {n : Count} (ts : Row_of-Ty n) → AreFiniteWith whole ts → AreFiniteIn globs ts
    row_in end_of-Ty h = tt
    row_in (more_of-Ty t ts) h = (finite_in t h.0, row_in ts h.1)

-- and back
module _ (globs : Name → Bool) (whole : Bool) (stands : (a : Name) → globs a ≡ true → whole ≡ true) where
  mutual
    finite_from : (t : Ty) → IsFiniteIn globs t → IsFiniteWith whole t
    finite_from (ty.Tuple' n ts) h = row_from ts h
    finite_from (ty.Opt' p x) h = row_from x h
    finite_from (ty.Map' p k q x) h = (row_from k h.0, row_from x h.1)
    finite_from (ty.Glob a) h = stands a h
    finite_from (ty.Distr' p x) h = absurd h
    finite_from _ h = h

    row_from : {n : Count} (ts : Row_of-Ty n) → AreFiniteIn globs ts → AreFiniteWith whole ts
    row_from end_of-Ty h = tt
    row_from (more_of-Ty t ts) h = (finite_from t h.0, row_from ts h.1)

-- a type of values in which the globals of some modules may stand is one of values
pub with_globs : (globs : Name → Bool) (t : Ty) → IsFiniteIn globs t → IsFinite t
with_globs globs t h = finite_from globs true (λ a e. refl) t h

-- .. and where those of none may, one of variables
pub without_globs : (t : Ty) → IsFiniteIn of_no_module t → IsVariableType t
without_globs t h = finite_from of_no_module false (λ a e. e) t h

-- a type of variables is one of values, also where the globals of modules may stand
pub variable_with : (globs : Name → Bool) (t : Ty) → IsVariableType t → IsFiniteIn globs t
variable_with globs t h = finite_in globs false (λ e. absurd (false≢true e)) t h

-- a type of values is one where the globals of each module may stand
pub finite_each : (t : Ty) → IsFinite t → IsFiniteIn of_each_module t
finite_each t h = finite_in of_each_module true (λ e a. refl) t h

module _ (globs : Name → Bool) where
  mutual
    finite_names : (t : Ty) → IsFiniteIn globs t → EachGlob (Allows globs) t
    finite_names (ty.Tuple' n ts) h = row_names ts h
    finite_names (ty.Opt' p x) h = row_names x h
    finite_names (ty.Map' p k q x) h = (row_names k h.0, row_names x h.1)
    finite_names (ty.Distr' p x) h = absurd h
    finite_names (ty.Glob a) h = h
    finite_names _ h = tt

    row_names : {n : Count} (ts : Row_of-Ty n) → AreFiniteIn globs ts → EachGlobIn (Allows globs) ts
    row_names end_of-Ty h = tt
    row_names (more_of-Ty t ts) h = (finite_names t h.0, row_names ts h.1)

  -- a type of forms speaks of the globals that may stand in it alone
  pub form_names : (t : Ty) → IsFormType globs t → EachGlob (Allows globs) t
  form_names ty.Int h = tt
  form_names ty.Real h = tt
  form_names (ty.Distr' p x) h = row_names x h
  form_names (ty.Tuple' n ts) h = row_names ts h
  form_names (ty.Opt' p x) h = row_names x h
  form_names (ty.Map' p k q x) h = (row_names k h.0, row_names x h.1)
  form_names (ty.Glob a) h = h
  form_names _ h = tt

-- types of values are types of forms
pub finite_form : (globs : Name → Bool) (t : Ty) → IsFiniteIn globs t → IsFormType globs t
finite_form globs ty.Int h = tt
finite_form globs ty.Real h = tt
finite_form globs (ty.Distr' p x) h = absurd h
finite_form globs ty.Unit h = h
finite_form globs ty.Bool h = h
finite_form globs (ty.Bits n) h = h
finite_form globs (ty.Mod n) h = h
finite_form globs (ty.Enumeration x n) h = h
finite_form globs (ty.Tuple' n ts) h = h
finite_form globs (ty.Opt' p x) h = h
finite_form globs (ty.Map' p k q x) h = h
finite_form globs (ty.Abstract x) h = h
finite_form globs (ty.Glob x) h = h

-- so are types of variables
pub variable_form : (globs : Name → Bool) (t : Ty) → IsVariableType t → IsFormType globs t
variable_form globs t h = finite_form globs t (variable_with globs t h)

-- .. and where the globals of each module may stand, types of values
pub value_form : (t : Ty) → IsFinite t → IsFormType of_each_module t
value_form t h = finite_form of_each_module t (finite_each t h)

-- a type of forms in which the globals of none may stand is one where those of some may
pub form_with : (globs : Name → Bool) (t : Ty) → IsFormType of_no_module t → IsFormType globs t
form_with globs ty.Int h = tt
form_with globs ty.Real h = tt
form_with globs (ty.Distr' p x) h = row_in globs false (λ e. absurd (false≢true e)) x (row_from of_no_module false (λ a e. e) x h)
form_with globs ty.Unit h = h
form_with globs ty.Bool h = h
form_with globs (ty.Bits n) h = h
form_with globs (ty.Mod n) h = h
form_with globs (ty.Enumeration x n) h = h
form_with globs (ty.Tuple' n ts) h = variable_with globs (ty.Tuple' n ts) (without_globs (ty.Tuple' n ts) h)
form_with globs (ty.Opt' p x) h = variable_with globs (ty.Opt' p x) (without_globs (ty.Opt' p x) h)
form_with globs (ty.Map' p k q x) h = variable_with globs (ty.Map' p k q x) (without_globs (ty.Map' p k q x) h)
form_with globs (ty.Abstract x) h = h
form_with globs (ty.Glob x) h = absurd (false≢true h)

abbrev pub EachFiniteIn : (Name → Bool) → List Ty → Type 0
EachFiniteIn globs [] = Unit {0}
EachFiniteIn globs (t ∷ ts) = IsFiniteIn globs t × EachFiniteIn globs ts

pub each_finite : (globs : Name → Bool) (ts : List Ty) → EachFiniteIn globs ts → AreFinite ts
each_finite globs [] h = tt
each_finite globs (t ∷ ts) h = (with_globs globs t h.0, each_finite globs ts h.1)

pub items_of : (ts : List Ty) → items (row ts) ≡ ts
items_of [] = refl
items_of (t ∷ ts) = ap (λ z. t ∷ z) (items_of ts)

pub outcome_is : (t : Ty) → outcome_type (ty.Distr t) ≡ t
outcome_is t = ap outcome_type (distribution_is t)

pub key_is : (t u : Ty) → key_type (ty.Map t u) ≡ t
key_is t u = ap key_type (map_is t u)

pub entry_is : (t u : Ty) → entry_type (ty.Map t u) ≡ u
entry_is t u = ap entry_type (map_is t u)

pub parts_are : (ts : List Ty) → parts_in (ty.Tuple ts) ≡ ts
parts_are ts = ap parts_in (tuple_is ts) ∙ items_of ts

pub is_drawn : (t : Ty) → IsFinite t → IsDistributionType (ty.Distr t)
is_drawn t h = subst IsDistributionType (sym (distribution_is t)) h

pub is_option : (t : Ty) → IsFinite t → IsOptionType (ty.Opt t)
is_option t h = subst IsOptionType (sym (option_is t)) h

pub is_map : (t u : Ty) → IsFinite t → IsFinite u → IsMapType (ty.Map t u)
is_map t u h k = subst IsMapType (sym (map_is t u)) (h, k)

module _ (globs : Name → Bool) where
  -- distributions
  pub drawn_form : (t : Ty) → IsFiniteIn globs t → IsFormType globs (ty.Distr t)
  drawn_form t h = subst (IsFormType globs) (sym (distribution_is t)) (h, tt)

  pub outcome_finite : (t : Ty) → IsFormType globs (ty.Distr t) → IsFiniteIn globs t
  outcome_finite t h = let k : IsFormType globs (distributions t) = subst (IsFormType globs) (distribution_is t) h in k.0

  -- options
  pub option_form : (t : Ty) → IsFiniteIn globs t → IsFormType globs (ty.Opt t)
  option_form t h = subst (IsFormType globs) (sym (option_is t)) (h, tt)

  pub some_finite : (t : Ty) → IsFormType globs (ty.Opt t) → IsFiniteIn globs t
  some_finite t h = let k : IsFormType globs (options t) = subst (IsFormType globs) (option_is t) h in k.0

  -- maps
  pub map_form : (t u : Ty) → IsFiniteIn globs t → IsFiniteIn globs u → IsFormType globs (ty.Map t u)
  map_form t u h k = subst (IsFormType globs) (sym (map_is t u)) ((h, tt), (k, tt))

  pub entries_finite : (t u : Ty) → IsFormType globs (ty.Map t u) → IsFiniteIn globs t × IsFiniteIn globs u
  entries_finite t u h = let k : IsFormType globs (maps t u) = subst (IsFormType globs) (map_is t u) h in (k.0.0, k.1.0)

  -- tuples
  pub row_finite : (ts : List Ty) → EachFiniteIn globs ts → AreFiniteIn globs (row ts)
  row_finite [] h = tt
  row_finite (t ∷ ts) h = (h.0, row_finite ts h.1)

  all_finite : (ts : List Ty) → AreFiniteIn globs (row ts) → EachFiniteIn globs ts
  all_finite [] h = tt
  all_finite (t ∷ ts) h = (h.0, all_finite ts h.1)

  pub tuple_form : (ts : List Ty) → EachFiniteIn globs ts → IsFormType globs (ty.Tuple ts)
  tuple_form ts h = subst (IsFormType globs) (sym (tuple_is ts)) (row_finite ts h)

  pub parts_finite : (ts : List Ty) → IsFormType globs (ty.Tuple ts) → EachFiniteIn globs ts
  parts_finite ts h = all_finite ts (subst (IsFormType globs) (tuple_is ts) h)

  pub pair_finite : (t u : Ty) → IsFiniteIn globs t → IsFiniteIn globs u → IsFiniteIn globs (ty.Tuple (t ∷ u ∷ []))
  pair_finite t u h k = subst (IsFiniteIn globs) (sym (tuple_is (t ∷ u ∷ []))) (h, (k, tt))
