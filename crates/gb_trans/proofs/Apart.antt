-- Parts of which nothing crosses name no places of one another.
use Rattle.std.proofs.Common.{◌≡◌, ◌≢◌, Bool, true, false, ◌||◌, if◌then◌else◌, List, [], ◌∷◌, map, Option, Some, None, refl, ap, sym, ◌∙◌}
use Rattle.std.proofs.lemmas.Bool.{false≢true}
use Rattle.std.proofs.lemmas.Option.{none-some}
use Rattle.std.specs.List.{AllByRecursion, filter, list_any}
use Rattle.gb_core.specs.declared.ty.Ty.TheVariants.{Bool as bool_ty}
use Rattle.gb_core.specs.declared.var.Var.{Var}
use Rattle.gb_core.specs.declared.var.Var.TheVariants as var
use Rattle.gb_terms.proofs.Equality.{var_eq-Decides}
use Rattle.gb_terms.specs.declared.module.Mexp.TheVariants.{Name as named}
use Rattle.gb_meaning.specs.Names.{Name, Path}
use Rattle.gb_meaning.specs.Setting.{Setting}
use Rattle.gb_meaning.specs.Values.{Global, Types}
use Rattle.gb_walk.specs.Clash.{Exclusions, clashes, least_from, lesser}
use Rattle.gb_laws.specs.Cells.{Key}
use Rattle.gb_laws.specs.Cells.Key.{global, local}
use Rattle.gb_laws.specs.Writes.{key_of_global, keys_of, IsNone, Spares}
use Rattle.gb_laws.proofs.Cells.{key_discrete}
use Rattle.gb_meaning.specs.Footprints.{is_global}
use Rattle.gb_typing.specs.Forms.{IsKeptOff}
use Rattle.gb_typing.proofs.ClashFree.{no_share, none_both}
use Rattle.gb_typing.proofs.Globals.{none_of, same_global}
use Rattle.gb_forms.specs.declared.effects.Effects.{Effects}
use Rattle.gb_trans.specs.Effects.{crossing, meets}
use Rattle.gb_trans.proofs.Named.{EachNamed}

-- whether a place is one of these

abbrev or_else : {A : Type 0} → Dec A → Bool → Bool
or_else (yes e) b = true
or_else (no h) b = b

abbrev among : Key → List Key → Bool
among k [] = false
among k (q ∷ qs) = or_else (key_discrete k q) (among k qs)

-- whether one of these variables names the place
abbrev pub naming : Types → List Var → Key → Bool
naming t [] k = false
naming t (x ∷ xs) k = among k (keys_of t x) || naming t xs k

none_among : (k : Key) (qs : List Key) → among k qs ≡ false → IsNone k qs
none_among k [] e = tt
none_among k (q ∷ qs) e = step (key_discrete k q) e (none_among k qs)
  where
    step : (d : Dec (k ≡ q)) → or_else d (among k qs) ≡ false → (among k qs ≡ false → IsNone k qs) → IsNone k (q ∷ qs)
    step (yes p) e go = cc
    step (no h) e go = (h, go e)

among_none : (k : Key) (qs : List Key) → IsNone k qs → among k qs ≡ false
among_none k [] h = refl
among_none k (q ∷ qs) h = step (key_discrete k q) (among_none k qs h.1)
  where
    step : (d : Dec (k ≡ q)) → among k qs ≡ false → or_else d (among k qs) ≡ false
    step (yes p) e = absurd (h.0 p)
    step (no n) e = e

either_false : (b c : Bool) → (b || c) ≡ false → (b ≡ false) × (c ≡ false)
either_false true c e = cc
either_false false c e = (refl, e)

both_false : (b c : Bool) → b ≡ false → c ≡ false → (b || c) ≡ false
both_false true c e f = cc
both_false false c e f = f

-- a place that isn't named is spared
pub unnamed_spared : (t : Types) (xs : List Var) (k : Key) → naming t xs k ≡ false → Spares t xs k
unnamed_spared t [] k e = tt
unnamed_spared t (x ∷ xs) k e =
    let z = either_false (among k (keys_of t x)) (naming t xs k) e in
    (none_among k (keys_of t x) z.0, unnamed_spared t xs k z.1)

-- variables that don't clash name no place in common

abbrev as_var : Key → Var
as_var (global (m ∷ x ∷ ns)) = var.Global m x
as_var (global ns) = var.Local []
as_var (local (x ∷ ns)) = var.Local x
as_var (local []) = var.Local []

abbrev is_local : Key → Bool
is_local (local y) = true
is_local (global y) = false

local_none : (p : Path) (fs : List Global) → IsNone (local p) (map key_of_global fs)
local_none p [] = tt
local_none p (f ∷ fs) = ((λ e. false≢true (sym (ap is_local e))), local_none p fs)

globals_none : (p : Path) (fs : List Global) → AllByRecursion (λ k. IsNone k (local p ∷ [])) (map key_of_global fs)
globals_none p [] = tt
globals_none p (f ∷ fs) = (((λ e. false≢true (ap is_local e)), tt), globals_none p fs)

each_other : (x : Global) (zs : List Global) → list_any (is_global x) zs ≡ false → AllByRecursion (λ k. IsNone k (key_of_global x ∷ [])) (map key_of_global zs)
each_other x [] e = tt
each_other x (z ∷ zs) e =
    let k = either_false (is_global x z) (list_any (is_global x) zs) e in
    (((λ p. false≢true (sym k.0 ∙ same_global x z (sym p))), tt), each_other x zs k.1)

all_other : (xs ys : List Global) → list_any (λ z. list_any (is_global z) xs) ys ≡ false → AllByRecursion (λ k. IsNone k (map key_of_global xs)) (map key_of_global ys)
all_other xs [] e = tt
all_other xs (y ∷ ys) e =
    let k = either_false (list_any (is_global y) xs) (list_any (λ z. list_any (is_global z) xs) ys) e in
    (none_of y xs k.0, all_other xs ys k.1)

abbrev named_global : Name → Name → Global
named_global m x = record { parent = m; name = x; ty = bool_ty }

module _ (g : Setting) (es : Exclusions) (off : IsKeptOff es g) where
  abbrev own : Name → List Global
  own a = g.types.footprint (named a)

  apart_keys : (x y : Var) → clashes es x y ≡ false → AllByRecursion (λ k. IsNone k (keys_of g.types x)) (keys_of g.types y)
  apart_keys (var.Global m x) (var.Global n y) e = (((λ p. false≢true (sym e ∙ (var_eq-Decides (var.Global m x) (var.Global n y)).1 (sym (ap as_var p)))), tt), tt)
  apart_keys (var.Global m x) (var.Local y) e = (((λ p. false≢true (sym (ap is_local p))), tt), tt)
  apart_keys (var.Global m x) (var.Glob b) e = each_other (named_global m x) (own b) (no_share g es off (var.Global m x) (var.Glob b) e)
  apart_keys (var.Local x) (var.Global n y) e = (((λ p. false≢true (ap is_local p)), tt), tt)
  apart_keys (var.Local x) (var.Local y) e = (((λ p. false≢true (sym e ∙ (var_eq-Decides (var.Local x) (var.Local y)).1 (sym (ap as_var p)))), tt), tt)
  apart_keys (var.Local x) (var.Glob b) e = globals_none (x ∷ []) (own b)
  apart_keys (var.Glob a) (var.Global n y) e = (none_of (named_global n y) (own a) (no_share g es off (var.Glob a) (var.Global n y) e), tt)
  apart_keys (var.Glob a) (var.Local y) e = (local_none (y ∷ []) (own a), tt)
  apart_keys (var.Glob a) (var.Glob b) e = all_other (own a) (own b) (none_both (own b) (own a) (no_share g es off (var.Glob a) (var.Glob b) e))

-- of each of these variables no one clashes with y
abbrev pub NoneMeets : Exclusions → List Var → List Var → Type 0
NoneMeets es xs ys = AllByRecursion (λ x. meets es ys x ≡ false) xs

module _ (t : Types) where
  with_keys : (x : Var) (xs : List Var) (ks : List Key) → AllByRecursion (λ k. IsNone k (keys_of t x)) ks → AllByRecursion (λ k. naming t xs k ≡ false) ks →
      AllByRecursion (λ k. naming t (x ∷ xs) k ≡ false) ks
  with_keys x xs [] h i = tt
  with_keys x xs (k ∷ ks) h i = (both_false (among k (keys_of t x)) (naming t xs k) (among_none k (keys_of t x) h.0) i.0, with_keys x xs ks h.1 i.1)

  no_keys : (ks : List Key) → AllByRecursion (λ k. naming t [] k ≡ false) ks
  no_keys [] = tt
  no_keys (k ∷ ks) = (refl, no_keys ks)

module _ (g : Setting) (es : Exclusions) (off : IsKeptOff es g) where
  unnamed_by : (xs : List Var) (y : Var) → AllByRecursion (λ x. clashes es x y ≡ false) xs → AllByRecursion (λ k. naming g.types xs k ≡ false) (keys_of g.types y)
  unnamed_by [] y h = no_keys g.types (keys_of g.types y)
  unnamed_by (x ∷ xs) y h = with_keys g.types x xs (keys_of g.types y) (apart_keys g es off x y h.0) (unnamed_by xs y h.1)

  first_meets : (xs : List Var) (y : Var) (ys : List Var) → NoneMeets es xs (y ∷ ys) → AllByRecursion (λ x. clashes es x y ≡ false) xs × NoneMeets es xs ys
  first_meets [] y ys h = (tt, tt)
  first_meets (x ∷ xs) y ys h =
      let z = either_false (clashes es x y) (meets es ys x) h.0 in
      let w = first_meets xs y ys h.1 in
      ((z.0, w.0), (z.1, w.1))

  -- the places of variables with which none of others clashes
  pub unmet_unnamed : (xs ys : List Var) → NoneMeets es xs ys → EachNamed g.types (λ k. naming g.types xs k ≡ false) ys
  unmet_unnamed xs [] h = tt
  unmet_unnamed xs (y ∷ ys) h = let z = first_meets xs y ys h in (unnamed_by xs y z.0, unmet_unnamed xs ys z.1)

-- nothing crosses

some_none : (x : Var) → Some x ≢ None
some_none x e = none-some x (sym e)

none_least : (o : Option Var) (xs : List Var) → least_from o xs ≡ None → (o ≡ None) × (xs ≡ [])
none_least o [] e = (e, refl)
none_least None (x ∷ xs) e = absurd (some_none x (none_least (Some x) xs e).0)
none_least (Some y) (x ∷ xs) e = absurd (some_none _ (none_least (lesser (Some y) x) xs e).0)

nothing_filtered : (P : Var → Bool) (xs : List Var) → filter P xs ≡ [] → AllByRecursion (λ x. P x ≡ false) xs
nothing_filtered P [] e = tt
nothing_filtered P (x ∷ xs) e = by_test (P x) refl e (nothing_filtered P xs)
  where
    by_test : (b : Bool) → P x ≡ b → (if b then x ∷ filter P xs else filter P xs) ≡ [] → (filter P xs ≡ [] → AllByRecursion (λ x. P x ≡ false) xs) → AllByRecursion (λ x. P x ≡ false) (x ∷ xs)
    by_test true d e go = cc
    by_test false d e go = (d, go e)

pub uncrossed : (es : Exclusions) (a b : Effects) → crossing es a b ≡ None → NoneMeets es a.written b.touched × NoneMeets es b.written a.touched
uncrossed es a b e =
    let z = none_least (least_from None (filter (meets es b.touched) a.written)) (filter (meets es a.touched) b.written) e in
    let y = none_least None (filter (meets es b.touched) a.written) z.0 in
    (nothing_filtered (meets es b.touched) a.written y.1, nothing_filtered (meets es a.touched) b.written z.1)
