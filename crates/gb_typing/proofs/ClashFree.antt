-- What a form reads that reads nothing that clashes with a variable.
use Rattle.std.proofs.Common.{if◌then◌else◌, ◌≡◌, Bool, true, false, not, ◌&&◌, ◌||◌, bytes_eq, List, [], ◌∷◌, Option, Some, None, refl, ap, sym, ◌∙◌, subst}
use Rattle.std.proofs.lemmas.Bool.{false≢true, and_parts}
use Rattle.std.proofs.lemmas.Slice.Eq.{bytes_eq-Decides}
use Rattle.std.specs.List.{list_any, filter, AllByRecursion}
use Rattle.gb_core.specs.declared.var.Var.{Var}
use Rattle.gb_core.specs.declared.var.Var.TheVariants as var
use Rattle.gb_terms.specs.declared.op.Side.{Side}
use Rattle.gb_terms.specs.declared.op.Side.TheVariants as side
use Rattle.gb_terms.specs.declared.op.Read.TheVariants.{Logical, Program}
use Rattle.gb_terms.specs.declared.module.Mexp.TheVariants.{Name as named}
use Rattle.gb_terms.specs.declared.term.Term.{Term}
use Rattle.gb_terms.specs.Equal.{var_eq}
use Rattle.gb_terms.proofs.Equality.{side_eq-Decides, var_eq-Decides}
use Rattle.gb_walk.specs.Clash.{Exclusions, variables_read, excludes, clashes, clashes_beside, comes_before, least_from, first_clash}
use Rattle.gb_meaning.specs.Names.{Name}
use Rattle.gb_meaning.specs.Setting.{Setting}
use Rattle.gb_meaning.specs.Values.{Global}
use Rattle.gb_meaning.specs.Footprints.{is_global}
use Rattle.gb_laws.specs.Uses.{Use, Uses, IsWithin}
use Rattle.gb_laws.specs.Uses.Use.{read, bound, globals, starts, binds_own, binds_sides}
use Rattle.gb_laws.specs.Written.{IsSide}
use Rattle.gb_typing.specs.Context.{Context}
use Rattle.gb_typing.specs.Typing.{IsTyped}
use Rattle.gb_typing.specs.Puts.{Readable, reading, share, clash}
use Rattle.gb_typing.proofs.Both.{both, within_both}
use Rattle.gb_typing.specs.Forms.{IsAlone, IsKeptOff}
use Rattle.gb_typing.proofs.Globals.{name_test, or_false}
use Rattle.gb_typing.proofs.Spared.{Clear, spared_variables, spared_within}

not_true : (b : Bool) → not b ≡ true → b ≡ false
not_true true e = absurd (false≢true e)
not_true false e = refl

not_false : (b : Bool) → not b ≡ false → b ≡ true
not_false true e = refl
not_false false e = absurd (false≢true (sym e))

module _ (es : Exclusions) (r : Side) (is : IsSide r) (x : Var) where
  -- where no clash is found there is none
  found_some : {P : Type 0} (y : Var) (xs : List Var) → least_from (Some y) xs ≡ None → P
  found_some y [] e = absurd (false≢true (sym (ap is_some e)))
    where
      is_some : Option Var → Bool
      is_some None = false
      is_some (Some z) = true
  found_some y (z ∷ xs) e = found_some (if comes_before z y then z else y) xs e

  none_found : (ys : List Var) → least_from None (filter (clashes_beside es x) ys) ≡ None → Clear r is (clashes_beside es x) ys
  none_found [] e = tt
  none_found (y ∷ ys) e = at (clashes_beside es x y) (none_found ys) e
    where
      at : (b : Bool) → (least_from None (filter (clashes_beside es x) ys) ≡ None → Clear r is (clashes_beside es x) ys) →
          least_from None (if b then y ∷ filter (clashes_beside es x) ys else filter (clashes_beside es x) ys) ≡ None → (b ≡ false) × Clear r is (clashes_beside es x) ys
      at true f e = found_some y (filter (clashes_beside es x) ys) e
      at false f e = (refl, f e)

  -- the variables that don't clash with x, and x itself
  abbrev apart : Readable
  apart = spared_variables r is (clashes_beside es x)

  pub apart_within : (c : Context) (f : Term) → IsTyped c f → first_clash es r x f ≡ None → IsWithin (reading apart) f
  apart_within c f w e = spared_within r is (clashes_beside es x) c f w (none_found (variables_read r f) e)

-- Globals of two lists none of which is one of the other list.

both_none : (p q : Global → Bool) (ys : List Global) → list_any (λ z. p z || q z) ys ≡ false → (list_any p ys ≡ false) × (list_any q ys ≡ false)
both_none p q [] e = (refl, refl)
both_none p q (y ∷ ys) e =
    let k = or_false (p y || q y) (list_any (λ z. p z || q z) ys) e in
    let l = or_false (p y) (q y) k.0 in
    let m = both_none p q ys k.1 in
    ((λ i. l.0 i || list_any p ys) ∙ m.0, (λ i. l.1 i || list_any q ys) ∙ m.1)

same_global : (x z : Global) → is_global x z ≡ is_global z x
same_global x z = λ i. name_test x.parent z.parent i && name_test x.name z.name i

pub none_both : (xs ys : List Global) → list_any (λ z. list_any (is_global z) xs) ys ≡ false → list_any (λ z. list_any (is_global z) ys) xs ≡ false
none_both [] ys e = refl
none_both (x ∷ xs) ys e =
    let k = both_none (λ z. is_global z x) (λ z. list_any (is_global z) xs) ys e in
    let l : list_any (is_global x) ys ≡ false = (λ i. list_any (λ z. same_global x z i) ys) ∙ k.0 in
    (λ i. l i || list_any (λ z. list_any (is_global z) ys) xs) ∙ none_both xs ys k.1

module _ (g : Setting) where
  none_of : {A : Type 0} (xs : List A) → list_any (λ z. false) xs ≡ false
  none_of [] = refl
  none_of (z ∷ xs) = none_of xs

  -- all globals of a module share nothing with what is excluded
  off_all : (a : Name) (y : Var) (vs : List Var) → AllByRecursion (λ v. share g (var.Glob a) v ≡ false) vs → list_any (var_eq y) vs ≡ true → share g (var.Glob a) y ≡ false
  off_all a y [] h e = absurd (false≢true e)
  off_all a y (v ∷ vs) h e = step (var_eq y v) refl e (off_all a y vs h.1)
    where
      step : (b : Bool) → var_eq y v ≡ b → (b || list_any (var_eq y) vs) ≡ true → (list_any (var_eq y) vs ≡ true → share g (var.Glob a) y ≡ false) → share g (var.Glob a) y ≡ false
      step true q e go = subst (λ z. share g (var.Glob a) z ≡ false) (sym ((var_eq-Decides y v).0 q)) h.0
      step false q e go = go e

  off : (es : Exclusions) → IsKeptOff es g → (a : Name) (y : Var) → excludes es a y ≡ true → share g (var.Glob a) y ≡ false
  off [] k a y e = absurd (false≢true e)
  off (x ∷ es) k a y e = step (bytes_eq a x.«module» && list_any (var_eq y) x.variables) refl e (off es k.1 a y)
    where
      step : (b : Bool) → (bytes_eq a x.«module» && list_any (var_eq y) x.variables) ≡ b → (b || excludes es a y) ≡ true → (excludes es a y ≡ true → share g (var.Glob a) y ≡ false) → share g (var.Glob a) y ≡ false
      step true q e go =
          let l = and_parts (bytes_eq a x.«module») (list_any (var_eq y) x.variables) q in
          subst (λ n. share g (var.Glob n) y ≡ false) (sym ((bytes_eq-Decides a x.«module»).0 l.0)) (off_all x.«module» y x.variables k.0 l.1)
      step false q e go = go e

  module _ (es : Exclusions) (kept : IsKeptOff es g) where
    off_either : (a b : Name) (t : Bool) → excludes es a (var.Glob b) ≡ t → (t || excludes es b (var.Glob a)) ≡ true → share g (var.Glob a) (var.Glob b) ≡ false
    off_either a b true q e = off es kept a (var.Glob b) q
    off_either a b false q e = none_both (g.types.footprint (named a)) (g.types.footprint (named b)) (off es kept b (var.Glob a) e)

    pub no_share : (x y : Var) → clashes es x y ≡ false → share g x y ≡ false
    no_share (var.Glob a) (var.Local y) e = none_of (g.types.footprint (named a))
    no_share (var.Local x) (var.Glob b) e = none_of (g.types.footprint (named b))
    no_share (var.Glob a) (var.Global m y) e = off es kept a (var.Global m y) (not_false (excludes es a (var.Global m y)) e)
    no_share (var.Glob a) (var.Glob b) e =
        let k = or_false (bytes_eq a b) (not (excludes es a (var.Glob b) || excludes es b (var.Glob a))) e in
        off_either a b (excludes es a (var.Glob b)) refl (not_false (excludes es a (var.Glob b) || excludes es b (var.Glob a)) k.1)
    no_share (var.Global m x) (var.Glob b) e = off es kept b (var.Global m x) (not_false (excludes es b (var.Global m x)) e)
    no_share (var.Global m x) (var.Global n y) e = refl
    no_share (var.Global m x) (var.Local y) e = refl
    no_share (var.Local x) (var.Global n y) e = refl
    no_share (var.Local x) (var.Local y) e = refl

    -- no other variable clashes in the setting
    pub alone : (x y : Var) → not (clashes_beside es x y) ≡ true → (x ≡ y → ⊥) → clash g x y ≡ false
    alone x y k n = at (var_eq x y) refl k
      where
        at : (b : Bool) → var_eq x y ≡ b → not (not b && clashes es x y) ≡ true → (b || share g x y) ≡ false
        at true e k = absurd (n ((var_eq-Decides x y).0 e))
        at false e k = no_share x y (not_true (clashes es x y) k)

-- A form is within the variables that don't clash with x, but x.
pub one_clear : (es : Exclusions) (c : Context) (f : Term) → IsTyped c f → (r : Side) → IsSide r → (x : Var) → first_clash es r x f ≡ None →
    (P : Readable) × IsWithin (reading P) f × ((g : Setting) → IsKeptOff es g → IsAlone g x (P r))
one_clear es c f w r i x e = (
  apart es r i x,
  apart_within es r i x c f w e,
  λ g h y k n. alone g es h x y (subst (λ b. not (b && clashes_beside es x y) ≡ true) ((side_eq-Decides r r).1 refl) k) n,
)

-- the same of two variables on both sides
pub two_clear : (es : Exclusions) (c : Context) (f : Term) → IsTyped c f → (x y : Var) → first_clash es side.Left x f ≡ None → first_clash es side.Right y f ≡ None →
    (P : Readable) × IsWithin (reading P) f × ((g : Setting) → IsKeptOff es g → IsAlone g x (P side.Left)) × ((g : Setting) → IsKeptOff es g → IsAlone g y (P side.Right))
two_clear es c f w x y e k = (
  λ s z. apart es side.Left tt x s z && apart es side.Right tt y s z,
  subst (λ (K : Uses). IsWithin K f) (λ i u. in_both u i)
      (within_both (reading (apart es side.Left tt x)) (reading (apart es side.Right tt y)) f (apart_within es side.Left tt x c f w e) (apart_within es side.Right tt y c f w k)),
  λ g h z q n. alone g es h x z (and_parts (apart es side.Left tt x side.Left z) (apart es side.Right tt y side.Left z) q).0 n,
  λ g h z q n. alone g es h y z (and_parts (apart es side.Left tt x side.Right z) (apart es side.Right tt y side.Right z) q).1 n,
)
  where
    in_both : (u : Use) → both (reading (apart es side.Left tt x)) (reading (apart es side.Right tt y)) u ≡ reading (λ s z. apart es side.Left tt x s z && apart es side.Right tt y s z) u
    in_both (read (Logical i) ty) = refl
    in_both (read (Program z s) ty) = refl
    in_both (bound i) = refl
    in_both (globals m s) = refl
    in_both (starts s) = refl
    in_both binds_own = refl
    in_both binds_sides = refl
