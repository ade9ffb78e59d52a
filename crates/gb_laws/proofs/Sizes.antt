-- Finite types have values, and what is read at one is a value of it.
use Rattle.std.proofs.Common.{◌≡◌, ℕ, ◌^◌, ◌<◌, Bool, true, false, if◌then◌else◌, List, [], ◌∷◌, map, Option, Some, None, refl, ap, ◌∙◌, subst, arith}
use Rattle.std.proofs.Math.Nat.{mul-pos, one-le-pow}
use Rattle.std.proofs.lemmas.Bool.{false≢true, and_from}
use Rattle.gb_core.specs.declared.ty.Ty.{Ty, Row_of-Ty, end_of-Ty, more_of-Ty}
use Rattle.gb_core.specs.declared.ty.Ty.TheVariants as ty
use Rattle.gb_core.specs.declared.value.Value.{Value}
use Rattle.gb_core.specs.Numbering.{Numbering, numbers, uncounted, tuples, is_tuple, is_many_in, parts_in, choices, tuple_of, option_of, map_of}
use Rattle.gb_core.proofs.Lawful.{out-Many}
use Rattle.gb_terms.specs.declared.module.Mexp.TheVariants.{Name as named}
use Rattle.gb_meaning.specs.Names.{Name, get}
use Rattle.gb_meaning.specs.Values.{Global, Types, values_by, all_values_by, boxed_values_by, values, first, has, fit}
use Rattle.gb_meaning.specs.Memory.{Memory, read_global, read_globals}
use Rattle.gb_meaning.proofs.Numberings.{lawful}
use Rattle.gb_laws.specs.Finite.{IsFiniteWith, AreFiniteWith, IsFinite, AreVariables, IsInhabited}
use mathlib.Core.Former.{Count}

-- a power of a number above 0 is above 0
pow_above : (n k : ℕ) → 0 < n → 0 < n ^ k
pow_above n k h = let p = one-le-pow k n h in omega (arith, p)

module _ (b : Bool) (a g : Name → Numbering) (la : (n : Name) → 0 < (a n).size) (lg : b ≡ true → (n : Name) → 0 < (g n).size) where
  mutual
    sized : (t : Ty) → IsFiniteWith b t → 0 < (values_by a g t).size
    sized ty.Unit h = omega arith
    sized ty.Bool h = omega arith
    sized (ty.Bits n) h = pow_above 2 n (omega arith)
    sized (ty.Mod n) h = h
    sized (ty.Enumeration name n) h = h
    sized (ty.Tuple' n ts) h = all_sized ts h
    sized (ty.Opt' p x) h = omega arith
    sized (ty.Map' p k q x) h = pow_above (choices (boxed_values_by a g x)) (boxed_values_by a g k).size (omega arith)
    sized (ty.Abstract name) h = la name
    sized (ty.Glob name) h = lg h name
    sized (ty.Distr' p x) h = absurd h
    sized ty.Int h = absurd h
    sized ty.Real h = absurd h

    all_sized : {n : Count} (r : Row_of-Ty n) → AreFiniteWith b r → 0 < tuples (all_values_by a g r)
    all_sized end_of-Ty h = omega arith
    all_sized (more_of-Ty t r) h = mul-pos (sized t h.0) (all_sized r h.1)

-- the values of types without `glob` are the same whatever the values of `glob` are
module _ (a g h : Name → Numbering) where
  mutual
    pub no_globs : (t : Ty) → IsFiniteWith false t → values_by a g t ≡ values_by a h t
    no_globs ty.Unit f = refl
    no_globs ty.Bool f = refl
    no_globs (ty.Bits n) f = refl
    no_globs (ty.Mod n) f = refl
    no_globs (ty.Enumeration name n) f = refl
    no_globs (ty.Tuple' n ts) f = ap tuple_of (all_no_globs ts f)
    no_globs (ty.Opt' p x) f = ap option_of (boxed_no_globs x f)
    no_globs (ty.Map' p k q x) f = λ i. map_of (boxed_no_globs k f.0 i) (boxed_no_globs x f.1 i)
    no_globs (ty.Abstract name) f = refl
    no_globs (ty.Glob name) f = absurd (false≢true f)
    no_globs (ty.Distr' p x) f = refl
    no_globs ty.Int f = refl
    no_globs ty.Real f = refl

    all_no_globs : {n : Count} (r : Row_of-Ty n) → AreFiniteWith false r → all_values_by a g r ≡ all_values_by a h r
    all_no_globs end_of-Ty f = refl
    all_no_globs (more_of-Ty t r) f = λ i. no_globs t f.0 i ∷ all_no_globs r f.1 i

    boxed_no_globs : {n : Count} (r : Row_of-Ty n) → AreFiniteWith false r → boxed_values_by a g r ≡ boxed_values_by a h r
    boxed_no_globs end_of-Ty f = refl
    boxed_no_globs (more_of-Ty t r) f = no_globs t f.0

module _ (t : Types) (i : IsInhabited t) where
  abbrev without : Ty → Numbering
  without u = values_by (λ n. numbers (t.size n)) (λ n. uncounted) u

  globals_sized : (xs : List Global) → AreVariables xs → 0 < tuples (map (λ x. without x.ty) xs)
  globals_sized [] h = omega arith
  globals_sized (x ∷ xs) h = mul-pos (sized false _ _ i.sizes (λ e. absurd (false≢true e)) x.ty h.0) (globals_sized xs h.1)

  -- a finite type has a value
  pub finite_sized : (u : Ty) → IsFinite u → 0 < (values t u).size
  finite_sized u h = sized true _ _ i.sizes (λ e n. globals_sized (t.footprint (named n)) (i.globals (named n))) u h

  pub first_has : (u : Ty) → IsFinite u → has t u (first t u) ≡ true
  first_has u h = (lawful t u).has_at 0 (finite_sized u h)

  fit_step : (u : Ty) (v : Value) → has t u (first t u) ≡ true → (b : Bool) → has t u v ≡ b → has t u (if b then v else first t u) ≡ true
  fit_step u v f true e = e
  fit_step u v f false e = f

  -- what fits is a value of the type
  pub fit_in : (u : Ty) → IsFinite u → (v : Option Value) → has t u (fit t u v) ≡ true
  fit_in u h None = first_has u h
  fit_in u h (Some v) = fit_step u v (first_has u h) (has t u v) refl

  mutual
    pub widened : (u : Ty) → IsFiniteWith false u → IsFinite u
    widened ty.Unit f = f
    widened ty.Bool f = f
    widened (ty.Bits n) f = f
    widened (ty.Mod n) f = f
    widened (ty.Enumeration name n) f = f
    widened (ty.Tuple' n ts) f = all_widened ts f
    widened (ty.Opt' p x) f = all_widened x f
    widened (ty.Map' p k q x) f = (all_widened k f.0, all_widened x f.1)
    widened (ty.Abstract name) f = f
    widened (ty.Glob name) f = absurd (false≢true f)
    widened (ty.Distr' p x) f = f
    widened ty.Int f = f
    widened ty.Real f = f

    all_widened : {n : Count} (r : Row_of-Ty n) → AreFiniteWith false r → AreFiniteWith true r
    all_widened end_of-Ty f = f
    all_widened (more_of-Ty u r) f = (widened u f.0, all_widened r f.1)

  globals_in : (m : Memory) (xs : List Global) → AreVariables xs → is_tuple (map (λ x. without x.ty) xs) (map (read_global t m) xs) ≡ true
  globals_in m [] h = refl
  globals_in m (x ∷ xs) h =
      and_from _ _
      (subst (λ z. z.has (read_global t m x) ≡ true) (no_globs _ _ _ x.ty h.0) (fit_in x.ty (widened x.ty h.0) (get m.globals (x.parent ∷ x.name ∷ []))))
      (globals_in m xs h.1)

  -- the globals of a module are read as a value of its type
  pub glob_in : (m : Memory) (n : Name) → has t (ty.Glob n) (read_globals t m (t.footprint (named n))) ≡ true
  glob_in m n = and_from _ _ (ap is_many_in (out-Many vs)) (ap (λ z. is_tuple ns (parts_in z)) (out-Many vs) ∙ globals_in m (t.footprint (named n)) (i.globals (named n)))
    where
      vs : List Value
      vs = map (read_global t m) (t.footprint (named n))

      ns : List Numbering
      ns = map (λ x. without x.ty) (t.footprint (named n))
