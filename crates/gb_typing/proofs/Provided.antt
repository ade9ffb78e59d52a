-- Module expressions of an interface stand for modules whose procedures are of its types.
use Rattle.std.proofs.Common.{◌≡◌, Bool, true, false, ◌&&◌, List, [], ◌∷◌, ◌++◌, map, Option, Some, None, if◌then◌else◌, bytes_eq, refl, ap, ◌∙◌, subst}
use Rattle.std.proofs.lemmas.Bool.{false≢true, and_parts}
use Rattle.std.proofs.lemmas.Slice.Eq.{bytes_eq-Decides}
use Rattle.gb_core.proofs.SameTypes.{ty_eq-Decides}
use Rattle.gb_terms.specs.declared.decl.TypedName.{TypedName}
use Rattle.gb_terms.specs.declared.module.Mexp.{Mexp, Row_of-Mexp, end_of-Mexp, more_of-Mexp}
use Rattle.gb_terms.specs.declared.module.Mexp.TheVariants.{Name as named, Apply'}
use Rattle.gb_terms.specs.declared.module.ProcRef.{ProcRef}
use Rattle.gb_dist.specs.WeightedList.{Every}
use Rattle.gb_meaning.specs.Names.{Name, Map}
use Rattle.gb_meaning.specs.Program.{Routine}
use Rattle.gb_meaning.specs.Runs.{outcomes}
use Rattle.gb_meaning.specs.Setting.{Setting}
use Rattle.gb_meaning.specs.Sound.{IsSoundRoutine}
use Rattle.gb_meaning.specs.Written.{params_of, result_type}
use Rattle.gb_core.specs.declared.value.Value.{Value}
use Rattle.gb_meaning.specs.Modules.{Procedures, Functor, Applied, found, closed, module_at, modules_at, procedure_at}
use Rattle.gb_meaning.specs.Modules as linked
use Rattle.gb_typing.specs.Modules.{ProcedureType, FunctorType, Interface, Modules, same_params, has_type, provides, is_complete, serve, fits, left_over, lacking, given, interface_at, interfaces_at, of_complete, procedure_of, procedure_type}
use Rattle.gb_typing.specs.Fits.{HasResult, IsOfType}
use mathlib.Core.Former.{Count}

-- A procedure of this type, but for the names of its parameters.
pub record IsLike (g : Setting) (p : ProcedureType) (r : Routine) : Type 0 where
  pub params : map (λ x. x.ty) (params_of r) ≡ map (λ x. x.ty) p.params
  pub result : result_type r ≡ p.result
  pub sound : IsSoundRoutine g r
  pub results : (vs : List Value) (globals : Map) → Every (HasResult g p) (outcomes g r vs globals)

pub like : (g : Setting) (p : ProcedureType) (r : Routine) → IsOfType g p r → IsLike g p r
like g p r w = record { params = ap (map (λ x. x.ty)) w.params; result = w.result; sound = w.sound; results = w.results }

-- each procedure is there, and such
abbrev pub Provide : (ProcedureType → Routine → Type 0) → Procedures ProcedureType → Procedures Routine → Type 0
Provide Q ps rs = (n : Name) (t : ProcedureType) → found ps n ≡ Some t → (r : Routine) × (found rs n ≡ Some r) × Q t r

same_types : (xs ys : List TypedName) → same_params xs ys ≡ true → map (λ x. x.ty) xs ≡ map (λ x. x.ty) ys
same_types [] [] e = refl
same_types [] (y ∷ ys) e = absurd (false≢true e)
same_types (x ∷ xs) [] e = absurd (false≢true e)
same_types (x ∷ xs) (y ∷ ys) e =
    let k = and_parts _ (same_params xs ys) e in
    let one = (ty_eq-Decides x.ty y.ty).0 k.0 in
    let rest = same_types xs ys k.1 in
    λ i. one i ∷ rest i

some_type : (o : Option ProcedureType) (u : ProcedureType) → has_type o u ≡ true → (t : ProcedureType) × (o ≡ Some t) × (has_type (Some t) u ≡ true)
some_type None u e = absurd (false≢true e)
some_type (Some t) u e = (t, refl, e)

abbrev pub is_some : Option ProcedureType → Bool
is_some None = false
is_some (Some t) = true

abbrev pub or_else : ProcedureType → Option ProcedureType → ProcedureType
or_else t None = t
or_else t (Some u) = u

module _ (g : Setting) where
  abbrev pub Like : ProcedureType → Routine → Type 0
  Like p r = IsLike g p r

  retyped : (t u : ProcedureType) (r : Routine) → has_type (Some t) u ≡ true → IsLike g t r → IsLike g u r
  retyped t u r e w =
      let k = and_parts (same_params t.params u.params) _ e in
      let same : t.result ≡ u.result = (ty_eq-Decides t.result u.result).0 k.1 in
      record {
        params = w.params ∙ same_types t.params u.params k.0;
        result = w.result ∙ same;
        sound = w.sound;
        results = λ vs globals. subst (λ ty. Every (HasResult g (record t { result = ty })) (outcomes g r vs globals)) same (w.results vs globals);
      }

  -- what is provided has what fits
  pub narrowed : (ps qs : Procedures ProcedureType) (rs : Procedures Routine) → provides ps qs ≡ true → Provide Like ps rs → Provide Like qs rs
  narrowed ps [] rs e w n t h = absurd (false≢true (ap is_some h))
  narrowed ps (q ∷ qs) rs e w n t h = step (narrowed ps qs rs (k e).1 w n t) (bytes_eq n q.0) refl h
    where
      k : provides ps (q ∷ qs) ≡ true → (has_type (found ps q.0) q.1 ≡ true) × (provides ps qs ≡ true)
      k e = and_parts (has_type (found ps q.0) q.1) (provides ps qs) e

      step : (found qs n ≡ Some t → (r : Routine) × (found rs n ≡ Some r) × IsLike g t r) → (b : Bool) → bytes_eq n q.0 ≡ b → (if b then Some q.1 else found qs n) ≡ Some t → (r : Routine) × (found rs n ≡ Some r) × IsLike g t r
      step later true same h =
          let z = some_type (found ps q.0) q.1 (k e).0 in
          let y = w q.0 z.0 z.1 in
          (y.0, ap (found rs) ((bytes_eq-Decides n q.0).0 same) ∙ y.1, subst (λ t. IsLike g t y.0) (ap (or_else t) h) (retyped z.0 q.1 y.0 z.2 y.2))
      step later false other h = later h

  -- modules with these procedures
  abbrev pub AreGiven : List (Procedures ProcedureType) → List (Procedures Routine) → Type 0
  AreGiven [] [] = Unit {0}
  AreGiven (p ∷ ps) (r ∷ rs) = Provide Like p r × AreGiven ps rs
  AreGiven _ _ = ⊥

  abbrev pub AreServed : List FunctorType → List (Procedures Routine) → Type 0
  AreServed [] [] = Unit {0}
  AreServed (t ∷ ts) (r ∷ rs) = Provide Like t.procedures r × AreServed ts rs
  AreServed _ _ = ⊥

  -- a module of a module type
  abbrev pub IsFunctor : FunctorType → Functor Routine → Type 0
  IsFunctor t f = (rs : List (Procedures Routine)) → AreGiven t.lacks rs → Provide Like t.procedures (f rs)

  abbrev pub AreFunctors : List FunctorType → List (Functor Routine) → Type 0
  AreFunctors [] [] = Unit {0}
  AreFunctors (t ∷ ts) (f ∷ fs) = IsFunctor t f × AreFunctors ts fs
  AreFunctors _ _ = ⊥

  -- what a module name stands for
  abbrev pub IsApplied : (ProcedureType → Routine → Type 0) → Interface → Applied Routine → Type 0
  IsApplied Q i a = (fs : List (Functor Routine)) → AreFunctors i.lacks fs → Provide Q i.procedures (a fs)

  -- what a module expression stands for
  abbrev pub IsOpen : (ProcedureType → Routine → Type 0) → Interface → Functor Routine → Type 0
  IsOpen Q i f = (rs : List (Procedures Routine)) → AreServed i.lacks rs → Provide Q i.procedures (f rs)

  served : (pss : List (Procedures ProcedureType)) (ts : List FunctorType) (rs : List (Procedures Routine)) → serve pss ts ≡ true → AreGiven pss rs → AreServed ts rs
  served [] [] [] e w = tt
  served [] [] (r ∷ rs) e w = absurd w
  served [] (t ∷ ts) rs e w = absurd (false≢true e)
  served (p ∷ ps) [] rs e w = absurd (false≢true e)
  served (p ∷ ps) (t ∷ ts) [] e w = absurd w
  served (p ∷ ps) (t ∷ ts) (r ∷ rs) e w =
      let k = and_parts (provides p t.procedures) (serve ps ts) (and_parts (is_complete t.lacks) (provides p t.procedures && serve ps ts) e).1 in
      (narrowed p t.procedures r k.0 w.0, served ps ts rs k.1 w.1)

  -- a module that lacks nothing may stand for each that lacks
  closed_functors : (ts : List FunctorType) (rs : List (Procedures Routine)) → AreServed ts rs → AreFunctors ts (map closed rs)
  closed_functors [] [] w = tt
  closed_functors [] (r ∷ rs) w = absurd w
  closed_functors (t ∷ ts) [] w = absurd w
  closed_functors (t ∷ ts) (r ∷ rs) w = ((λ xs k. w.0), closed_functors ts rs w.1)

  module _ (Q : ProcedureType → Routine → Type 0) (weak : (t : ProcedureType) (r : Routine) → Q t r → IsLike g t r) where
    weakened : (ps : Procedures ProcedureType) (rs : Procedures Routine) → Provide Q ps rs → Provide Like ps rs
    weakened ps rs w n t e = let k = w n t e in (k.0, k.1, weak t k.0 k.2)

    abbrev pub IsOpenIf : Option Interface → Functor Routine → Type 0
    IsOpenIf None f = Unit {0}
    IsOpenIf (Some i) f = IsOpen Q i f

    abbrev pub AreOpen : List (Option Interface) → List (Functor Routine) → Type 0
    AreOpen [] [] = Unit {0}
    AreOpen (i ∷ is) (f ∷ fs) = IsOpenIf i f × AreOpen is fs
    AreOpen _ _ = ⊥

    fitting : (i : Option Interface) (t : FunctorType) (f : Functor Routine) → fits i t ≡ true → IsOpenIf i f → IsFunctor t f
    fitting None t f e w rs h = absurd (false≢true e)
    fitting (Some i) t f e w rs h =
        let k = and_parts (serve t.lacks i.lacks) (provides i.procedures t.procedures) e in
        narrowed i.procedures t.procedures (f rs) k.1 (weakened i.procedures (f rs) (w rs (served t.lacks i.lacks rs k.0 h)))

    abbrev AreLeft : Option (List FunctorType) → List FunctorType → List (Functor Routine) → List (Procedures Routine) → Type 0
    AreLeft None ts fs rs = Unit {0}
    AreLeft (Some us) ts fs rs = AreServed us rs → AreFunctors ts (fs ++ map closed rs)

    -- modules that fit, and modules for those that are left over
    left : (ts : List FunctorType) (is : List (Option Interface)) (fs : List (Functor Routine)) → AreOpen is fs → (rs : List (Procedures Routine)) → AreLeft (left_over ts is) ts fs rs
    left ts [] [] w rs = closed_functors ts rs
    left ts [] (f ∷ fs) w rs = absurd w
    left [] (i ∷ is) fs w rs = tt
    left (t ∷ ts) (i ∷ is) [] w rs = absurd w
    left (t ∷ ts) (i ∷ is) (f ∷ fs) w rs = step (left ts is fs w.1 rs) (fits i t) refl
      where
        more : (o : Option (List FunctorType)) → AreLeft o ts fs rs → fits i t ≡ true → AreLeft o (t ∷ ts) (f ∷ fs) rs
        more None k e = tt
        more (Some us) k e = λ h. (fitting i t f e w.0, k h)

        step : AreLeft (left_over ts is) ts fs rs → (b : Bool) → fits i t ≡ b → AreLeft (if b then left_over ts is else None) (t ∷ ts) (f ∷ fs) rs
        step rest true e = more (left_over ts is) rest e
        step rest false e = tt

    -- each module name of an interface stands for such a module
    abbrev pub Stand : Modules → linked.Modules Routine → Type 0
    Stand ms ks = (n : Name) (i : Interface) → ms.interfaces n ≡ Some i → IsApplied Q i (ks n)

    module _ (ms : Modules) (ks : linked.Modules Routine) (stand : Stand ms ks) where
      named_open : (n : Name) (o : Option Interface) → ms.interfaces n ≡ o → IsOpenIf o (λ rs. ks n (map closed rs))
      named_open n None e = tt
      named_open n (Some i) e = λ rs h. stand n i e (map closed rs) (closed_functors i.lacks rs h)

      given_open : (n : Name) (o : Option Interface) → ms.interfaces n ≡ o → (is : List (Option Interface)) (fs : List (Functor Routine)) → AreOpen is fs →
          IsOpenIf (given o is) (λ rs. ks n (fs ++ map closed rs))
      given_open n None e is fs w = tt
      given_open n (Some i) e is fs w = step (left_over i.lacks is) refl
        where
          step : (o : Option (List FunctorType)) → left_over i.lacks is ≡ o → IsOpenIf (lacking i o) (λ rs. ks n (fs ++ map closed rs))
          step None h = tt
          step (Some us) h = λ rs k. stand n i e (fs ++ map closed rs) (subst (λ o. AreLeft o i.lacks fs rs) h (left i.lacks is fs w rs) k)

      mutual
        pub open_at : (m : Mexp) → IsOpenIf (interface_at ms m) (module_at ks m)
        open_at (named n) = named_open n (ms.interfaces n) refl
        open_at (Apply' n k args) = given_open n (ms.interfaces n) refl (interfaces_at ms args) (modules_at ks args) (all_open args)

        all_open : {n : Count} (args : Row_of-Mexp n) → AreOpen (interfaces_at ms args) (modules_at ks args)
        all_open end_of-Mexp = tt
        all_open (more_of-Mexp m r) = (open_at m, all_open r)

      complete : (ts : List FunctorType) (ps : Procedures ProcedureType) (n : Name) (t : ProcedureType) → of_complete ts ps n ≡ Some t → (f : Functor Routine) →
          IsOpen Q (record { lacks = ts; procedures = ps }) f → (r : Routine) × (found (f []) n ≡ Some r) × Q t r
      complete [] ps n t e f w = w [] tt n t e
      complete (k ∷ ks) ps n t e f w = absurd (false≢true (ap is_some e))

      procedure_if : (o : Option Interface) (n : Name) (t : ProcedureType) → procedure_of o n ≡ Some t → (f : Functor Routine) → IsOpenIf o f → (r : Routine) × (found (f []) n ≡ Some r) × Q t r
      procedure_if None n t e f w = absurd (false≢true (ap is_some e))
      procedure_if (Some i) n t e f w = complete i.lacks i.procedures n t e f w

      -- each procedure that has a type is there, and such
      pub procedure_stands : (p : ProcRef) (t : ProcedureType) → procedure_type ms p ≡ Some t → (r : Routine) × (procedure_at ks p ≡ Some r) × Q t r
      procedure_stands p t e = procedure_if (interface_at ms p.module) p.name t e (module_at ks p.module) (open_at p.module)
