-- Module expressions over modules that are related are related.
use Rattle.std.proofs.Common.{◌≡◌, Bool, true, false, ◌&&◌, List, [], ◌∷◌, ◌++◌, map, Option, Some, None, if◌then◌else◌, bytes_eq, refl, sym, subst}
use Rattle.std.proofs.lemmas.Bool.{false≢true, and_parts}
use Rattle.std.proofs.lemmas.Option.{none-some, same_Some}
use Rattle.std.proofs.lemmas.Slice.Eq.{bytes_eq-Decides}
use mathlib.Core.Former.{Count}
use Rattle.gb_terms.specs.declared.module.Mexp.{Mexp, Row_of-Mexp, end_of-Mexp, more_of-Mexp}
use Rattle.gb_terms.specs.declared.module.Mexp.TheVariants.{Name as named, Apply'}
use Rattle.gb_terms.specs.declared.module.ProcRef.{ProcRef}
use Rattle.gb_meaning.specs.Names.{Name}
use Rattle.gb_meaning.specs.Modules.{Procedures, Functor, Applied, found, closed, argument, module_at, modules_at, procedure_at}
use Rattle.gb_meaning.specs.Modules as linked
use Rattle.gb_typing.specs.Alike.{applied_at}
use Rattle.gb_typing.specs.Modules.{ProcedureType, FunctorType, Interface, Modules, has_type, provides, is_complete, serve, fits, left_over, lacking, given, interface_at, interfaces_at, of_complete, procedure_of, procedure_type, without_lacks, of_functor_type}
use Rattle.gb_arguments.specs.Related.{IsNarrow, Agree, AreAgreeing, IsAlike, AreAlike, StandAlike, AreOpenAlike, AreAllAlike}

some_type : (o : Option ProcedureType) (u : ProcedureType) → has_type o u ≡ true → (t : ProcedureType) × (o ≡ Some t)
some_type None u e = absurd (false≢true e)
some_type (Some t) u e = (t, refl)

-- the procedures that a module type asks for
abbrev asked : FunctorType → Procedures ProcedureType
asked t = t.procedures

module _ {X Y : Type 0} (R : ProcedureType → Option X → Option Y → Type 0) (narrow : IsNarrow R) where
  -- what is asked for is provided
  pub narrowed : (ps qs : Procedures ProcedureType) (xs : Procedures X) (ys : Procedures Y) → provides ps qs ≡ true → Agree R ps xs ys → Agree R qs xs ys
  narrowed ps [] xs ys e w n t h = absurd (none-some t h)
  narrowed ps (q ∷ qs) xs ys e w n t h = step (narrowed ps qs xs ys k.1 w n t) (bytes_eq n q.0) refl h
    where
      k : (has_type (found ps q.0) q.1 ≡ true) × (provides ps qs ≡ true)
      k = and_parts (has_type (found ps q.0) q.1) (provides ps qs) e

      here : R q.1 (found xs q.0) (found ys q.0)
      here =
          let z = some_type (found ps q.0) q.1 k.0 in
          narrow z.0 q.1 (subst (λ o. has_type o q.1 ≡ true) z.1 k.0) (found xs q.0) (found ys q.0) (w q.0 z.0 z.1)

      step : (found qs n ≡ Some t → R t (found xs n) (found ys n)) → (b : Bool) → bytes_eq n q.0 ≡ b → (if b then Some q.1 else found qs n) ≡ Some t → R t (found xs n) (found ys n)
      step later true same h =
          subst (λ j. R t (found xs j) (found ys j)) (sym ((bytes_eq-Decides n q.0).0 same))
          (subst (λ u. R u (found xs q.0) (found ys q.0)) (same_Some q.1 t h) here)
      step later false other h = later h

  served : (pss : List (Procedures ProcedureType)) (ts : List FunctorType) (xs : List (Procedures X)) (ys : List (Procedures Y)) → serve pss ts ≡ true →
      AreAgreeing R pss xs ys → AreAgreeing R (map asked ts) xs ys
  served [] [] [] [] e w = tt
  served [] [] [] (y ∷ ys) e w = absurd w
  served [] [] (x ∷ xs) ys e w = absurd w
  served [] (t ∷ ts) xs ys e w = absurd (false≢true e)
  served (p ∷ ps) [] xs ys e w = absurd (false≢true e)
  served (p ∷ ps) (t ∷ ts) [] ys e w = absurd w
  served (p ∷ ps) (t ∷ ts) (x ∷ xs) [] e w = absurd w
  served (p ∷ ps) (t ∷ ts) (x ∷ xs) (y ∷ ys) e w =
      let k = and_parts (provides p t.procedures) (serve ps ts) (and_parts (is_complete t.lacks) (provides p t.procedures && serve ps ts) e).1 in
      (narrowed p t.procedures x y k.0 w.0, served ps ts xs ys k.1 w.1)

  -- modules that lack nothing may stand for those that lack
  closed_alike : (ts : List FunctorType) (xs : List (Procedures X)) (ys : List (Procedures Y)) → AreAgreeing R (map asked ts) xs ys → AreAlike R ts (map closed xs) (map closed ys)
  closed_alike [] [] [] w = tt
  closed_alike [] [] (y ∷ ys) w = absurd w
  closed_alike [] (x ∷ xs) ys w = absurd w
  closed_alike (t ∷ ts) [] ys w = absurd w
  closed_alike (t ∷ ts) (x ∷ xs) [] w = absurd w
  closed_alike (t ∷ ts) (x ∷ xs) (y ∷ ys) w = ((λ us vs k. w.0), closed_alike ts xs ys w.1)

  abbrev pub AppliedIf : Option Interface → Applied X → Applied Y → Type 0
  AppliedIf None a b = Unit {0}
  AppliedIf (Some i) a b = StandAlike R i a b

  abbrev pub OpenIf : Option Interface → Functor X → Functor Y → Type 0
  OpenIf None f g = Unit {0}
  OpenIf (Some i) f g = AreOpenAlike R i f g

  abbrev pub AreOpen : List (Option Interface) → List (Functor X) → List (Functor Y) → Type 0
  AreOpen [] [] [] = Unit {0}
  AreOpen (i ∷ is) (f ∷ fs) (g ∷ gs) = OpenIf i f g × AreOpen is fs gs
  AreOpen _ _ _ = ⊥

  opened : (o : Option Interface) (a : Applied X) (b : Applied Y) → AppliedIf o a b → OpenIf o (λ xs. a (map closed xs)) (λ xs. b (map closed xs))
  opened None a b w = tt
  opened (Some i) a b w = λ xs ys k. w (map closed xs) (map closed ys) (closed_alike i.lacks xs ys k)

  fitting : (o : Option Interface) (t : FunctorType) (f : Functor X) (g : Functor Y) → fits o t ≡ true → OpenIf o f g → IsAlike R t f g
  fitting None t f g e w xs ys h = absurd (false≢true e)
  fitting (Some i) t f g e w xs ys h =
      let k = and_parts (serve t.lacks i.lacks) (provides i.procedures t.procedures) e in
      narrowed i.procedures t.procedures (f xs) (g ys) k.1 (w xs ys (served t.lacks i.lacks xs ys k.0 h))

  -- what is applied fits a module type as what it makes of closed modules
  pub applied_fitting : (o : Option Interface) (t : FunctorType) (a : Applied X) (b : Applied Y) → fits o t ≡ true → AppliedIf o a b →
      IsAlike R t (λ xs. a (map closed xs)) (λ xs. b (map closed xs))
  applied_fitting o t a b e w = fitting o t (λ xs. a (map closed xs)) (λ xs. b (map closed xs)) e (opened o a b w)

  abbrev AreLeft : Option (List FunctorType) → List FunctorType → List (Functor X) → List (Functor Y) → List (Functor X) → List (Functor Y) → Type 0
  AreLeft None ts fs gs hs js = Unit {0}
  AreLeft (Some us) ts fs gs hs js = AreAlike R us hs js → AreAlike R ts (fs ++ hs) (gs ++ js)

  -- modules that fit, and modules for those that are left over
  left : (ts : List FunctorType) (is : List (Option Interface)) (fs : List (Functor X)) (gs : List (Functor Y)) → AreOpen is fs gs →
      (hs : List (Functor X)) (js : List (Functor Y)) → AreLeft (left_over ts is) ts fs gs hs js
  left ts [] [] [] w hs js = λ z. z
  left ts [] [] (g ∷ gs) w hs js = absurd w
  left ts [] (f ∷ fs) gs w hs js = absurd w
  left [] (i ∷ is) fs gs w hs js = tt
  left (t ∷ ts) (i ∷ is) [] gs w hs js = absurd w
  left (t ∷ ts) (i ∷ is) (f ∷ fs) [] w hs js = absurd w
  left (t ∷ ts) (i ∷ is) (f ∷ fs) (g ∷ gs) w hs js = step (left ts is fs gs w.1 hs js) (fits i t) refl
    where
      more : (o : Option (List FunctorType)) → AreLeft o ts fs gs hs js → fits i t ≡ true → AreLeft o (t ∷ ts) (f ∷ fs) (g ∷ gs) hs js
      more None k e = tt
      more (Some us) k e = λ h. (fitting i t f g e w.0, k h)

      step : AreLeft (left_over ts is) ts fs gs hs js → (b : Bool) → fits i t ≡ b → AreLeft (if b then left_over ts is else None) (t ∷ ts) (f ∷ fs) (g ∷ gs) hs js
      step rest true e = more (left_over ts is) rest e
      step rest false e = tt

  -- modules that lack nothing, closed, for those that a module lacks
  closing : (ps : List (Procedures ProcedureType)) (ts : List FunctorType) (fs : List (Functor X)) (gs : List (Functor Y)) → serve ps ts ≡ true →
      AreAlike R (map without_lacks ps) fs gs → AreAlike R ts (map closed (map (λ a. a []) fs)) gs
  closing [] [] [] [] e w = tt
  closing [] [] [] (g ∷ gs) e w = absurd w
  closing [] [] (f ∷ fs) gs e w = absurd w
  closing [] (t ∷ ts) fs gs e w = absurd (false≢true e)
  closing (p ∷ ps) [] fs gs e w = absurd (false≢true e)
  closing (p ∷ ps) (t ∷ ts) [] gs e w = absurd w
  closing (p ∷ ps) (t ∷ ts) (f ∷ fs) [] e w = absurd w
  closing (p ∷ ps) (t ∷ ts) (f ∷ fs) (g ∷ gs) e w =
      let j = and_parts (is_complete t.lacks) (provides p t.procedures && serve ps ts) e in
      let k = and_parts (provides p t.procedures) (serve ps ts) j.1 in
      (one t.lacks j.0 k.0, closing ps ts fs gs k.1 w.1)
    where
      one : (us : List (Procedures ProcedureType)) → is_complete us ≡ true → provides p t.procedures ≡ true → (xs : List (Procedures X)) (ys : List (Procedures Y)) →
          AreAgreeing R us xs ys → Agree R t.procedures (f []) (g ys)
      one [] c q [] [] h = narrowed p t.procedures (f []) (g []) q (w.0 [] [] tt)
      one [] c q [] (y ∷ ys) h = absurd h
      one [] c q (x ∷ xs) ys h = absurd h
      one (u ∷ us) c q xs ys h = absurd (false≢true c)

  -- what fits a module type, given its own arguments as closed modules or as open ones
  pub closed_if : (o : Option Interface) (t : FunctorType) → fits o t ≡ true → (a : Applied X) (b : Applied Y) → AppliedIf o a b →
      StandAlike R (of_functor_type t) (argument (λ xs. a (map closed xs))) b
  closed_if None t e a b w = absurd (false≢true e)
  closed_if (Some i) t e a b w = λ fs gs h.
      let k = and_parts (serve t.lacks i.lacks) (provides i.procedures t.procedures) e in
      narrowed i.procedures t.procedures (a (map closed (map (λ a. a []) fs))) (b gs) k.1
      (w (map closed (map (λ a. a []) fs)) gs (closing t.lacks i.lacks fs gs k.0 h))

  module _ (ms : Modules) (ks : linked.Modules X) (ls : linked.Modules Y) (stand : AreAllAlike R ms ks ls) where
    name_alike : (n : Name) (o : Option Interface) → ms.interfaces n ≡ o → AppliedIf o (ks n) (ls n)
    name_alike n None e = tt
    name_alike n (Some i) e = stand n i e

    given_alike : (n : Name) (o : Option Interface) → ms.interfaces n ≡ o → (is : List (Option Interface)) (fs : List (Functor X)) (gs : List (Functor Y)) → AreOpen is fs gs →
        AppliedIf (given o is) (λ hs. ks n (fs ++ hs)) (λ hs. ls n (gs ++ hs))
    given_alike n None e is fs gs w = tt
    given_alike n (Some i) e is fs gs w = step (left_over i.lacks is) refl
      where
        step : (o : Option (List FunctorType)) → left_over i.lacks is ≡ o → AppliedIf (lacking i o) (λ hs. ks n (fs ++ hs)) (λ hs. ls n (gs ++ hs))
        step None h = tt
        step (Some us) h = λ hs js k. stand n i e (fs ++ hs) (gs ++ js) (subst (λ o. AreLeft o i.lacks fs gs hs js) h (left i.lacks is fs gs w hs js) k)

    mutual
      open_at : (m : Mexp) → OpenIf (interface_at ms m) (module_at ks m) (module_at ls m)
      open_at (named n) = opened (ms.interfaces n) (ks n) (ls n) (name_alike n (ms.interfaces n) refl)
      open_at (Apply' n k args) =
          opened (given (ms.interfaces n) (interfaces_at ms args)) (λ hs. ks n (modules_at ks args ++ hs)) (λ hs. ls n (modules_at ls args ++ hs))
          (given_alike n (ms.interfaces n) refl (interfaces_at ms args) (modules_at ks args) (modules_at ls args) (all_open args))

      all_open : {n : Count} (args : Row_of-Mexp n) → AreOpen (interfaces_at ms args) (modules_at ks args) (modules_at ls args)
      all_open end_of-Mexp = tt
      all_open (more_of-Mexp m r) = (open_at m, all_open r)

    pub applied_alike : (m : Mexp) → AppliedIf (interface_at ms m) (applied_at ks m) (applied_at ls m)
    applied_alike (named n) = name_alike n (ms.interfaces n) refl
    applied_alike (Apply' n k args) =
        given_alike n (ms.interfaces n) refl (interfaces_at ms args) (modules_at ks args) (modules_at ls args) (all_open args)

    complete : (ts : List FunctorType) (ps : Procedures ProcedureType) (n : Name) (t : ProcedureType) → of_complete ts ps n ≡ Some t → (f : Functor X) (g : Functor Y) →
        AreOpenAlike R (record { lacks = ts; procedures = ps }) f g → R t (found (f []) n) (found (g []) n)
    complete [] ps n t e f g w = w [] [] tt n t e
    complete (k ∷ ks) ps n t e f g w = absurd (none-some t e)

    procedure_if : (o : Option Interface) (n : Name) (t : ProcedureType) → procedure_of o n ≡ Some t → (f : Functor X) (g : Functor Y) → OpenIf o f g →
        R t (found (f []) n) (found (g []) n)
    procedure_if None n t e f g w = absurd (none-some t e)
    procedure_if (Some i) n t e f g w = complete i.lacks i.procedures n t e f g w

    -- what a reference to a procedure that has a type stands for is related
    pub procedure_alike : (p : ProcRef) (t : ProcedureType) → procedure_type ms p ≡ Some t → R t (procedure_at ks p) (procedure_at ls p)
    procedure_alike p t e = procedure_if (interface_at ms p.«module») p.name t e (module_at ks p.«module») (module_at ls p.«module») (open_at p.«module»)

    -- a module expression that fits a module type, given its own arguments as closed modules on one side and as open ones on the other
    pub closed_argument : (m : Mexp) (t : FunctorType) → fits (interface_at ms m) t ≡ true → StandAlike R (of_functor_type t) (argument (module_at ks m)) (applied_at ls m)
    closed_argument (named n) t e = closed_if (ms.interfaces n) t e (ks n) (ls n) (name_alike n (ms.interfaces n) refl)
    closed_argument (Apply' n k args) t e =
        closed_if (given (ms.interfaces n) (interfaces_at ms args)) t e (λ hs. ks n (modules_at ks args ++ hs)) (λ hs. ls n (modules_at ls args ++ hs))
        (given_alike n (ms.interfaces n) refl (interfaces_at ms args) (modules_at ks args) (modules_at ls args) (all_open args))
