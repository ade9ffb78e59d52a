-- Where modules get more procedures, what a reference means keeps its type, also for modules that are given modules.
use Rattle.std.proofs.Common.{◌≡◌, Bool, true, false, ◌&&◌, if◌then◌else◌, List, [], ◌∷◌, Option, Some, None, bytes_eq, refl, ap, sym, ◌∙◌, subst}
use Rattle.std.proofs.lemmas.Bool.{false≢true, and_parts}
use Rattle.std.proofs.lemmas.Slice.Eq.{bytes_eq-Decides}
use Rattle.gb_terms.specs.declared.module.Mexp.{Mexp, Row_of-Mexp, end_of-Mexp, more_of-Mexp}
use Rattle.gb_terms.specs.declared.module.Mexp.TheVariants.{Name as named, Apply'}
use Rattle.gb_terms.specs.declared.module.ProcRef.{ProcRef}
use Rattle.gb_meaning.specs.Names.{Name}
use Rattle.gb_meaning.specs.Declared.{ModuleType}
use Rattle.gb_meaning.specs.Modules.{Procedures, found}
use Rattle.gb_typing.specs.Modules.{ProcedureType, FunctorType, Interface, Modules, has_type, provides, serve, fits, left_over, lacking, given, interface_at, interfaces_at, of_complete, procedure_of, procedure_type, with_interface}
use Rattle.gb_typing.specs.Scopes.{with_type}
use mathlib.Core.Former.{Count}

pub none_some : {A : Type 0} {P : Type 0} (x : A) → None ≡ Some x → P
none_some {A} x e = absurd (false≢true (ap is_some e))
  where
    is_some : Option A → Bool
    is_some None = false
    is_some (Some t) = true

pub same_some : {A : Type 0} (x y : A) → Some x ≡ Some y → x ≡ y
same_some {A} x y e = ap (λ (o : Option A). or_else o) e
  where
    or_else : Option A → A
    or_else None = x
    or_else (Some z) = z

pub cons_nil : {A : Type 0} {P : Type 0} (x : A) (xs : List A) → x ∷ xs ≡ [] → P
cons_nil {A} x xs e = absurd (false≢true (ap is_empty e))
  where
    is_empty : List A → Bool
    is_empty [] = true
    is_empty (y ∷ ys) = false

pub same_name : (n k : Name) → bytes_eq n k ≡ true → n ≡ k
same_name n k e = (bytes_eq-Decides n k).0 e

pub itself : (n : Name) → bytes_eq n n ≡ true
itself n = (bytes_eq-Decides n n).1 refl

-- each of the first procedures is among the second ones, with its type
abbrev pub AreAmong : Procedures ProcedureType → Procedures ProcedureType → Type 0
AreAmong ps qs = (f : Name) (t : ProcedureType) → found ps f ≡ Some t → found qs f ≡ Some t

-- a module that lacks the same ones, and has more procedures
pub record IsGrown (i j : Interface) : Type 0 where
  pub lacks : j.lacks ≡ i.lacks
  pub procedures : AreAmong i.procedures j.procedures

pub grown_itself : (i : Interface) → IsGrown i i
grown_itself i = record { lacks = refl; procedures = λ f t e. e }

pub grown_on : (i j k : Interface) → IsGrown i j → IsGrown j k → IsGrown i k
grown_on i j k a b = record { lacks = b.lacks ∙ a.lacks; procedures = λ f t e. b.procedures f t (a.procedures f t e) }

abbrev pub IsGrownIf : Option Interface → Option Interface → Type 0
IsGrownIf None o = Unit {0}
IsGrownIf (Some i) None = ⊥
IsGrownIf (Some i) (Some j) = IsGrown i j

abbrev pub AreGrown : List (Option Interface) → List (Option Interface) → Type 0
AreGrown [] [] = Unit {0}
AreGrown (i ∷ is) (j ∷ js) = IsGrownIf i j × AreGrown is js
AreGrown _ _ = ⊥

-- what fits a module type, fits it with more procedures

has_more : (ps qs : Procedures ProcedureType) → AreAmong ps qs → (f : Name) (u : ProcedureType) → has_type (found ps f) u ≡ true → has_type (found qs f) u ≡ true
has_more ps qs m f u e = step (found ps f) refl e
  where
    step : (o : Option ProcedureType) → found ps f ≡ o → has_type o u ≡ true → has_type (found qs f) u ≡ true
    step None h e = absurd (false≢true e)
    step (Some t) h e = ap (λ o. has_type o u) (m f t h) ∙ e

provides_more : (ps qs us : Procedures ProcedureType) → AreAmong ps qs → provides ps us ≡ true → provides qs us ≡ true
provides_more ps qs [] m e = refl
provides_more ps qs (u ∷ us) m e =
    let k = and_parts (has_type (found ps u.0) u.1) (provides ps us) e in
    let a = has_more ps qs m u.0 u.1 k.0 in
    let b = provides_more ps qs us m k.1 in
    λ i. a i && b i

fits_more : (i j : Option Interface) (t : FunctorType) → IsGrownIf i j → fits i t ≡ true → fits j t ≡ true
fits_more None j t w e = absurd (false≢true e)
fits_more (Some i) None t w e = absurd w
fits_more (Some i) (Some j) t w e =
    let k = and_parts (serve t.lacks i.lacks) (provides i.procedures t.procedures) e in
    let a : serve t.lacks j.lacks ≡ true = ap (serve t.lacks) w.lacks ∙ k.0 in
    let b = provides_more i.procedures j.procedures t.procedures w.procedures k.1 in
    λ n. a n && b n

left_more : (ts : List FunctorType) (is js : List (Option Interface)) → AreGrown is js → (us : List FunctorType) → left_over ts is ≡ Some us → left_over ts js ≡ Some us
left_more ts [] [] w us e = e
left_more ts [] (j ∷ js) w us e = absurd w
left_more ts (i ∷ is) [] w us e = absurd w
left_more [] (i ∷ is) (j ∷ js) w us e = none_some us e
left_more (t ∷ ts) (i ∷ is) (j ∷ js) w us e = step (left_more ts is js w.1 us) (fits i t) refl e
  where
    step : (left_over ts is ≡ Some us → left_over ts js ≡ Some us) → (b : Bool) → fits i t ≡ b → (if b then left_over ts is else None) ≡ Some us → left_over (t ∷ ts) (j ∷ js) ≡ Some us
    step rest true h e = ap (λ (b : Bool). if b then left_over ts js else None) (fits_more i j t w.0 h) ∙ rest e
    step rest false h e = none_some us e

given_more : (o p : Option Interface) → IsGrownIf o p → (is js : List (Option Interface)) → AreGrown is js → IsGrownIf (given o is) (given p js)
given_more None p w is js v = tt
given_more (Some i) None w is js v = absurd w
given_more (Some i) (Some j) w is js v = step (left_over i.lacks is) refl
  where
    step : (o : Option (List FunctorType)) → left_over i.lacks is ≡ o → IsGrownIf (lacking i o) (lacking j (left_over j.lacks js))
    step None h = tt
    step (Some us) h =
        let z : IsGrown (record i { lacks = us }) (record j { lacks = us }) = record { lacks = refl; procedures = w.procedures } in
        let same : left_over j.lacks js ≡ Some us = ap (λ ts. left_over ts js) w.lacks ∙ left_more i.lacks is js v us h in
        subst (λ x. IsGrownIf (Some (record i { lacks = us })) (lacking j x)) (sym same) z

complete_more : (ts : List FunctorType) (ps qs : Procedures ProcedureType) → AreAmong ps qs → (f : Name) (t : ProcedureType) → of_complete ts ps f ≡ Some t → of_complete ts qs f ≡ Some t
complete_more [] ps qs m f t e = m f t e
complete_more (k ∷ ks) ps qs m f t e = none_some t e

procedure_more : (o p : Option Interface) → IsGrownIf o p → (f : Name) (t : ProcedureType) → procedure_of o f ≡ Some t → procedure_of p f ≡ Some t
procedure_more None p w f t e = none_some t e
procedure_more (Some i) None w f t e = absurd w
procedure_more (Some i) (Some j) w f t e = ap (λ ts. of_complete ts j.procedures f) w.lacks ∙ complete_more i.lacks i.procedures j.procedures w.procedures f t e

-- the module types that are known stay, and the modules lack the same ones and have more procedures
pub record HasMore (ms ks : Modules) : Type 0 where
  pub types : (n : Name) (t : ModuleType) → ms.types n ≡ Some t → ks.types n ≡ Some t
  pub interfaces : (n : Name) (i : Interface) → ms.interfaces n ≡ Some i → (j : Interface) × (ks.interfaces n ≡ Some j) × IsGrown i j

module _ (ms ks : Modules) (g : HasMore ms ks) where
  named_more : (n : Name) (o : Option Interface) → ms.interfaces n ≡ o → IsGrownIf o (ks.interfaces n)
  named_more n None e = tt
  named_more n (Some i) e = let z = g.interfaces n i e in subst (IsGrownIf (Some i)) (sym z.1) z.2

  mutual
    -- a module expression lacks the same ones, and has more procedures
    pub more_at : (m : Mexp) → IsGrownIf (interface_at ms m) (interface_at ks m)
    more_at (named n) = named_more n (ms.interfaces n) refl
    more_at (Apply' n k args) = given_more (ms.interfaces n) (ks.interfaces n) (named_more n (ms.interfaces n) refl) (interfaces_at ms args) (interfaces_at ks args) (all_more args)

    all_more : {n : Count} (args : Row_of-Mexp n) → AreGrown (interfaces_at ms args) (interfaces_at ks args)
    all_more end_of-Mexp = tt
    all_more (more_of-Mexp m r) = (more_at m, all_more r)

  -- what a reference means keeps its type
  pub type_stays : (p : ProcRef) (t : ProcedureType) → procedure_type ms p ≡ Some t → procedure_type ks p ≡ Some t
  type_stays p t e = procedure_more (interface_at ms p.«module») (interface_at ks p.«module») (more_at p.«module») p.name t e

pub more_itself : (ms : Modules) → HasMore ms ms
more_itself ms = record { types = λ n t e. e; interfaces = λ n i e. (i, e, grown_itself i) }

pub more_on : (ms ks ls : Modules) → HasMore ms ks → HasMore ks ls → HasMore ms ls
more_on ms ks ls a b = record {
  types = λ n t e. b.types n t (a.types n t e);
  interfaces = λ n i e. let x = a.interfaces n i e in let y = b.interfaces n x.0 x.1 in (y.0, y.1, grown_on i x.0 y.0 x.2 y.2);
}

-- a module of a name under which none is known
pub more_interface : (ms : Modules) (n : Name) (o : Option Interface) → ms.interfaces n ≡ None → HasMore ms (with_interface ms n o)
more_interface ms n o free = record { types = λ k t e. e; interfaces = λ k i e. (i, step k i (bytes_eq k n) refl e, grown_itself i) }
  where
    step : (k : Name) (i : Interface) (b : Bool) → bytes_eq k n ≡ b → ms.interfaces k ≡ Some i → (if b then o else ms.interfaces k) ≡ Some i
    step k i true q e = none_some i (sym (ap ms.interfaces (same_name k n q) ∙ free) ∙ e)
    step k i false q e = e

-- a module type of a name under which none is known
pub more_type : (ms : Modules) (n : Name) (u : ModuleType) → ms.types n ≡ None → HasMore ms (with_type ms n u)
more_type ms n u free = record { types = λ k t e. step k t (bytes_eq k n) refl e; interfaces = λ k i e. (i, e, grown_itself i) }
  where
    step : (k : Name) (t : ModuleType) (b : Bool) → bytes_eq k n ≡ b → ms.types k ≡ Some t → (if b then Some u else ms.types k) ≡ Some t
    step k t true q e = none_some t (sym (ap ms.types (same_name k n q) ∙ free) ∙ e)
    step k t false q e = e

-- more procedures of a module
pub more_procedures : (ms : Modules) (n : Name) (i j : Interface) → IsGrown i j → HasMore (with_interface ms n (Some i)) (with_interface ms n (Some j))
more_procedures ms n i j g = record { types = λ k t e. e; interfaces = λ k h e. step k h (bytes_eq k n) e }
  where
    step : (k : Name) (h : Interface) (b : Bool) → (if b then Some i else ms.interfaces k) ≡ Some h → (l : Interface) × ((if b then Some j else ms.interfaces k) ≡ Some l) × IsGrown h l
    step k h true e = (j, refl, subst (λ z. IsGrown z j) (same_some i h e) g)
    step k h false e = (h, e, grown_itself h)
