-- Modules that may stand where others are known.
use Rattle.std.proofs.Common.{◌≡◌, Bool, true, false, ◌&&◌, List, [], ◌∷◌, ◌++◌, map, Option, Some, None, if◌then◌else◌, refl, ap, sym, ◌∙◌, subst}
use Rattle.std.proofs.lemmas.Bool.{false≢true, and_parts, and_from}
use Rattle.gb_meaning.specs.Names.{Name}
use Rattle.gb_meaning.specs.Modules.{Procedures, found}
use Rattle.gb_typing.specs.Modules.{ProcedureType, FunctorType, Interface, without_lacks, of_functor_type, has_type, provides, is_complete, serve, fits, left_over, lacking, given, of_complete, procedure_of}
use Rattle.gb_typing.proofs.Scripts.{none_some, same_some}
use Rattle.gb_typing.proofs.Provides.{HasAll, HasSame, has_same, provided, provides_on}

-- what fits the first module type fits the second one
abbrev pub Weaker : FunctorType → FunctorType → Type 0
Weaker t u = (o : Option Interface) → fits o t ≡ true → fits o u ≡ true

abbrev pub AreWeaker : List FunctorType → List FunctorType → Type 0
AreWeaker [] [] = Unit {0}
AreWeaker (t ∷ ts) (u ∷ us) = Weaker t u × AreWeaker ts us
AreWeaker _ _ = ⊥

pub weaker_itself : (ts : List FunctorType) → AreWeaker ts ts
weaker_itself [] = tt
weaker_itself (t ∷ ts) = ((λ o e. e), weaker_itself ts)

-- A module j may stand where i is known: it asks for no more, and has no less.
pub record Serves (i j : Interface) : Type 0 where
  pub lacks : AreWeaker i.lacks j.lacks
  pub procedures : HasAll j.procedures i.procedures

abbrev pub ServesIf : Option Interface → Option Interface → Type 0
ServesIf None o = Unit {0}
ServesIf (Some i) None = ⊥
ServesIf (Some i) (Some j) = Serves i j

abbrev pub AllServe : List (Option Interface) → List (Option Interface) → Type 0
AllServe [] [] = Unit {0}
AllServe (i ∷ is) (j ∷ js) = ServesIf i j × AllServe is js
AllServe _ _ = ⊥

-- A module j may stand where i is known, and has the same procedures at least.
pub record Extends (i j : Interface) : Type 0 where
  pub serves : Serves i j
  pub same : HasSame j.procedures i.procedures

abbrev pub ExtendsIf : Option Interface → Option Interface → Type 0
ExtendsIf None o = Unit {0}
ExtendsIf (Some i) None = ⊥
ExtendsIf (Some i) (Some j) = Extends i j

pub serving : (i j : Option Interface) → ExtendsIf i j → ServesIf i j
serving None j w = tt
serving (Some i) None w = absurd w
serving (Some i) (Some j) w = w.serves

-- a module that lacks the same, and has the same procedures at least
pub extending : (ts : List FunctorType) (ps qs : Procedures ProcedureType) → HasSame qs ps → Extends (record { lacks = ts; procedures = ps }) (record { lacks = ts; procedures = qs })
extending ts ps qs h = record { serves = record { lacks = weaker_itself ts; procedures = has_same qs ps h }; same = h }

pub extends_itself : (i : Interface) → Extends i i
extends_itself i = extending i.lacks i.procedures i.procedures (λ n t e. e)

-- a module with these procedures that lacks nothing
abbrev whole : Procedures ProcedureType → Interface
whole ps = record { lacks = []; procedures = ps }

serve_none : (ts : List (Procedures ProcedureType)) → is_complete ts ≡ true → serve ts [] ≡ true
serve_none [] e = refl
serve_none (t ∷ ts) e = absurd (false≢true e)

none_served : (ts : List (Procedures ProcedureType)) → serve ts [] ≡ true → is_complete ts ≡ true
none_served [] e = refl
none_served (t ∷ ts) e = absurd (false≢true e)

served : (ts us : List FunctorType) → AreWeaker ts us → (pss : List (Procedures ProcedureType)) → serve pss ts ≡ true → serve pss us ≡ true
served [] [] w pss e = e
served [] (u ∷ us) w pss e = absurd w
served (t ∷ ts) [] w pss e = absurd w
served (t ∷ ts) (u ∷ us) w [] e = absurd (false≢true e)
served (t ∷ ts) (u ∷ us) w (ps ∷ pss) e =
    let k = and_parts (is_complete t.lacks) (provides ps t.procedures && serve pss ts) e in
    let l = and_parts (provides ps t.procedures) (serve pss ts) k.1 in
    let fit = w.0 (Some (whole ps)) (and_from (serve t.lacks []) (provides ps t.procedures) (serve_none t.lacks k.0) l.0) in
    let z = and_parts (serve u.lacks []) (provides ps u.procedures) fit in
    and_from (is_complete u.lacks) (provides ps u.procedures && serve pss us) (none_served u.lacks z.0)
    (and_from (provides ps u.procedures) (serve pss us) z.1 (served ts us w.1 pss l.1))

-- what stands for a module fits where the module does
pub fitting : (i j : Option Interface) → ServesIf i j → (t : FunctorType) → fits i t ≡ true → fits j t ≡ true
fitting None j w t e = absurd (false≢true e)
fitting (Some i) None w t e = absurd w
fitting (Some i) (Some j) w t e =
    let k = and_parts (serve t.lacks i.lacks) (provides i.procedures t.procedures) e in
    and_from (serve t.lacks j.lacks) (provides j.procedures t.procedures)
    (served i.lacks j.lacks w.lacks t.lacks k.0)
    (provides_on j.procedures i.procedures t.procedures w.procedures k.1)

left : (ts us : List FunctorType) → AreWeaker ts us → (is js : List (Option Interface)) → AllServe is js → (vs : List FunctorType) → left_over ts is ≡ Some vs →
    (xs : List FunctorType) × (left_over us js ≡ Some xs) × AreWeaker vs xs
left ts us w [] [] a vs e = (us, refl, subst (λ z. AreWeaker z us) (same_some ts vs e) w)
left ts us w [] (j ∷ js) a vs e = absurd a
left ts us w (i ∷ is) [] a vs e = absurd a
left [] us w (i ∷ is) (j ∷ js) a vs e = none_some vs e
left (t ∷ ts) [] w (i ∷ is) (j ∷ js) a vs e = absurd w
left (t ∷ ts) (u ∷ us) w (i ∷ is) (j ∷ js) a vs e = step (left ts us w.1 is js a.1 vs) (fits i t) refl e
  where
    step : (left_over ts is ≡ Some vs → (xs : List FunctorType) × (left_over us js ≡ Some xs) × AreWeaker vs xs) → (b : Bool) → fits i t ≡ b → (if b then left_over ts is else None) ≡ Some vs → (xs : List FunctorType) × ((if fits j u then left_over us js else None) ≡ Some xs) × AreWeaker vs xs
    step rest true h e =
        let z = rest e in
        (z.0, ap (λ b. if b then left_over us js else None) (w.0 j (fitting i j a.0 t h)) ∙ z.1, z.2)
    step rest false h e = none_some vs e

-- modules that stand for others, given to a module that stands for another one
pub given_serves : (i j : Option Interface) → ServesIf i j → (is js : List (Option Interface)) → AllServe is js → ServesIf (given i is) (given j js)
given_serves None j w is js a = tt
given_serves (Some i) None w is js a = absurd w
given_serves (Some i) (Some j) w is js a = step (left_over i.lacks is) refl
  where
    step : (o : Option (List FunctorType)) → left_over i.lacks is ≡ o → ServesIf (lacking i o) (given (Some j) js)
    step None e = tt
    step (Some vs) e =
        let z = left i.lacks j.lacks w.lacks is js a vs e in
        subst (λ o. ServesIf (Some (record { lacks = vs; procedures = i.procedures })) (lacking j o)) (sym z.1) (record { lacks = z.2; procedures = w.procedures })

pub given_extends : (i j : Option Interface) → ExtendsIf i j → (is js : List (Option Interface)) → AllServe is js → ExtendsIf (given i is) (given j js)
given_extends None j w is js a = tt
given_extends (Some i) None w is js a = absurd w
given_extends (Some i) (Some j) w is js a = step (left_over i.lacks is) refl
  where
    step : (o : Option (List FunctorType)) → left_over i.lacks is ≡ o → ExtendsIf (lacking i o) (given (Some j) js)
    step None e = tt
    step (Some vs) e =
        let s = w.serves in
        let z = left i.lacks j.lacks s.lacks is js a vs e in
        subst (λ o. ExtendsIf (Some (record { lacks = vs; procedures = i.procedures })) (lacking j o)) (sym z.1)
        (record { serves = record { lacks = z.2; procedures = s.procedures }; same = w.same })

-- Modules given in two portions.

pub given_none : (o : Option Interface) → o ≡ given o []
given_none None = refl
given_none (Some i) = refl

relacking : (i : Interface) (ts : List FunctorType) (o : Option (List FunctorType)) → lacking i o ≡ lacking (record { lacks = ts; procedures = i.procedures }) o
relacking i ts None = refl
relacking i ts (Some us) = refl

given_rest : (i : Interface) (ts : List FunctorType) (is js : List (Option Interface)) → lacking i (left_over ts (is ++ js)) ≡ given (lacking i (left_over ts is)) js
given_rest i ts [] js = relacking i ts (left_over ts js)
given_rest i [] (x ∷ is) js = refl
given_rest i (t ∷ ts) (x ∷ is) js = step (given_rest i ts is js) (fits x t)
  where
    step : lacking i (left_over ts (is ++ js)) ≡ given (lacking i (left_over ts is)) js → (b : Bool) → lacking i (if b then left_over ts (is ++ js) else None) ≡ given (lacking i (if b then left_over ts is else None)) js
    step rest true = rest
    step rest false = refl

pub given_twice : (o : Option Interface) (is js : List (Option Interface)) → given o (is ++ js) ≡ given (given o is) js
given_twice None is js = refl
given_twice (Some i) is js = given_rest i i.lacks is js

-- a procedure of a module is one of what stands for the module
of_whole : (P : Option ProcedureType → Type 0) (ts us : List FunctorType) → AreWeaker ts us → (ps qs : Procedures ProcedureType) (n : Name) (t : ProcedureType) →
    (found ps n ≡ Some t → P (found qs n)) → of_complete ts ps n ≡ Some t → P (of_complete us qs n)
of_whole P [] [] w ps qs n t h e = h e
of_whole P [] (u ∷ us) w ps qs n t h e = absurd w
of_whole P (k ∷ ks) us w ps qs n t h e = none_some t e

pub procedure_serves : (i j : Option Interface) → ServesIf i j → (n : Name) (t : ProcedureType) → procedure_of i n ≡ Some t → has_type (procedure_of j n) t ≡ true
procedure_serves None j w n t e = none_some t e
procedure_serves (Some i) None w n t e = absurd w
procedure_serves (Some i) (Some j) w n t e = of_whole (λ o. has_type o t ≡ true) i.lacks j.lacks w.lacks i.procedures j.procedures n t (w.procedures n t) e

pub procedure_extends : (i j : Option Interface) → ExtendsIf i j → (n : Name) (t : ProcedureType) → procedure_of i n ≡ Some t → procedure_of j n ≡ Some t
procedure_extends None j w n t e = none_some t e
procedure_extends (Some i) None w n t e = absurd w
procedure_extends (Some i) (Some j) w n t e = let s = w.serves in of_whole (λ o. o ≡ Some t) i.lacks j.lacks s.lacks i.procedures j.procedures n t (w.same n t) e

-- What fits a module type stands for the type's modules.

complete_serves : (ts : List (Procedures ProcedureType)) (us : List FunctorType) → is_complete ts ≡ true → serve [] us ≡ true → serve ts us ≡ true
complete_serves [] us e h = h
complete_serves (t ∷ ts) us e h = absurd (false≢true e)

weaker : (ps : Procedures ProcedureType) (t : FunctorType) → is_complete t.lacks ≡ true → provides ps t.procedures ≡ true → Weaker (without_lacks ps) t
weaker ps t e h None k = absurd (false≢true k)
weaker ps t e h (Some j) k =
    let z = and_parts (serve [] j.lacks) (provides j.procedures ps) k in
    and_from (serve t.lacks j.lacks) (provides j.procedures t.procedures)
    (complete_serves t.lacks j.lacks e z.0)
    (provides_on j.procedures ps t.procedures (provided j.procedures ps z.1) h)

all_weaker : (pss : List (Procedures ProcedureType)) (ts : List FunctorType) → serve pss ts ≡ true → AreWeaker (map without_lacks pss) ts
all_weaker [] [] e = tt
all_weaker [] (t ∷ ts) e = absurd (false≢true e)
all_weaker (ps ∷ pss) [] e = absurd (false≢true e)
all_weaker (ps ∷ pss) (t ∷ ts) e =
    let k = and_parts (is_complete t.lacks) (provides ps t.procedures && serve pss ts) e in
    let l = and_parts (provides ps t.procedures) (serve pss ts) k.1 in
    (weaker ps t k.0 l.0, all_weaker pss ts l.1)

pub fits_serves : (o : Option Interface) (t : FunctorType) → fits o t ≡ true → ServesIf (Some (of_functor_type t)) o
fits_serves None t e = absurd (false≢true e)
fits_serves (Some i) t e =
    let k = and_parts (serve t.lacks i.lacks) (provides i.procedures t.procedures) e in
    record { lacks = all_weaker t.lacks i.lacks k.0; procedures = provided i.procedures t.procedures k.1 }
