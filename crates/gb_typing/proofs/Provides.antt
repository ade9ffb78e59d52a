-- What a module provides: procedures of the same types up to the names of their parameters.
use Rattle.std.proofs.Common.{◌≡◌, Bool, true, false, List, [], ◌∷◌, Option, Some, None, if◌then◌else◌, bytes_eq, refl, sym, ◌∙◌, subst}
use Rattle.std.proofs.lemmas.Bool.{false≢true, and_parts, and_from}
use Rattle.gb_core.proofs.SameTypes.{ty_eq-Decides}
use Rattle.gb_core.specs.SameTypes.{ty_eq}
use Rattle.gb_terms.specs.declared.decl.TypedName.{TypedName}
use Rattle.gb_meaning.specs.Names.{Name}
use Rattle.gb_meaning.specs.Modules.{Procedures, found}
use Rattle.gb_typing.specs.Modules.{ProcedureType, same_params, has_type, provides}
use Rattle.gb_typing.proofs.Scripts.{none_some, same_some, same_name}

-- Types of procedures that are the same, up to the names of parameters.

params_itself : (xs : List TypedName) → same_params xs xs ≡ true
params_itself [] = refl
params_itself (x ∷ xs) = and_from (ty_eq x.ty x.ty) (same_params xs xs) ((ty_eq-Decides x.ty x.ty).1 refl) (params_itself xs)

pub type_itself : (t : ProcedureType) → has_type (Some t) t ≡ true
type_itself t = and_from (same_params t.params t.params) (ty_eq t.result t.result) (params_itself t.params) ((ty_eq-Decides t.result t.result).1 refl)

params_on : (xs ys zs : List TypedName) → same_params xs ys ≡ true → same_params ys zs ≡ true → same_params xs zs ≡ true
params_on [] [] zs e h = h
params_on [] (y ∷ ys) zs e h = absurd (false≢true e)
params_on (x ∷ xs) [] zs e h = absurd (false≢true e)
params_on (x ∷ xs) (y ∷ ys) [] e h = absurd (false≢true h)
params_on (x ∷ xs) (y ∷ ys) (z ∷ zs) e h =
    let k = and_parts (ty_eq x.ty y.ty) (same_params xs ys) e in
    let l = and_parts (ty_eq y.ty z.ty) (same_params ys zs) h in
    and_from (ty_eq x.ty z.ty) (same_params xs zs) ((ty_eq-Decides x.ty z.ty).1 ((ty_eq-Decides x.ty y.ty).0 k.0 ∙ (ty_eq-Decides y.ty z.ty).0 l.0)) (params_on xs ys zs k.1 l.1)

pub type_on : (o : Option ProcedureType) (t u : ProcedureType) → has_type o t ≡ true → has_type (Some t) u ≡ true → has_type o u ≡ true
type_on None t u e h = absurd (false≢true e)
type_on (Some s) t u e h =
    let k = and_parts (same_params s.params t.params) (ty_eq s.result t.result) e in
    let l = and_parts (same_params t.params u.params) (ty_eq t.result u.result) h in
    and_from (same_params s.params u.params) (ty_eq s.result u.result)
    (params_on s.params t.params u.params k.0 l.0)
    ((ty_eq-Decides s.result u.result).1 ((ty_eq-Decides s.result t.result).0 k.1 ∙ (ty_eq-Decides t.result u.result).0 l.1))

pub some_type : (o : Option ProcedureType) (u : ProcedureType) → has_type o u ≡ true → (t : ProcedureType) × (o ≡ Some t) × (has_type (Some t) u ≡ true)
some_type None u e = absurd (false≢true e)
some_type (Some t) u e = (t, refl, e)

-- each of the second procedures is one of the first ones, at its types
abbrev pub HasAll : Procedures ProcedureType → Procedures ProcedureType → Type 0
HasAll ps qs = (n : Name) (t : ProcedureType) → found qs n ≡ Some t → has_type (found ps n) t ≡ true

pub has_same : (ps qs : Procedures ProcedureType) → ((n : Name) (t : ProcedureType) → found qs n ≡ Some t → found ps n ≡ Some t) → HasAll ps qs
has_same ps qs h n t e = subst (λ o. has_type o t ≡ true) (sym (h n t e)) (type_itself t)

-- each of the second procedures is one of the first ones, as it is
abbrev pub HasSame : Procedures ProcedureType → Procedures ProcedureType → Type 0
HasSame ps qs = (n : Name) (t : ProcedureType) → found qs n ≡ Some t → found ps n ≡ Some t

pub provided : (ps qs : Procedures ProcedureType) → provides ps qs ≡ true → HasAll ps qs
provided ps [] e n t h = none_some t h
provided ps (q ∷ qs) e n t h =
    let k = and_parts (has_type (found ps q.0) q.1) (provides ps qs) e in
    step k.0 (provided ps qs k.1 n t) (bytes_eq n q.0) refl h
  where
    step : has_type (found ps q.0) q.1 ≡ true → (found qs n ≡ Some t → has_type (found ps n) t ≡ true) → (b : Bool) → bytes_eq n q.0 ≡ b → (if b then Some q.1 else found qs n) ≡ Some t → has_type (found ps n) t ≡ true
    step one rest true same h = subst (λ x. has_type (found ps x) t ≡ true) (sym (same_name n q.0 same)) (subst (λ u. has_type (found ps q.0) u ≡ true) (same_some q.1 t h) one)
    step one rest false other h = rest h

-- who has all that provides, provides
pub provides_on : (ps qs rs : Procedures ProcedureType) → HasAll ps qs → provides qs rs ≡ true → provides ps rs ≡ true
provides_on ps qs [] w e = refl
provides_on ps qs (r ∷ rs) w e =
    let k = and_parts (has_type (found qs r.0) r.1) (provides qs rs) e in
    let z = some_type (found qs r.0) r.1 k.0 in
    and_from (has_type (found ps r.0) r.1) (provides ps rs) (type_on (found ps r.0) z.0 r.1 (w r.0 z.0 z.1) z.2) (provides_on ps qs rs w k.1)

pub provides_through : (ps qs rs : Procedures ProcedureType) → provides ps qs ≡ true → provides qs rs ≡ true → provides ps rs ≡ true
provides_through ps qs rs e = provides_on ps qs rs (provided ps qs e)
