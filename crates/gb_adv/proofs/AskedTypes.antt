-- The oracles of a procedure of an abstract module that is given modules: each is known, with the types of the oracle's signature.
use Rattle.std.proofs.Common.{◌≡◌, Bool, true, false, if◌then◌else◌, List, [], ◌∷◌, Option, Some, None, option_map, bytes_eq, refl, ap, sym, ◌∙◌, subst}
use Rattle.std.specs.List.{AllByRecursion}
use Rattle.std.proofs.lemmas.Bool.{and_from, and_parts, false≢true}
use Rattle.std.proofs.lemmas.Option.{none-some, same_Some}
use Rattle.std.proofs.lemmas.Slice.Eq.{bytes_eq-Decides}
use Rattle.gb_core.specs.SameTypes.{ty_eq}
use Rattle.gb_core.proofs.SameTypes.{ty_eq-Decides}
use Rattle.gb_terms.specs.declared.decl.Param.{Param}
use Rattle.gb_terms.specs.declared.decl.TypedName.{TypedName}
use Rattle.gb_terms.specs.declared.module.Bind.{Bind}
use Rattle.gb_terms.specs.declared.module.Mexp.{Mexp, Row_of-Mexp, end_of-Mexp, more_of-Mexp}
use Rattle.gb_terms.specs.declared.module.Mexp.TheVariants.{Name as named, Apply'}
use Rattle.gb_terms.specs.declared.module.ProcRef.{ProcRef}
use Rattle.gb_terms.specs.Rows.{mexps_in}
use Rattle.gb_goal.specs.declared.module_type.Oracle.{Oracle}
use Rattle.gb_goal.specs.declared.scope.Entry.TheVariants as entry
use Rattle.gb_goal.specs.Instances.{arguments_of, name_of, stands_for}
use Rattle.gb_goal.specs.Interfaces.{Interface, ProcedureType, fits, found, given, has_type, interface_at, interfaces_at, lacking, left_over, of_complete, of_entry, of_type, params_in, procedure_in, procedure_type, provides, same_params, signature_types, signatures_of, takes}
use Rattle.gb_goal.specs.Scope.{Declarations, as_abstract, entry_of, module_type_of}
use Rattle.gb_meaning.specs.Names.{Name}
use Rattle.gb_laws.specs.Finite.{IsVariableType}
use Rattle.gb_meaning.specs.Declared.{ModuleType, Signature, declared, signature_in}
use Rattle.gb_typing.specs.Formulas.{IsKnown}
use Rattle.gb_typing.specs.Programs.{HaveVariableTypes}
use Rattle.gb_typing.specs.Scopes.{IsTypedScope}
use Rattle.gb_mods.specs.Asked.{asked_by, asked_for, asked_of, oracles_if, signature_of}
use Rattle.gb_mods.specs.Meant.{meant_by}
use Rattle.gb_mods.specs.declared.meant.Meant.TheVariants.{Any}
use Rattle.gb_prog.proofs.There.{IsAbstract, abstract_there}
use Rattle.gb_prog.specs.BothAnyOf.{EachPair}
use Rattle.gb_adv.proofs.OracleSignatures.{AreSigned, oracles_signed, params_plain, signature_for, signature_variables}
use mathlib.Core.Former.{Count}

abbrev type_of : Signature → ProcedureType
type_of s = record { params = s.params; result = s.result }

-- Parameters of the same types.

same_turned : (xs ys zs : List TypedName) → same_params xs zs ≡ true → same_params ys zs ≡ true → same_params xs ys ≡ true
same_turned [] [] zs e f = refl
same_turned [] (y ∷ ys) [] e f = absurd (false≢true f)
same_turned [] (y ∷ ys) (z ∷ zs) e f = absurd (false≢true e)
same_turned (x ∷ xs) [] [] e f = absurd (false≢true e)
same_turned (x ∷ xs) [] (z ∷ zs) e f = absurd (false≢true f)
same_turned (x ∷ xs) (y ∷ ys) [] e f = absurd (false≢true e)
same_turned (x ∷ xs) (y ∷ ys) (z ∷ zs) e f =
    let k = and_parts (ty_eq x.ty z.ty) (same_params xs zs) e in
    let l = and_parts (ty_eq y.ty z.ty) (same_params ys zs) f in
    and_from (ty_eq x.ty y.ty) (same_params xs ys) ((ty_eq-Decides x.ty y.ty).1 ((ty_eq-Decides x.ty z.ty).0 k.0 ∙ sym ((ty_eq-Decides y.ty z.ty).0 l.0))) (same_turned xs ys zs k.1 l.1)

module _ (ds : Declarations) where
  -- two procedures are known, and have the same types
  pub record AreAlike (o p : ProcRef) : Type 0 where
    pub left : ProcedureType
    pub right : ProcedureType
    pub left_known : procedure_type ds None o ≡ Some left
    pub right_known : procedure_type ds None p ≡ Some right
    pub params : same_params left.params right.params ≡ true
    pub result : left.result ≡ right.result
    pub variables : HaveVariableTypes left.params × IsVariableType left.result

  -- a procedure is known, and has the types of a signature
  record IsServing (s : Signature) (o : Option ProcedureType) : Type 0 where
    type : ProcedureType
    known : o ≡ Some type
    fits_it : has_type (Some type) (type_of s) ≡ true

  of_type_known : (s : Signature) (o : Option ProcedureType) → has_type o (type_of s) ≡ true → IsServing s o
  of_type_known s None e = absurd (false≢true e)
  of_type_known s (Some t) e = record { type = t; known = refl; fits_it = e }

  provided : (f : Name) (s : Signature) (ps : List (Name × ProcedureType)) (ss : List Signature) → provides ps (signature_types ss) ≡ true → signature_in ss f ≡ Some s → has_type (found ps f) (type_of s) ≡ true
  provided f s ps [] h e = absurd (none-some s e)
  provided f s ps (u ∷ us) h e = step (bytes_eq f u.name) refl e (provided f s ps us)
    where
      k : (has_type (found ps u.name) (type_of u) ≡ true) × (provides ps (signature_types us) ≡ true)
      k = and_parts (has_type (found ps u.name) (type_of u)) (provides ps (signature_types us)) h

      step : (b : Bool) → bytes_eq f u.name ≡ b → (if b then Some u else signature_in us f) ≡ Some s →
          (provides ps (signature_types us) ≡ true → signature_in us f ≡ Some s → has_type (found ps f) (type_of s) ≡ true) → has_type (found ps f) (type_of s) ≡ true
      step true q e go = subst (λ z. z) (λ i. has_type (found ps (sym ((bytes_eq-Decides f u.name).0 q) i)) (type_of (same_Some u s e i)) ≡ true) k.0
      step false q e go = go k.1 e

  nothing_lacks : (ls qs : List Param) → qs ≡ [] → takes ds ls qs ≡ true → ls ≡ []
  nothing_lacks [] qs n e = refl
  nothing_lacks (l ∷ ls) qs n e = absurd (false≢true (ap (takes ds (l ∷ ls)) (sym n) ∙ e))

  -- a module that fits a module type without parameters has the procedures of the type
  fitting : (f : Name) (s : Signature) (i : Option Interface) (t : Option ModuleType) → params_in t ≡ [] → fits ds i t ≡ true → signature_in (signatures_of t) f ≡ Some s → IsServing s (procedure_in i f)
  fitting f s None t n h e = absurd (false≢true h)
  fitting f s (Some i) None n h e = absurd (none-some s e)
  fitting f s (Some i) (Some t) n h e =
      let k = and_parts (takes ds i.lacks t.params) (provides i.procedures (signature_types t.signatures)) h in
      subst (λ ls. IsServing s (of_complete ls i.procedures f)) (sym (nothing_lacks i.lacks t.params n k.0))
      (of_type_known s (found i.procedures f) (provided f s i.procedures t.signatures k.1 e))

  abbrev ArePlain : List Param → Type 0
  ArePlain ps = AllByRecursion (λ (p : Param). params_in (module_type_of ds p.ty) ≡ []) ps

  abbrev none_left : Option (List Param) → Bool
  none_left (Some []) = true
  none_left _ = false

  abbrev RowServes : {n : Count} → List Param → Row_of-Mexp n → Type 0
  RowServes ps args = left_over ds ps (interfaces_at ds None args) ≡ Some [] → (u : Oracle) (s : Signature) → signature_for ds ps u ≡ Some s → IsServing s (procedure_type ds None (asked_of ps (mexps_in args) u))

  row_serves : {n : Count} (ps : List Param) → ArePlain ps → (args : Row_of-Mexp n) → left_over ds ps (interfaces_at ds None args) ≡ Some [] → (u : Oracle) (s : Signature) → signature_for ds ps u ≡ Some s →
      IsServing s (procedure_type ds None (asked_of ps (mexps_in args) u))
  row_serves [] k args l u s e = absurd (none-some s e)
  row_serves (p ∷ ps) k end_of-Mexp l u s e = absurd (false≢true (ap none_left l))
  row_serves (p ∷ ps) k (more_of-Mexp m args) l u s e = by_fit (fits ds (interface_at ds None m) (module_type_of ds p.ty)) refl l (row_serves ps k.1 args)
    where
      by_name : fits ds (interface_at ds None m) (module_type_of ds p.ty) ≡ true → left_over ds ps (interfaces_at ds None args) ≡ Some [] → (b : Bool) →
          (if b then signature_in (signatures_of (module_type_of ds p.ty)) u.name else signature_for ds ps u) ≡ Some s → RowServes ps args →
          IsServing s (procedure_type ds None (record { «module» = if b then m else stands_for ps (mexps_in args) u.parameter; name = u.name }))
      by_name h l true e go = fitting u.name s (interface_at ds None m) (module_type_of ds p.ty) k.0 h e
      by_name h l false e go = go l u s e

      by_fit : (b : Bool) → fits ds (interface_at ds None m) (module_type_of ds p.ty) ≡ b → (if b then left_over ds ps (interfaces_at ds None args) else None) ≡ Some [] → RowServes ps args →
          IsServing s (procedure_type ds None (asked_of (p ∷ ps) (mexps_in (more_of-Mexp m args)) u))
      by_fit true h l go = by_name h l (bytes_eq u.parameter p.name) e go
      by_fit false h l go = absurd (none-some [] l)

  -- modules are given for all these parameters
  abbrev IsFilled : List Param → Mexp → Type 0
  IsFilled ps (named n) = ps ≡ []
  IsFilled ps (Apply' n k args) = left_over ds ps (interfaces_at ds None args) ≡ Some []

  filled_serves : (ps : List Param) → ArePlain ps → (m : Mexp) → IsFilled ps m → (u : Oracle) (s : Signature) → signature_for ds ps u ≡ Some s → IsServing s (procedure_type ds None (asked_of ps (arguments_of m) u))
  filled_serves ps k (named n) l u s e = absurd (none-some s (sym (ap (λ z. signature_for ds z u) l) ∙ e))
  filled_serves ps k (Apply' n c args) l u s e = row_serves ps k args l u s e

  -- What a reference to a procedure of an abstract module gives: modules for all parameters of the module type.

  module _ (f : Name) (u : ProcedureType) where
    complete : (ps : List Param) (qs : List (Name × ProcedureType)) → of_complete ps qs f ≡ Some u → (ps ≡ []) × (found qs f ≡ Some u)
    complete [] qs e = (refl, e)
    complete (p ∷ ps) qs e = absurd (none-some u e)

    all_given : (i : Interface) (o : Option (List Param)) → procedure_in (lacking i o) f ≡ Some u → (o ≡ Some []) × (found i.procedures f ≡ Some u)
    all_given i None e = absurd (none-some u e)
    all_given i (Some ps) e = let k = complete ps i.procedures e in (ap (λ (z : List Param). Some z) k.0, k.1)

    module _ (b : Bind) where
      -- its module type is there, has the procedure, and each parameter is given a module
      record IsGiven (Filled : List Param → Type 0) : Type 0 where
        asks : ModuleType
        there : module_type_of ds b.ty ≡ Some asks
        type : found (signature_types asks.signatures) f ≡ Some u
        filled : Filled asks.params

      named_given : (o : Option ModuleType) → module_type_of ds b.ty ≡ o → procedure_in (option_map of_type o) f ≡ Some u → IsGiven (λ ps. ps ≡ [])
      named_given None q h = absurd (none-some u h)
      named_given (Some t) q h = let k = complete t.params (signature_types t.signatures) h in record { asks = t; there = q; type = k.1; filled = k.0 }

      applied_given : (is : List (Option Interface)) (o : Option ModuleType) → module_type_of ds b.ty ≡ o → procedure_in (given ds (option_map of_type o) is) f ≡ Some u → IsGiven (λ ps. left_over ds ps is ≡ Some [])
      applied_given is None q h = absurd (none-some u h)
      applied_given is (Some t) q h = let k = all_given (of_type t) (left_over ds t.params is) h in record { asks = t; there = q; type = k.1; filled = k.0 }

      given_there : (m : Mexp) → entry_of ds (name_of m) ≡ Some (entry.AbstractModule b) → procedure_in (interface_at ds None m) f ≡ Some u → IsGiven (λ ps. IsFilled ps m)
      given_there (named n) e h = named_given (module_type_of ds b.ty) refl (ap (λ (z : Option Interface). procedure_in z f) (sym (ap (of_entry ds) e)) ∙ h)
      given_there (Apply' n k args) e h =
          applied_given (interfaces_at ds None args) (module_type_of ds b.ty) refl
          (ap (λ (z : Option Interface). procedure_in (given ds z (interfaces_at ds None args)) f) (sym (ap (of_entry ds) e)) ∙ h)

  same_variables : (xs ys : List TypedName) → same_params xs ys ≡ true → HaveVariableTypes ys → HaveVariableTypes xs
  same_variables [] ys e h = tt
  same_variables (x ∷ xs) [] e h = absurd (false≢true e)
  same_variables (x ∷ xs) (y ∷ ys) e h =
      let k = and_parts (ty_eq x.ty y.ty) (same_params xs ys) e in (subst IsVariableType (sym ((ty_eq-Decides x.ty y.ty).0 k.0)) h.0, same_variables xs ys k.1 h.1)

  both_serve : (s : Signature) → HaveVariableTypes s.params × IsVariableType s.result → (o p : ProcRef) → IsServing s (procedure_type ds None o) → IsServing s (procedure_type ds None p) → AreAlike o p
  both_serve s w o p x y =
      let t : ProcedureType = x.type in
      let u : ProcedureType = y.type in
      let k = and_parts (same_params t.params s.params) (ty_eq t.result s.result) x.fits_it in
      let l = and_parts (same_params u.params s.params) (ty_eq u.result s.result) y.fits_it in
      record {
        left = t;
        right = u;
        left_known = x.known;
        right_known = y.known;
        params = same_turned t.params u.params s.params k.0 l.0;
        result = (ty_eq-Decides t.result s.result).0 k.1 ∙ sym ((ty_eq-Decides u.result s.result).0 l.1);
        variables = (same_variables t.params s.params k.0 w.0, subst IsVariableType (sym ((ty_eq-Decides t.result s.result).0 k.1)) w.1);
      }

  module _ (scoped : IsTypedScope (declared ds)) (t : ModuleType) (plain : ArePlain t.params) (m k : Mexp) (left : IsFilled t.params m) (right : IsFilled t.params k) where
    by_signature : (u : Oracle) (o : Option Signature) → signature_for ds t.params u ≡ o → IsKnown o → AreAlike (asked_of t.params (arguments_of m) u) (asked_of t.params (arguments_of k) u)
    by_signature u None e h = absurd h
    by_signature u (Some s) e h =
        both_serve s (signature_variables ds scoped t.params u s e) (asked_of t.params (arguments_of m) u) (asked_of t.params (arguments_of k) u) (filled_serves t.params plain m left u s e) (filled_serves t.params plain k right u s e)

    each_alike : (us : List Oracle) → AreSigned ds t.params us → EachPair AreAlike (asked_for t.params (arguments_of m) us) (asked_for t.params (arguments_of k) us)
    each_alike [] h = tt
    each_alike (u ∷ us) h = (by_signature u (signature_for ds t.params u) refl h.0, each_alike us h.1)

  module _ (scoped : IsTypedScope (declared ds)) (p q : ProcRef) (a : Name) (os ps : List ProcRef) (left : meant_by ds p ≡ Any a os) (right : meant_by ds q ≡ Any a ps) (same : p.name ≡ q.name) where
    x : IsAbstract ds p a os
    x = abstract_there ds p a os left

    y : IsAbstract ds q a ps
    y = abstract_there ds q a ps right

    same_bind : (let w = y in w.bind) ≡ (let w = x in w.bind)
    same_bind =
        let v = x in
        let w = y in
        same_Some w.bind v.bind (sym (ap as_abstract w.bound) ∙ ap (λ n. as_abstract (entry_of ds n)) (w.name ∙ sym v.name) ∙ ap as_abstract v.bound)

    left_given : IsGiven p.name (let w = x in w.types) (let w = x in w.bind) (λ ps. IsFilled ps p.«module»)
    left_given = let w = x in given_there p.name w.types w.bind p.«module» w.bound w.typed

    right_given : IsGiven q.name (let w = y in w.types) (let w = x in w.bind) (λ ps. IsFilled ps q.«module»)
    right_given =
        let w = y in subst (λ (b : Bind). IsGiven q.name w.types b (λ ps. IsFilled ps q.«module»)) same_bind (given_there q.name w.types w.bind q.«module» w.bound w.typed)

    same_type : (let z = right_given in z.asks) ≡ (let z = left_given in z.asks)
    same_type = let v = left_given in let w = right_given in same_Some w.asks v.asks (sym w.there ∙ v.there)

    -- each pair of their oracles is known, with the same types
    pub asked_alike : EachPair AreAlike os ps
    asked_alike =
        let v = left_given in
        let w = right_given in
        let t : ModuleType = v.asks in
        let us : List Oracle = oracles_if ds t.params (signature_of t.signatures p.name) in
        subst (λ z. z) (λ i. EachPair AreAlike (left_asked i) (right_asked i))
        (each_alike scoped t (let b = (let z = x in z.bind) in params_plain ds scoped b.ty t v.there) p.«module» q.«module» v.filled (subst (λ (z : ModuleType). IsFilled z.params q.«module») same_type w.filled) us
        (let b = (let z = x in z.bind) in oracles_signed ds scoped b.ty t v.there p.name))
      where
        left_asked : (let t : ModuleType = (let v = left_given in v.asks) in asked_for t.params (arguments_of p.«module») (oracles_if ds t.params (signature_of t.signatures p.name))) ≡ os
        left_asked = let v = left_given in let z = x in ap (λ o. asked_by ds o (arguments_of p.«module») p.name) (sym v.there) ∙ z.asked

        right_asked : (let t : ModuleType = (let v = left_given in v.asks) in asked_for t.params (arguments_of q.«module») (oracles_if ds t.params (signature_of t.signatures p.name))) ≡ ps
        right_asked =
            let v = left_given in
            let z = y in
            (λ i. asked_by ds (sym v.there i) (arguments_of q.«module») (same i)) ∙ ap (λ (b : Bind). asked_by ds (module_type_of ds b.ty) (arguments_of q.«module») q.name) (sym same_bind) ∙ z.asked
