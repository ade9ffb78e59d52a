-- Procedures of abstract modules that are given modules, some of which are left open: what answers for their oracles, and that it is typed.
use Rattle.std.proofs.Common.{◌≡◌, inl, inr, Bool, true, false, ◌&&◌, ◌||◌, if◌then◌else◌, List, [], ◌∷◌, ◌++◌, map, Option, Some, None, option_map, bytes_eq, refl, ap, sym, ◌∙◌, subst}
use Rattle.std.proofs.lemmas.Bool.{false≢true, and_parts}
use Rattle.std.proofs.lemmas.Option.{none-some, same_Some}
use Rattle.std.proofs.lemmas.Slice.Eq.{bytes_eq-Decides}
use Rattle.gb_core.specs.declared.var.Var.{Var}
use Rattle.gb_core.specs.declared.var.Var.TheVariants.{Glob}
use Rattle.gb_terms.specs.declared.decl.Param.{Param}
use Rattle.gb_terms.specs.declared.module.Mexp.{Mexp, Row_of-Mexp, end_of-Mexp, more_of-Mexp}
use Rattle.gb_terms.specs.Rows.{mexps_in}
use Rattle.gb_goal.specs.declared.module_type.Oracle.{Oracle as OracleName}
use Rattle.gb_goal.specs.Instances.{stands_for}
use Rattle.gb_goal.specs.Interfaces.{has_type, params_in, provides, signature_types, signatures_of}
use Rattle.gb_goal.specs.Scope as scope
use Rattle.gb_goal.specs.Scope.{entry_of}
use Rattle.gb_meaning.specs.Names.{Name}
use Rattle.gb_meaning.specs.Program.{Oracle}
use Rattle.gb_meaning.specs.Adversary.{as_asked, may_call, oracle_eq, oracle_footprints, oracle_signature, oracles_called, signature_footprints, type_named}
use Rattle.gb_meaning.specs.Adversary.{oracles_named as named_oracles}
use Rattle.gb_meaning.specs.Declared.{Declarations, MayCall, ModuleType, Signature, declared, every, those, signature_in}
use Rattle.gb_meaning.specs.Linking.{oracle_of}
use Rattle.gb_meaning.specs.Modules.{Functor, Procedures, Reading, found, module_at, modules_at, modules_of, no_module, procedure_at}
use Rattle.gb_meaning.specs.Modules as linked
use Rattle.gb_typing.specs.Alike.{AreSigned, NameSigned}
use Rattle.gb_typing.specs.Modules.{FunctorType, Interface, Modules, ProcedureType, fits, functor_type, interface_at, interfaces_at, left_over, of_complete, procedure_of, serve}
use Rattle.gb_typing.specs.Suits.{lacked}
use Rattle.gb_typing.proofs.Globals.{name_test}
use Rattle.gb_typing.proofs.ParameterTypes.{ArePlainParams}
use Rattle.gb_prog.proofs.Oracles.{as_named, signatures_same}
use Rattle.gb_mods.specs.Asked.{asked_of, signature_of}
use Rattle.gb_arguments.proofs.Members.{Has}
use mathlib.Core.Former.{Count}

-- Modules that fit.

provided : (ps : Procedures ProcedureType) (ss : List Signature) (f : Name) (s : Signature) → provides ps (signature_types ss) ≡ true → signature_in ss f ≡ Some s → (t : ProcedureType) × (found ps f ≡ Some t)
provided ps [] f s h e = absurd (none-some s e)
provided ps (u ∷ us) f s h e = step (bytes_eq f u.name) refl e (provided ps us f s k.1)
  where
    k : (has_type (found ps u.name) (record { params = u.params; result = u.result }) ≡ true) × (provides ps (signature_types us) ≡ true)
    k = and_parts (has_type (found ps u.name) (record { params = u.params; result = u.result })) (provides ps (signature_types us)) h

    there : (o : Option ProcedureType) → has_type o (record { params = u.params; result = u.result }) ≡ true → (t : ProcedureType) × (o ≡ Some t)
    there None h = absurd (false≢true h)
    there (Some t) h = (t, refl)

    step : (b : Bool) → bytes_eq f u.name ≡ b → (if b then Some u else signature_in us f) ≡ Some s → (signature_in us f ≡ Some s → (t : ProcedureType) × (found ps f ≡ Some t)) → (t : ProcedureType) × (found ps f ≡ Some t)
    step true q e go = subst (λ z. (t : ProcedureType) × (found ps z ≡ Some t)) (sym ((bytes_eq-Decides f u.name).0 q)) (there (found ps u.name) k.0)
    step false q e go = go e

abbrev is_nil : Option (List FunctorType) → Bool
is_nil (Some []) = true
is_nil _ = false

module _ (ds : scope.Declarations) (ms : Modules) (types : (n : Name) → ms.types n ≡ scope.module_type_of ds n) (o : Oracle) (s : Signature) where
  abbrev D : Declarations
  D = declared ds

  in_fitting : (p : Param) → params_in (ms.types p.ty) ≡ [] → signature_in (type_named D p.ty).signatures o.name ≡ Some s → (i : Option Interface) → fits i (functor_type ms.types (ms.types p.ty)) ≡ true →
      (t : ProcedureType) × (procedure_of i o.name ≡ Some t)
  in_fitting p plain e None h = absurd (false≢true h)
  in_fitting p plain e (Some i) h = complete i.lacks (subst (λ ps. serve (map (λ q. signature_types (signatures_of (ms.types q.ty))) ps) i.lacks ≡ true) plain k.0)
    where
      k : (serve (map (λ q. signature_types (signatures_of (ms.types q.ty))) (params_in (ms.types p.ty))) i.lacks ≡ true) × (provides i.procedures (signature_types (signatures_of (ms.types p.ty))) ≡ true)
      k = and_parts (serve (map (λ q. signature_types (signatures_of (ms.types q.ty))) (params_in (ms.types p.ty))) i.lacks) (provides i.procedures (signature_types (signatures_of (ms.types p.ty)))) h

      complete : (ls : List FunctorType) → serve [] ls ≡ true → (t : ProcedureType) × (of_complete ls i.procedures o.name ≡ Some t)
      complete [] q = provided i.procedures (signatures_of (ms.types p.ty)) o.name s k.1 (ap (λ ss. signature_in ss o.name) (ap signatures_of (types p.ty) ∙ sym (signatures_same ds p.ty)) ∙ e)
      complete (l ∷ ls) q = absurd (false≢true q)

  -- what is asked is typed
  abbrev IsAsked : List Param → List Mexp → Type 0
  IsAsked ps es = (t : ProcedureType) × (procedure_of (interface_at ms (stands_for ps es o.parameter)) o.name ≡ Some t)

  pub asked_typed : {n : Count} (ps : List Param) → ArePlainParams ms.types ps → (args : Row_of-Mexp n) → left_over (lacked ms.types ps) (interfaces_at ms args) ≡ Some [] →
      oracle_signature D ps o ≡ Some s → IsAsked ps (mexps_in args)
  asked_typed [] w args l e = absurd (none-some s e)
  asked_typed (p ∷ ps) w end_of-Mexp l e = absurd (false≢true (ap is_nil l))
  asked_typed (p ∷ ps) w (more_of-Mexp m args) l e = by_fit (fits (interface_at ms m) (functor_type ms.types (ms.types p.ty))) refl l (asked_typed ps w.1 args)
    where
      by_name : fits (interface_at ms m) (functor_type ms.types (ms.types p.ty)) ≡ true → left_over (lacked ms.types ps) (interfaces_at ms args) ≡ Some [] → (b : Bool) →
          (if b then signature_in (type_named D p.ty).signatures o.name else oracle_signature D ps o) ≡ Some s →
          (left_over (lacked ms.types ps) (interfaces_at ms args) ≡ Some [] → oracle_signature D ps o ≡ Some s → IsAsked ps (mexps_in args)) →
          (t : ProcedureType) × (procedure_of (interface_at ms (if b then m else stands_for ps (mexps_in args) o.parameter)) o.name ≡ Some t)
      by_name h l true e go = in_fitting p w.0 e (interface_at ms m) h
      by_name h l false e go = go l e

      by_fit : (b : Bool) → fits (interface_at ms m) (functor_type ms.types (ms.types p.ty)) ≡ b → (if b then left_over (lacked ms.types ps) (interfaces_at ms args) else None) ≡ Some [] →
          (left_over (lacked ms.types ps) (interfaces_at ms args) ≡ Some [] → oracle_signature D ps o ≡ Some s → IsAsked ps (mexps_in args)) → IsAsked (p ∷ ps) (mexps_in (more_of-Mexp m args))
      by_fit true h l go = by_name h l (bytes_eq o.parameter p.name) e go
      by_fit false h l go = absurd (none-some [] l)

  -- .. and answers
  pub asked_answers : {X : Type 0} (ls : linked.Modules X) {n : Count} (ps : List Param) (args : Row_of-Mexp n) → left_over (lacked ms.types ps) (interfaces_at ms args) ≡ Some [] →
      oracle_signature D ps o ≡ Some s → oracle_of ps (map (λ f. f []) (modules_at ls args ++ [])) o ≡ procedure_at ls (asked_of ps (mexps_in args) (as_named o))
  asked_answers ls [] args l e = absurd (none-some s e)
  asked_answers ls (p ∷ ps) end_of-Mexp l e = absurd (false≢true (ap is_nil l))
  asked_answers {X} ls (p ∷ ps) (more_of-Mexp m args) l e = by_fit (fits (interface_at ms m) (functor_type ms.types (ms.types p.ty))) l (asked_answers ls ps args)
    where
      by_name : left_over (lacked ms.types ps) (interfaces_at ms args) ≡ Some [] → (b : Bool) →
          (if b then signature_in (type_named D p.ty).signatures o.name else oracle_signature D ps o) ≡ Some s →
          (left_over (lacked ms.types ps) (interfaces_at ms args) ≡ Some [] → oracle_signature D ps o ≡ Some s →
          oracle_of ps (map (λ f. f []) (modules_at ls args ++ [])) o ≡ procedure_at ls (asked_of ps (mexps_in args) (as_named o))) →
          (if b then found (module_at ls m []) o.name else oracle_of ps (map (λ f. f []) (modules_at ls args ++ [])) o)
          ≡ procedure_at ls (record { «module» = if b then m else stands_for ps (mexps_in args) o.parameter; name = o.name })
      by_name l true e go = refl
      by_name l false e go = go l e

      by_fit : (b : Bool) → (if b then left_over (lacked ms.types ps) (interfaces_at ms args) else None) ≡ Some [] →
          (left_over (lacked ms.types ps) (interfaces_at ms args) ≡ Some [] → oracle_signature D ps o ≡ Some s →
          oracle_of ps (map (λ f. f []) (modules_at ls args ++ [])) o ≡ procedure_at ls (asked_of ps (mexps_in args) (as_named o))) →
          oracle_of (p ∷ ps) (map (λ f. f []) (modules_at ls (more_of-Mexp m args) ++ [])) o ≡ procedure_at ls (asked_of (p ∷ ps) (mexps_in (more_of-Mexp m args)) (as_named o))
      by_fit true l go = by_name l (bytes_eq o.parameter p.name) e go
      by_fit false l go = absurd (none-some [] l)

-- Signatures.

module _ (D : Declarations) (a : Name) (t : ModuleType) where
  abbrev pub touched_by : (Oracle → Option (List Var)) → Option Signature → Option (List Var)
  touched_by os o = option_map (λ s. Glob a ∷ oracle_footprints os (oracles_called D t s)) o

  pub found_signed : (os : Oracle → Option (List Var)) (ss : List Signature) (f : Name) → found (signature_footprints D a t os ss) f ≡ touched_by os (signature_in ss f)
  found_signed os [] f = refl
  found_signed os (s ∷ ss) f = step (bytes_eq f s.name) (found_signed os ss f)
    where
      step : (b : Bool) → found (signature_footprints D a t os ss) f ≡ touched_by os (signature_in ss f) →
          (if b then Some (Glob a ∷ oracle_footprints os (oracles_called D t s)) else found (signature_footprints D a t os ss) f) ≡ touched_by os (if b then Some s else signature_in ss f)
      step true h = refl
      step false h = h

  pub signed_there : (ss : List Signature) → NameSigned D t ss → (f : Name) (s : Signature) → signature_in ss f ≡ Some s → AreSigned D t.params (oracles_called D t s)
  signed_there [] w f s e = absurd (none-some s e)
  signed_there (u ∷ us) w f s e = step (bytes_eq f u.name) e (signed_there us w.1 f s)
    where
      step : (b : Bool) → (if b then Some u else signature_in us f) ≡ Some s → (signature_in us f ≡ Some s → AreSigned D t.params (oracles_called D t s)) → AreSigned D t.params (oracles_called D t s)
      step true e go = subst (λ z. AreSigned D t.params (oracles_called D t z)) (same_Some u s e) w.0
      step false e go = go e

pub same_signature : (ss : List Signature) (f : Name) → signature_of ss f ≡ signature_in ss f
same_signature [] f = refl
same_signature (s ∷ ss) f = (λ i. if name_test s.name f i then Some s else same_signature ss f i)

-- an oracle that a signature names may be called
those_may : (us : List OracleName) (o : Oracle) → Has (map as_asked us) o → may_call (those us) o ≡ true
those_may [] o h = absurd h
those_may (u ∷ us) o (inl e) =
    ap (λ b. b || may_call (those us) o) (subst (λ z. oracle_eq z (as_asked u) ≡ true) e (λ i. (bytes_eq-Decides u.parameter u.parameter).1 refl i && (bytes_eq-Decides u.name u.name).1 refl i))
those_may (u ∷ us) o (inr h) = step (oracle_eq o (as_asked u)) (those_may us o h)
  where
    step : (b : Bool) → may_call (those us) o ≡ true → (b || may_call (those us) o) ≡ true
    step true k = refl
    step false k = k

pub called_may : (D : Declarations) (t : ModuleType) (s : Signature) (o : Oracle) → Has (oracles_called D t s) o → may_call s.oracles o ≡ true
called_may D t s o h = step s.oracles refl
  where
    step : (m : MayCall) → s.oracles ≡ m → may_call m o ≡ true
    step every e = refl
    step (those us) e = those_may us o (subst (λ m. Has (named_oracles D t.params m) o) e h)
