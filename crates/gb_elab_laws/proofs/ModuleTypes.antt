-- What the typing of module types gives is typed.
use Rattle.std.proofs.Common.{◌≡◌, Bool, true, false, if◌then◌else◌, List, [], ◌∷◌, ◌++◌, Option, Some, None, bytes_eq, refl, ap, sym, ◌∙◌, subst}
use Rattle.std.specs.List.{list_any}
use Rattle.gb_core.specs.declared.place.Place.{Place}
use Rattle.gb_core.specs.declared.refusal.Why.TheVariants.{DoubleName, UnknownName}
use Rattle.gb_terms.specs.declared.decl.Param.{Param}
use Rattle.gb_goal.specs.Answers.{given_or}
use Rattle.gb_goal.specs.Answers.Answer.{given}
use Rattle.gb_goal.specs.Interfaces.{params_in, signatures_of}
use Rattle.gb_goal.specs.Scope.{Declarations, entry_of, module_type_of}
use Rattle.gb_goal.specs.declared.module_type.MayCall.{MayCall}
use Rattle.gb_goal.specs.declared.module_type.MayCall.TheVariants.{Every, Those}
use Rattle.gb_goal.specs.declared.module_type.ModuleType.{ModuleType}
use Rattle.gb_goal.specs.declared.module_type.Oracle.{Oracle}
use Rattle.gb_goal.specs.declared.module_type.Signature.{Signature}
use Rattle.gb_goal.specs.declared.scope.Entry.TheVariants as entry
use Rattle.gb_script.specs.declared.head.Head.{Head}
use Rattle.gb_script.specs.declared.head.Head.TheVariants as head
use Rattle.gb_script.specs.declared.tree.Node.{Node}
use Rattle.gb_script.specs.Tree.{head_of, text_of, parts_of, place_of}
use Rattle.gb_meaning.specs.Names.{Name}
use Rattle.gb_laws.specs.Finite.{IsVariableType}
use Rattle.gb_meaning.specs.Declared.{declared, signature_in}
use Rattle.gb_mods.specs.Asked.{signature_of}
use Rattle.gb_names.specs.Names.{no_declared}
use Rattle.gb_typing.specs.Formulas.{IsKnown, oracle_in}
use Rattle.gb_typing.specs.Modules.{Modules}
use Rattle.gb_typing.specs.Programs.{HaveVariableTypes}
use Rattle.gb_typing.specs.Scopes.{context_of, is_declared, with_param, AreParams, AreOracles, AreSignatures, IsModuleType, IsTypedScope}
use Rattle.gb_typing.proofs.Globals.{name_test, or_false}
use Rattle.gb_elab_stmt.specs.Targets.{spelled_by}
use Rattle.gb_elab_prog.specs.Bound.{apart, is_module, parameter_name}
use Rattle.gb_elab_prog.specs.Fresh.{free}
use Rattle.gb_elab_prog.specs.ModuleTypes.{may_call, module_type_at, module_type_entries, oracle, oracles, param, parameter, parameters, signature, signatures, signatures_named, signed, unsigned, without_parameters}
use Rattle.gb_elab_prog.specs.Procedures.{formals, result_type}
use Rattle.gb_elab_prog.specs.Types.{only}
use Rattle.gb_elab_laws.specs.Fitting.{AreTypes}
use Rattle.gb_elab_laws.proofs.Declared.{declared_in}
use Rattle.gb_elab_laws.proofs.Given.{given_bind, given_is, if_absent, if_refused, none_some, not_given, same_some, some_given}
use Rattle.gb_elab_laws.proofs.Members.{free_is}
use Rattle.gb_elab_laws.proofs.ModuleNames.{no_module, type_known}
use Rattle.gb_elab_laws.proofs.Programs.{formals_typed, result_typed}
use Rattle.gb_elab_laws.proofs.Taken.{with_all, types_stay, still_free}

-- Parameters.

-- a module type without parameters, and a name under which no module is known
abbrev IsParam : Modules → Param → Type 0
IsParam ms p = IsKnown (ms.types p.ty) × (params_in (ms.types p.ty) ≡ []) × (ms.interfaces p.name ≡ None)

params_behind : (ms : Modules) (ps : List Param) (p : Param) → AreParams ms ps → IsParam (with_all ms ps) p → AreParams ms (ps ++ p ∷ [])
params_behind ms [] p h k = (k, tt)
params_behind ms (q ∷ ps) p h k = (h.0, params_behind (with_param ms q) ps p h.1 k)

none_lacking : (ps : List Param) (p : Place) (y : Unit {0}) → without_parameters ps p ≡ given y → ps ≡ []
none_lacking [] p y e = refl
none_lacking (q ∷ ps) p y e = absurd (not_given _ _ y e)

-- Signatures.

abbrev IsSignature : Modules → List Param → Signature → Type 0
IsSignature ms ps s = HaveVariableTypes s.params × IsVariableType s.result × AreOracles ms ps s.oracles

-- one of another name behind others
other_signature : (ss : List Signature) (s : Signature) (n : Name) → signature_in ss n ≡ None → bytes_eq n s.name ≡ false → signature_in (ss ++ s ∷ []) n ≡ None
other_signature [] s n e f = ap (λ (b : Bool). if b then Some s else None) f
other_signature (r ∷ ss) s n e f =
    let o = if_absent (bytes_eq n r.name) r (signature_in ss n) e in
    ap (λ (b : Bool). if b then Some r else signature_in (ss ++ s ∷ []) n) o.0 ∙ other_signature ss s n o.1 f

signatures_behind : (ms : Modules) (ps : List Param) (ss : List Signature) (s : Signature) → AreSignatures ms ps ss → IsSignature ms ps s → list_any (λ r. bytes_eq r.name s.name) ss ≡ false →
    AreSignatures ms ps (ss ++ s ∷ [])
signatures_behind ms ps [] s h k f = (k, refl, tt)
signatures_behind ms ps (r ∷ ss) s h k f =
    let o = or_false (bytes_eq r.name s.name) (list_any (λ (z : Signature). bytes_eq z.name s.name) ss) f in
    (h.0, other_signature ss s r.name h.1 o.0, signatures_behind ms ps ss s h.2 k o.1)

oracles_behind : (ms : Modules) (ps : List Param) (os : List Oracle) (o : Oracle) → AreOracles ms ps (Those os) → IsKnown (oracle_in ms ps o.parameter o.name) → AreOracles ms ps (Those (os ++ o ∷ []))
oracles_behind ms ps [] o h k = (k, tt)
oracles_behind ms ps (r ∷ os) o h k = (h.0, oracles_behind ms ps os o h.1 k)

-- the signature of a name
signature_is : (ss : List Signature) (n : Name) → signature_of ss n ≡ signature_in ss n
signature_is [] n = refl
signature_is (s ∷ ss) n =
    ap (λ (b : Bool). if b then Some s else signature_of ss n) (name_test s.name n) ∙ ap (λ (o : Option Signature). if bytes_eq n s.name then Some s else o) (signature_is ss n)

module _ (ds : Declarations) (scoped : IsTypedScope (declared ds)) where
  abbrev here : Modules
  here = (context_of (declared ds)).modules

  names : AreTypes ds
  names = let k = declared_in ds scoped in k.types

  parameter_typed : (qs rs : List Param) (h : Head) (xs : List Node) (p : Place) → AreParams here qs → parameter ds qs h xs p ≡ given rs → AreParams here rs
  parameter_typed qs rs head.ModuleParameter (x ∷ t ∷ []) p w e =
      let o = given_bind (parameter_name ds None qs x) _ rs e in
      let u = given_bind (module_type_at ds t) _ rs o.2 in
      let k = given_bind (without_parameters u.0.params (place_of t)) _ rs u.2 in
      let own = if_refused (list_any (λ (q : Param). bytes_eq q.name (text_of x)) qs) (DoubleName (text_of x)) (place_of x) (apart ds x) o.0 o.1 in
      let new = if_refused (is_module (entry_of ds (text_of x))) (DoubleName (text_of x)) (place_of x) (given tt) o.0 own.1 in
      let there : (with_all here qs).types (spelled_by t) ≡ Some u.0 =
      types_stay here qs (spelled_by t) ∙ type_known ds scoped (spelled_by t)
      ∙ some_given (module_type_of ds (spelled_by t)) (no_declared None ds (spelled_by t)) (place_of t) u.0 u.1 in
      let typed = subst (λ (z : Option ModuleType). IsKnown z × (params_in z ≡ [])) (sym there) (tt, none_lacking u.0.params (place_of t) k.0 k.1) in
      let q : Param = param x t in
      subst (AreParams here) (given_is (qs ++ q ∷ []) rs k.2)
      (params_behind here qs q w (typed.0, typed.1, still_free here qs (text_of x) (no_module ds scoped (text_of x) new.0) own.0))
  parameter_typed qs rs _ _ p w e = absurd (not_given _ _ rs e)

  parameters_typed : (qs rs : List Param) (ts : List Node) → AreParams here qs → parameters ds qs ts ≡ given rs → AreParams here rs
  parameters_typed qs rs [] w e = subst (AreParams here) (given_is qs rs e) w
  parameters_typed qs rs (t ∷ ts) w e =
      let us = given_bind (parameter ds qs (head_of t) (parts_of t) (place_of t)) (λ us. parameters ds us ts) rs e in
      parameters_typed us.0 rs ts (parameter_typed qs us.0 (head_of t) (parts_of t) (place_of t) w us.1) us.2

  module _ (qs : List Param) where
    -- a procedure of the first parameter, or else of the other ones
    abbrev oracle_by : Param → List Param → Name → Name → Bool → Option Signature
    oracle_by q ps x f b = if b then signature_in (signatures_of (here.types q.ty)) f else oracle_in here ps x f

    -- the procedures of a parameter are those of its module type
    among_is : (ps : List Param) (x : Name) (ss : List Signature) → signatures_named ds ps x ≡ Some ss → (f : Name) → oracle_in here ps x f ≡ signature_in ss f
    among_is [] x ss e f = none_some ss e
    among_is (q ∷ ps) x ss e f = step (bytes_eq q.name x) (name_test x q.name) (λ e. among_is ps x ss e f) e
      where
        step : (b : Bool) → bytes_eq x q.name ≡ b → (signatures_named ds ps x ≡ Some ss → oracle_in here ps x f ≡ signature_in ss f) →
            (if b then Some (signatures_of (module_type_of ds q.ty)) else signatures_named ds ps x) ≡ Some ss → oracle_by q ps x f (bytes_eq x q.name) ≡ signature_in ss f
        step true i rest e =
            ap (oracle_by q ps x f) i
            ∙ ap (λ z. signature_in z f) (ap signatures_of (type_known ds scoped q.ty) ∙ same_some (signatures_of (module_type_of ds q.ty)) ss e)
        step false i rest e = ap (oracle_by q ps x f) i ∙ rest e

    oracle_typed : (h : Head) (xs : List Node) (p : Place) (o : Oracle) → oracle ds qs h xs p ≡ given o → IsKnown (oracle_in here qs o.parameter o.name)
    oracle_typed head.Oracle (x ∷ f ∷ []) p o e =
        let a = given_bind (given_or (signatures_named ds qs (text_of x)) (UnknownName (text_of x)) (place_of x)) _ o e in
        let b = given_bind (given_or (signature_of a.0 (text_of f)) (UnknownName (text_of f)) (place_of f)) _ o a.2 in
        let there : oracle_in here qs (text_of x) (text_of f) ≡ Some b.0 =
        among_is qs (text_of x) a.0 (some_given (signatures_named ds qs (text_of x)) (UnknownName (text_of x)) (place_of x) a.0 a.1) (text_of f)
        ∙ sym (signature_is a.0 (text_of f)) ∙ some_given (signature_of a.0 (text_of f)) (UnknownName (text_of f)) (place_of f) b.0 b.1 in
        subst (λ (z : Oracle). IsKnown (oracle_in here qs z.parameter z.name)) (given_is (record { parameter = text_of x; name = text_of f }) o b.2) (subst IsKnown (sym there) tt)
    oracle_typed _ _ p o e = absurd (not_given _ _ o e)

    oracles_typed : (os all : List Oracle) (ts : List Node) → AreOracles here qs (Those os) → oracles ds qs os ts ≡ given all → AreOracles here qs (Those all)
    oracles_typed os all [] w e = subst (λ z. AreOracles here qs (Those z)) (given_is os all e) w
    oracles_typed os all (t ∷ ts) w e =
        let o = given_bind (oracle ds qs (head_of t) (parts_of t) (place_of t)) (λ o. oracles ds qs (os ++ o ∷ []) ts) all e in
        oracles_typed (os ++ o.0 ∷ []) all ts (oracles_behind here qs os o.0 w (oracle_typed (head_of t) (parts_of t) (place_of t) o.0 o.1)) o.2

    calls_typed : (h : Head) (xs : List Node) (p : Place) (m : MayCall) → may_call ds qs h xs p ≡ given m → AreOracles here qs m
    calls_typed head.AllOracles xs p m e = subst (AreOracles here qs) (given_is Every m e) tt
    calls_typed head.Oracles xs p m e =
        let os = given_bind (oracles ds qs [] xs) (λ os. given (Those os)) m e in
        subst (AreOracles here qs) (given_is (Those os.0) m os.2) (oracles_typed [] os.0 xs tt os.1)
    calls_typed _ xs p m e = absurd (not_given _ _ m e)

    signed_typed : (x fs r os : Node) (s : Signature) → signed ds qs x fs r os ≡ given s → (s.name ≡ text_of x) × IsSignature here qs s
    signed_typed x fs r os s e =
        let a = given_bind (formals ds [] (parts_of fs)) _ s e in
        let b = given_bind (result_type ds (parts_of r)) _ s a.2 in
        let m = given_bind (may_call ds qs (head_of os) (parts_of os) (place_of os)) _ s b.2 in
        let made : Signature = record { name = text_of x; params = a.0; result = b.0; oracles = m.0 } in
        subst (λ (z : Signature). (z.name ≡ text_of x) × IsSignature here qs z) (given_is made s m.2) (
          refl,
          (formals_typed ds names [] (parts_of fs) a.0 tt a.1, result_typed ds names (parts_of r) b.0 b.1, calls_typed (head_of os) (parts_of os) (place_of os) m.0 m.1),
        )

    signature_typed : (ss rs : List Signature) (h : Head) (xs : List Node) (p : Place) → AreSignatures here qs ss → signature ds qs ss h xs p ≡ given rs → AreSignatures here qs rs
    signature_typed ss rs head.Signature (x ∷ fs ∷ r ∷ os ∷ []) p w e =
        let o = given_bind (unsigned ss x) _ rs e in
        let s = given_bind (signed ds qs x fs r os) (λ s. given (ss ++ s ∷ [])) rs o.2 in
        let own = if_refused (list_any (λ (z : Signature). bytes_eq z.name (text_of x)) ss) (DoubleName (text_of x)) (place_of x) (given tt) o.0 o.1 in
        let k = signed_typed x fs r os s.0 s.1 in
        subst (AreSignatures here qs) (given_is (ss ++ s.0 ∷ []) rs s.2)
        (signatures_behind here qs ss s.0 w k.1 (ap (λ n. list_any (λ (z : Signature). bytes_eq z.name n) ss) k.0 ∙ own.0))
    signature_typed ss rs _ _ p w e = absurd (not_given _ _ rs e)

    signatures_typed : (ss rs : List Signature) (ts : List Node) → AreSignatures here qs ss → signatures ds qs ss ts ≡ given rs → AreSignatures here qs rs
    signatures_typed ss rs [] w e = subst (AreSignatures here qs) (given_is ss rs e) w
    signatures_typed ss rs (t ∷ ts) w e =
        let us = given_bind (signature ds qs ss (head_of t) (parts_of t) (place_of t)) (λ us. signatures ds qs us ts) rs e in
        signatures_typed us.0 rs ts (signature_typed ss us.0 (head_of t) (parts_of t) (place_of t) w us.1) us.2

-- one module type, under a free name
pub record IsNewType (ds : Declarations) (x : Node) (all : Declarations) : Type 0 where
  pub type : ModuleType
  pub is : only x (entry.ModuleType type) ≡ all
  pub free : is_declared (declared ds) (text_of x) ≡ false
  pub typed : IsTypedScope (declared ds) → IsModuleType (context_of (declared ds)) type

pub module_type_is : (ds : Declarations) (x : Node) (ps ts : List Node) (all : Declarations) → module_type_entries ds x ps ts ≡ given all → IsNewType ds x all
unfolding module_type_entries
module_type_is ds x ps ts all e =
    let f = given_bind (free ds x) _ all e in
    let a = given_bind (parameters ds [] ps) _ all f.2 in
    let b = given_bind (signatures ds a.0 [] ts) _ all a.2 in
    let t : ModuleType = record { params = a.0; signatures = b.0 } in
    record {
      type = t;
      is = given_is (only x (entry.ModuleType t)) all b.2;
      free = free_is ds x f.0 f.1;
      typed = λ w. record { params = parameters_typed ds w [] a.0 ps tt a.1; signatures = signatures_typed ds w a.0 [] b.0 ts tt b.1 };
    }
