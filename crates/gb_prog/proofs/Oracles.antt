-- What answers for the oracles of an abstract module that is given modules: their procedures.
use Rattle.std.proofs.Common.{◌≡◌, ◌⊎◌, inl, inr, Bool, true, false, ◌||◌, if◌then◌else◌, List, [], ◌∷◌, ◌++◌, map, Option, Some, None, bytes_eq, refl, ap, sym, ◌∙◌, subst}
use Rattle.std.proofs.lemmas.Bool.{false≢true, and_parts}
use Rattle.std.proofs.lemmas.Option.{none-some, same_Some}
use Rattle.std.proofs.lemmas.Slice.Eq.{bytes_eq-Decides}
use Rattle.gb_terms.specs.declared.decl.Param.{Param}
use Rattle.gb_terms.specs.declared.module.Mexp.{Mexp, Row_of-Mexp, end_of-Mexp, more_of-Mexp}
use Rattle.gb_terms.specs.declared.module.Mexp.TheVariants.{Name as named, Apply'}
use Rattle.gb_terms.specs.declared.module.ProcRef.{ProcRef}
use Rattle.gb_terms.specs.Rows.{mexps_in}
use Rattle.gb_goal.specs.declared.module_type.Oracle.{Oracle as OracleName}
use Rattle.gb_goal.specs.Instances.{arguments_of, name_of, stands_for}
use Rattle.gb_goal.specs.Interfaces.{Interface, ProcedureType, fits, found as procedure_found, has_type, interface_at, interfaces_at, left_over, of_complete, procedure_in, procedure_type, provides, signature_types, signatures_of, takes}
use Rattle.gb_goal.specs.Scope as scope
use Rattle.gb_meaning.specs.Names.{Name}
use Rattle.gb_meaning.specs.Program.{Routine, Oracle}
use Rattle.gb_meaning.specs.Adversary.{as_asked, callable, may_call, or_none, oracle_eq, oracle_signature, type_named}
use Rattle.gb_meaning.specs.Declared.{ModuleType, Signature, MayCall, every, those, declared, module_type_of, signature_in}
use Rattle.gb_meaning.specs.Linking.{oracle_of}
use Rattle.gb_meaning.specs.Modules.{Functor, Modules, found, module_at, modules_at, procedure_at}
use Rattle.gb_typing.proofs.DeclaredTypes.{declared_type}
use Rattle.gb_mods.specs.Asked.{all_oracles, asked_for, asked_of, oracles_in, oracles_named}
use Rattle.gb_mods.proofs.Closed.{IsIn}
use Rattle.gb_prog.specs.BothAnyOf.{IsPairIn, Serves, type_of}
use mathlib.Core.Former.{Count}

-- the modules that a module expression gives
abbrev pub given : Modules Routine → Mexp → List (Functor Routine)
given ms (named n) = []
given ms (Apply' n k args) = modules_at ms args ++ []

pub applied_is : (ms : Modules Routine) (m : Mexp) → module_at ms m [] ≡ ms (name_of m) (given ms m)
applied_is ms (named n) = refl
applied_is ms (Apply' n k args) = refl

-- the procedures of the modules that are given, for all oracles of parameters
abbrev pub answers : Modules Routine → List Param → Mexp → Oracle → Option Routine
answers ms ps m = oracle_of ps (map (λ f. f []) (given ms m))

-- the oracle, as signatures name it
abbrev pub as_named : Oracle → OracleName
as_named o = record { parameter = o.parameter; name = o.name }

module _ (ms : Modules Routine) where
  row_answers : {n : Count} (ps : List Param) (args : Row_of-Mexp n) (o : Oracle) (r : Routine) → oracle_of ps (map (λ f. f []) (modules_at ms args ++ [])) o ≡ Some r →
      procedure_at ms (asked_of ps (mexps_in args) (as_named o)) ≡ Some r
  row_answers [] args o r e = absurd (none-some r e)
  row_answers (p ∷ ps) end_of-Mexp o r e = absurd (none-some r e)
  row_answers (p ∷ ps) (more_of-Mexp m args) o r e = step (bytes_eq o.parameter p.name) (row_answers ps args o r) e
    where
      step : (b : Bool) → (oracle_of ps (map (λ f. f []) (modules_at ms args ++ [])) o ≡ Some r → procedure_at ms (asked_of ps (mexps_in args) (as_named o)) ≡ Some r) →
          (if b then found (module_at ms m []) o.name else oracle_of ps (map (λ f. f []) (modules_at ms args ++ [])) o) ≡ Some r →
          procedure_at ms (record { «module» = if b then m else stands_for ps (mexps_in args) o.parameter; name = o.name }) ≡ Some r
      step true go e = e
      step false go e = go e

  none_given : (ps : List Param) (o : Oracle) → oracle_of {X = Routine} ps [] o ≡ None
  none_given [] o = refl
  none_given (p ∷ ps) o = refl

  -- what answers for an oracle is a procedure of a module that is given
  pub answers_is : (ps : List Param) (m : Mexp) (o : Oracle) (r : Routine) → answers ms ps m o ≡ Some r → procedure_at ms (asked_of ps (arguments_of m) (as_named o)) ≡ Some r
  answers_is ps (named n) o r e = absurd (none-some r (sym (none_given ps o) ∙ e))
  answers_is ps (Apply' n k args) o r e = row_answers ps args o r e

-- The oracles that a procedure may call are those of its signature.

in_back : (ps qs : List ProcRef) (q : ProcRef) → IsIn qs q → IsIn (ps ++ qs) q
in_back [] qs q h = h
in_back (p ∷ ps) qs q h = inr (in_back ps qs q h)

-- the oracle is one of these
abbrev IsNamedIn : List OracleName → Oracle → Type 0
IsNamedIn [] o = ⊥
IsNamedIn (u ∷ us) o = (u ≡ as_named o) ⊎ IsNamedIn us o

named_front : (us vs : List OracleName) (o : Oracle) → IsNamedIn us o → IsNamedIn (us ++ vs) o
named_front [] vs o h = absurd h
named_front (u ∷ us) vs o (inl e) = inl e
named_front (u ∷ us) vs o (inr h) = inr (named_front us vs o h)

named_back : (us vs : List OracleName) (o : Oracle) → IsNamedIn vs o → IsNamedIn (us ++ vs) o
named_back [] vs o h = h
named_back (u ∷ us) vs o h = inr (named_back us vs o h)

same_named : (u : OracleName) (o : Oracle) → u.parameter ≡ o.parameter → u.name ≡ o.name → u ≡ as_named o
same_named u o e f = λ i. record { parameter = e i; name = f i }

those_named : (us : List OracleName) (o : Oracle) → may_call (those us) o ≡ true → IsNamedIn us o
those_named [] o e = absurd (false≢true e)
those_named (u ∷ us) o e = step (oracle_eq o (as_asked u)) refl e (those_named us o)
  where
    step : (b : Bool) → oracle_eq o (as_asked u) ≡ b → (b || may_call (those us) o) ≡ true → (may_call (those us) o ≡ true → IsNamedIn us o) → IsNamedIn (u ∷ us) o
    step true q e go =
        let k = and_parts (bytes_eq o.parameter u.parameter) (bytes_eq o.name u.name) q in
        inl (same_named u o (sym ((bytes_eq-Decides o.parameter u.parameter).0 k.0)) (sym ((bytes_eq-Decides o.name u.name).0 k.1)))
    step false q e go = inr (go e)

-- those of one parameter
one_named : (x : Name) (ss : List Signature) (o : Oracle) (s : Signature) → x ≡ o.parameter → signature_in ss o.name ≡ Some s → IsNamedIn (oracles_in x ss) o
one_named x [] o s p e = absurd (none-some s e)
one_named x (u ∷ ss) o s p e = step (bytes_eq o.name u.name) refl e (one_named x ss o s p)
  where
    step : (b : Bool) → bytes_eq o.name u.name ≡ b → (if b then Some u else signature_in ss o.name) ≡ Some s → (signature_in ss o.name ≡ Some s → IsNamedIn (oracles_in x ss) o) →
        IsNamedIn (oracles_in x (u ∷ ss)) o
    step true q e go = inl (same_named (record { parameter = x; name = u.name }) o p (sym ((bytes_eq-Decides o.name u.name).0 q)))
    step false q e go = inr (go e)

module _ (ds : scope.Declarations) where
  pub signatures_same : (n : Name) → (type_named (declared ds) n).signatures ≡ signatures_of (scope.module_type_of ds n)
  signatures_same n = step (scope.module_type_of ds n) (declared_type ds n)
    where
      step : (o : Option ModuleType) → module_type_of (declared ds) n ≡ o → (type_named (declared ds) n).signatures ≡ signatures_of o
      step None e = ap (λ (z : Option ModuleType). (or_none z).signatures) e
      step (Some t) e = ap (λ (z : Option ModuleType). (or_none z).signatures) e

  every_named : (qs : List Param) (o : Oracle) (s : Signature) → oracle_signature (declared ds) qs o ≡ Some s → IsNamedIn (all_oracles ds qs) o
  every_named [] o s e = absurd (none-some s e)
  every_named (q ∷ qs) o s e = step (bytes_eq o.parameter q.name) refl e (every_named qs o s)
    where
      first : List OracleName
      first = oracles_in q.name (signatures_of (scope.module_type_of ds q.ty))

      step : (b : Bool) → bytes_eq o.parameter q.name ≡ b →
          (if b then signature_in (type_named (declared ds) q.ty).signatures o.name else oracle_signature (declared ds) qs o) ≡ Some s →
          (oracle_signature (declared ds) qs o ≡ Some s → IsNamedIn (all_oracles ds qs) o) → IsNamedIn (first ++ all_oracles ds qs) o
      step true k e go =
          named_front first (all_oracles ds qs) o
          (one_named q.name (signatures_of (scope.module_type_of ds q.ty)) o s (sym ((bytes_eq-Decides o.parameter q.name).0 k)) (ap (λ ss. signature_in ss o.name) (sym (signatures_same q.ty)) ∙ e))
      step false k e go = named_back first (all_oracles ds qs) o (go e)

  may_call_named : (ps : List Param) (m : MayCall) (o : Oracle) (s : Signature) → may_call m o ≡ true → oracle_signature (declared ds) ps o ≡ Some s → IsNamedIn (oracles_named ds ps m) o
  may_call_named ps every o s e f = every_named ps o s f
  may_call_named ps (those us) o s e f = those_named us o e

  module _ (t : ModuleType) (u : Signature) (o : Oracle) (s : Signature) (e : callable (declared ds) t u o ≡ Some s) where
    -- an oracle that may be called is one of the signature's, and one of the parameters
    pub callable_named : IsNamedIn (oracles_named ds t.params u.oracles) o × (oracle_signature (declared ds) t.params o ≡ Some s)
    callable_named = step (may_call u.oracles o) refl e
      where
        step : (b : Bool) → may_call u.oracles o ≡ b → (if b then oracle_signature (declared ds) t.params o else None) ≡ Some s →
            IsNamedIn (oracles_named ds t.params u.oracles) o × (oracle_signature (declared ds) t.params o ≡ Some s)
        step true q e = (may_call_named t.params u.oracles o s q e, e)
        step false q e = absurd (none-some s e)

    pub callable_asked : (es : List Mexp) → IsIn (asked_for t.params es (oracles_named ds t.params u.oracles)) (asked_of t.params es (as_named o))
    callable_asked es = in_asked (oracles_named ds t.params u.oracles) callable_named.0
      where
        in_asked : (us : List OracleName) → IsNamedIn us o → IsIn (asked_for t.params es us) (asked_of t.params es (as_named o))
        in_asked [] h = absurd h
        in_asked (u ∷ us) (inl e) = inl (ap (asked_of t.params es) e)
        in_asked (u ∷ us) (inr h) = inr (in_asked us h)

    -- for two lists of modules, at the same place
    pub callable_pair : (es fs : List Mexp) → IsPairIn (asked_for t.params es (oracles_named ds t.params u.oracles)) (asked_for t.params fs (oracles_named ds t.params u.oracles))
        (asked_of t.params es (as_named o)) (asked_of t.params fs (as_named o))
    callable_pair es fs = pair_asked (oracles_named ds t.params u.oracles) callable_named.0
      where
        pair_asked : (us : List OracleName) → IsNamedIn us o → IsPairIn (asked_for t.params es us) (asked_for t.params fs us) (asked_of t.params es (as_named o)) (asked_of t.params fs (as_named o))
        pair_asked [] h = absurd h
        pair_asked (u ∷ us) (inl e) = inl (ap (asked_of t.params es) e, ap (asked_of t.params fs) e)
        pair_asked (u ∷ us) (inr h) = inr (pair_asked us h)

-- The procedures that references give for oracles are there, where modules are given for all parameters, and have the oracles' types.

module _ (ds : scope.Declarations) (f : Name) (s : Signature) where
  provided : (ps : List (Name × ProcedureType)) (ss : List Signature) → provides ps (signature_types ss) ≡ true → signature_in ss f ≡ Some s → has_type (procedure_found ps f) (type_of s) ≡ true
  provided ps [] h e = absurd (none-some s e)
  provided ps (u ∷ us) h e = step (bytes_eq f u.name) refl e (provided ps us)
    where
      k : (has_type (procedure_found ps u.name) (type_of u) ≡ true) × (provides ps (signature_types us) ≡ true)
      k = and_parts (has_type (procedure_found ps u.name) (type_of u)) (provides ps (signature_types us)) h

      step : (b : Bool) → bytes_eq f u.name ≡ b → (if b then Some u else signature_in us f) ≡ Some s →
          (provides ps (signature_types us) ≡ true → signature_in us f ≡ Some s → has_type (procedure_found ps f) (type_of s) ≡ true) → has_type (procedure_found ps f) (type_of s) ≡ true
      step true q e go =
          subst (λ z. z) (λ i. has_type (procedure_found ps (sym ((bytes_eq-Decides f u.name).0 q) i)) (type_of (same_Some u s e i)) ≡ true) k.0
      step false q e go = go k.1 e

  served : (o : Option ProcedureType) → has_type o (type_of s) ≡ true → Serves s o
  served None h = tt
  served (Some t) h = h

  complete_serves : (ls : List Param) (ps : List (Name × ProcedureType)) → has_type (procedure_found ps f) (type_of s) ≡ true → Serves s (of_complete ls ps f)
  complete_serves [] ps h = served (procedure_found ps f) h
  complete_serves (l ∷ ls) ps h = tt

  fitting_serves : (i : Option Interface) (t : Option ModuleType) → fits ds i t ≡ true → signature_in (signatures_of t) f ≡ Some s → Serves s (procedure_in i f)
  fitting_serves None t h e = tt
  fitting_serves (Some i) None h e = absurd (none-some s e)
  fitting_serves (Some i) (Some t) h e =
      complete_serves i.lacks i.procedures (provided i.procedures t.signatures (and_parts (takes ds i.lacks t.params) (provides i.procedures (signature_types t.signatures)) h).1 e)

-- modules are given for all these parameters
abbrev pub IsFilled : scope.Declarations → List Param → Mexp → Type 0
IsFilled ds ps (named n) = ps ≡ []
IsFilled ds ps (Apply' n k args) = left_over ds ps (interfaces_at ds None args) ≡ Some []

module _ (ds : scope.Declarations) (ms : Modules Routine) (o : Oracle) (s : Signature) where
  -- what answers is what the reference means, which serves
  abbrev IsAnswered : Option Routine → ProcRef → Type 0
  IsAnswered r x = (r ≡ procedure_at ms x) × Serves s (procedure_type ds None x)

  -- so is the oracle by these modules
  abbrev AreAnswering : {n : Count} → List Param → Row_of-Mexp n → Type 0
  AreAnswering ps args = left_over ds ps (interfaces_at ds None args) ≡ Some [] → oracle_signature (declared ds) ps o ≡ Some s →
      IsAnswered (oracle_of ps (map (λ f. f []) (modules_at ms args ++ [])) o) (asked_of ps (mexps_in args) (as_named o))

  row_answered : {n : Count} (ps : List Param) (args : Row_of-Mexp n) → left_over ds ps (interfaces_at ds None args) ≡ Some [] → oracle_signature (declared ds) ps o ≡ Some s →
      IsAnswered (oracle_of ps (map (λ f. f []) (modules_at ms args ++ [])) o) (asked_of ps (mexps_in args) (as_named o))
  row_answered [] args l e = absurd (none-some s e)
  row_answered (p ∷ ps) end_of-Mexp l e = absurd (false≢true (ap none_left l))
    where
      none_left : Option (List Param) → Bool
      none_left (Some []) = true
      none_left _ = false
  row_answered (p ∷ ps) (more_of-Mexp m args) l e = by_fit (fits ds (interface_at ds None m) (scope.module_type_of ds p.ty)) refl l (row_answered ps args)
    where
      by_name : fits ds (interface_at ds None m) (scope.module_type_of ds p.ty) ≡ true → left_over ds ps (interfaces_at ds None args) ≡ Some [] → (b : Bool) → bytes_eq o.parameter p.name ≡ b →
          (if b then signature_in (type_named (declared ds) p.ty).signatures o.name else oracle_signature (declared ds) ps o) ≡ Some s → AreAnswering ps args →
          IsAnswered (if b then found (module_at ms m []) o.name else oracle_of ps (map (λ f. f []) (modules_at ms args ++ [])) o)
          (record { «module» = if b then m else stands_for ps (mexps_in args) o.parameter; name = o.name })
      by_name h l true q e go =
          (refl, fitting_serves ds o.name s (interface_at ds None m) (scope.module_type_of ds p.ty) h (ap (λ ss. signature_in ss o.name) (sym (signatures_same ds p.ty)) ∙ e))
      by_name h l false q e go = go l e

      by_fit : (b : Bool) → fits ds (interface_at ds None m) (scope.module_type_of ds p.ty) ≡ b → (if b then left_over ds ps (interfaces_at ds None args) else None) ≡ Some [] → AreAnswering ps args →
          IsAnswered (oracle_of (p ∷ ps) (map (λ f. f []) (modules_at ms (more_of-Mexp m args) ++ [])) o) (asked_of (p ∷ ps) (mexps_in (more_of-Mexp m args)) (as_named o))
      by_fit true h l go = by_name h l (bytes_eq o.parameter p.name) refl e go
      by_fit false h l go = absurd (none-some [] l)

  pub filled_answers : (ps : List Param) (m : Mexp) → IsFilled ds ps m → oracle_signature (declared ds) ps o ≡ Some s → IsAnswered (answers ms ps m o) (asked_of ps (arguments_of m) (as_named o))
  filled_answers ps (named n) l e = absurd (none-some s (sym (ap (λ z. oracle_signature (declared ds) z o) l) ∙ e))
  filled_answers ps (Apply' n k args) l e = row_answered ps args l e
