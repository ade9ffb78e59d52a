-- Typed goals go on to hold as a scope grows by declarations of any kind but axioms and modules of open sections.
use Rattle.std.proofs.Common.{◌≡◌, Bool, true, false, if◌then◌else◌, List, [], ◌∷◌, ◌++◌, Option, Some, bytes_eq, refl, ap, sym, ◌∙◌, subst}
use Rattle.std.proofs.lemmas.List.{append_assoc, append-nil}
use Rattle.gb_core.specs.declared.ty.Ty.{Ty}
use Rattle.gb_terms.specs.declared.decl.TypedName.{TypedName}
use Rattle.gb_terms.specs.declared.module.Mexp.{Mexp, Row_of-Mexp, end_of-Mexp, more_of-Mexp}
use Rattle.gb_terms.specs.declared.module.Mexp.TheVariants.{Name as named, Apply'}
use Rattle.gb_terms.specs.declared.module.ProcRef.{ProcRef}
use Rattle.gb_terms.specs.declared.term.Term.{Term, Term', Row_of-Term, end_of-Term, more_of-Term, end_of-Head, more_of-Head}
use Rattle.gb_terms.specs.declared.term.Head.{Head}
use Rattle.gb_terms.specs.declared.term.Head.TheVariants as head
use Rattle.gb_goal.specs.Scope as scope
use Rattle.gb_goal.specs.declared.sequent.Sequent.{Sequent}
use Rattle.gb_meaning.specs.Names.{Name}
use Rattle.gb_meaning.specs.Written.{local_type}
use Rattle.gb_meaning.specs.Declared.{Declarations, Declaration, declared, abstract_type, abbreviation, operator, abstract_operator, module_type, concrete_module, abstract_module, axiom_of, lemma, terminating}
use Rattle.gb_meaning.specs.Holds.{EachDeclared, Holds}
use Rattle.gb_meaning.specs.Naming.{AnyName, IsFresh}
use Rattle.gb_meaning.proofs.Lists.{declared-append}
use Rattle.gb_typing.specs.Added.{IsNewOperator, IsSequentApartIn, IsAdded, AreAddedTo}
use Rattle.gb_typing.specs.Naming.{NoName, IsOther, IsKept, HeadNames, TermNames, TermsName, OperatorsName}
use Rattle.gb_typing.proofs.Additions.{all-added}
use Rattle.gb_laws.specs.Typing.{OperatorType, types_of, IsHead}
use Rattle.gb_typing.specs.Modules.{ProcedureType, Modules, given, interface_at, interfaces_at, procedure_of, procedure_type}
use Rattle.gb_typing.specs.Context.{Context, erased}
use Rattle.gb_typing.specs.Formulas.{IsKnown}
use Rattle.gb_typing.specs.Scopes.{nothing, operator_type, of_operator, interface_with, procedure_types, with_declared, with_each, context_of, is_declared, IsDeclared, IsFree, AreTypedAfter, IsTypedScope}
use Rattle.gb_typing.specs.Sequents.{IsTypedSequent}
use Rattle.gb_typing.specs.Typing.{IsThere, first, middle, last, IsTyped, AreTyped}
use Rattle.gb_typing.proofs.Globals.{or_false}
use Rattle.gb_arguments.specs.Firm.{IsFirm}
use Rattle.gb_elab_laws.specs.Speaking.{DeclarationSpeaks, ScopeSpeaks, GoalSpeaks, IsWithoutModules, IsFirmScope}
use Rattle.gb_elab_laws.proofs.Growing.{over, Grown}
use Rattle.gb_elab_laws.proofs.GrowingGoals.{each_append, goal_grown}
use Rattle.gb_elab_laws.proofs.LinkedNames.{none_some, variables_apart, measured_apart}
use Rattle.gb_elab_laws.proofs.MoreNames.{more_scope, more_goal}
use Rattle.gb_elab_laws.proofs.NamedForms.{AllKnown, given_known, interface_known}
use Rattle.gb_elab_laws.proofs.Staying.{split, AllDeclared, declared_more, declared_last, other_name, one_declared, scope_apart, apart}
use mathlib.Core.Former.{Count}

-- What a context knows is declared.

abbrev pub Knows : Declarations → Context → Type 0
Knows before c =
    AllDeclared before c
    × ((m x : Name) (t : Ty) → c.global m x ≡ Some t → is_declared before m ≡ true)
    × ((k : Name) (o : OperatorType) → c.operator k ≡ Some o → is_declared before k ≡ true)

if_declared : {A : Type 0} (before : Declarations) (n : Name) (d : Declaration) (j : Name) (x y : Option A) (t : A) → (y ≡ Some t → is_declared before j ≡ true) →
    (if bytes_eq j n then x else y) ≡ Some t → is_declared (before ++ (n, d) ∷ []) j ≡ true
if_declared {A} before n d j x y t k = step (bytes_eq j n) refl
  where
    step : (b : Bool) → bytes_eq j n ≡ b → (if b then x else y) ≡ Some t → is_declared (before ++ (n, d) ∷ []) j ≡ true
    step true e h = declared_last before n d j e
    step false e h = declared_more before ((n, d) ∷ []) j (k h)

globals_one : (before : Declarations) (n : Name) (d : Declaration) (c : Context) → ((m x : Name) (t : Ty) → c.global m x ≡ Some t → is_declared before m ≡ true) →
    (m x : Name) (t : Ty) → (with_declared c n d).global m x ≡ Some t → is_declared (before ++ (n, d) ∷ []) m ≡ true
globals_one before n (concrete_module m) c k h x t e = if_declared before n (concrete_module m) h (local_type m.globals x) (c.global h x) t (k h x t) e
globals_one before n d c k h x t e = declared_more before ((n, d) ∷ []) h (k h x t e)

operators_one : (before : Declarations) (n : Name) (d : Declaration) (c : Context) → ((k : Name) (o : OperatorType) → c.operator k ≡ Some o → is_declared before k ≡ true) →
    (k : Name) (o : OperatorType) → (with_declared c n d).operator k ≡ Some o → is_declared (before ++ (n, d) ∷ []) k ≡ true
operators_one before n (operator o) c k h t e = if_declared before n (operator o) h (Some (operator_type o)) (c.operator h) t (k h t) e
operators_one before n (abstract_operator o) c k h t e = if_declared before n (abstract_operator o) h (Some (record { params = o.params; result = o.result })) (c.operator h) t (k h t) e
operators_one before n d c k h t e = declared_more before ((n, d) ∷ []) h (k h t e)

knows_one : (before : Declarations) (n : Name) (d : Declaration) (c : Context) → IsDeclared c n d → Knows before c → Knows (before ++ (n, d) ∷ []) (with_declared c n d)
knows_one before n d c w k = (one_declared before n d c w k.0, globals_one before n d c k.1, operators_one before n d c k.2)

knows_each : (ds before : Declarations) (c : Context) → AreTypedAfter c before ds → Knows before c → Knows (before ++ ds) (with_each c ds)
knows_each [] before c w k = subst (λ z. Knows z c) (sym (append-nil before)) k
knows_each (d ∷ ds) before c w k =
    subst (λ z. Knows z (with_each c (d ∷ ds))) (append_assoc before (d ∷ []) ds)
    (knows_each ds (before ++ d ∷ []) (with_declared c d.0 d.1) w.2 (knows_one before d.0 d.1 c w.1 k))

knows_nothing : Knows [] nothing
knows_nothing = (λ n x. absurd x, λ m x t e. none_some t e, λ k o e. none_some o e)

-- One more declaration: more is known.

module _ (ms ks : Modules) (f : (n : Name) → IsKnown (ms.interfaces n) → ks.interfaces n ≡ ms.interfaces n) where
  mutual
    at_kept : (m : Mexp) → IsKnown (interface_at ms m) → interface_at ks m ≡ interface_at ms m
    at_kept (named n) k = f n k
    at_kept (Apply' n j args) k = let x = given_known ms (ms.interfaces n) (interfaces_at ms args) k in λ i. given (f n x.0 i) (all_kept args x.1 i)

    all_kept : {n : Count} (args : Row_of-Mexp n) → AllKnown ms (interfaces_at ms args) → interfaces_at ks args ≡ interfaces_at ms args
    all_kept end_of-Mexp k = refl
    all_kept (more_of-Mexp m r) k = λ i. at_kept m k.0 i ∷ all_kept r k.1 i

  procedure_kept : (p : ProcRef) (t : ProcedureType) → procedure_type ms p ≡ Some t → procedure_type ks p ≡ Some t
  procedure_kept p t e =
      ap (λ o. procedure_of o p.name) (at_kept p.«module» (interface_known ms (interface_at ms p.«module») p.name (subst IsThere (sym e) tt))) ∙ e

grown_one : (before : Declarations) (n : Name) (d : Declaration) (c : Context) → IsFirm d → IsFree before n → Knows before c → Grown (with_declared c n d) c
grown_one before n (concrete_module m) c y free k = (
  λ h x t e. ap (λ b. if b then local_type m.globals x else c.global h x) (other_name before h n (k.1 h x t e) free) ∙ e,
  λ j o e. e,
  procedure_kept c.modules (with_declared c n (concrete_module m)).modules
      (λ j z. ap (λ b. if b then Some (interface_with c.modules.types m.params (procedure_types m.procs)) else c.modules.interfaces j) (other_name before j n (k.0 j z) free)),
  λ a h. h,
)
grown_one before n (operator o) c y free k =
    (λ h x t e. e, λ j u e. ap (λ b. if b then Some (operator_type o) else c.operator j) (other_name before j n (k.2 j u e) free) ∙ e, λ p t e. e, λ a h. h)
grown_one before n (abstract_operator o) c y free k =
    (λ h x t e. e, λ j u e. ap (λ b. if b then Some (record { params = o.params; result = o.result }) else c.operator j) (other_name before j n (k.2 j u e) free) ∙ e, λ p t e. e, λ a h. h)
grown_one before n (module_type x) c y free k =
    (λ h x t e. e, λ j u e. e, procedure_kept c.modules (with_declared c n (module_type x)).modules (λ j z. refl), λ a h. h)
grown_one before n (abstract_module b) c y free k = absurd y
grown_one before n (axiom_of q) c y free k = absurd y
grown_one before n abstract_type c y free k = (λ h x t e. e, λ j u e. e, λ p t e. e, λ a h. h)
grown_one before n (abbreviation stood) c y free k = (λ h x t e. e, λ j u e. e, λ p t e. e, λ a h. h)
grown_one before n (lemma q) c y free k = (λ h x t e. e, λ j u e. e, λ p t e. e, λ a h. h)
grown_one before n (terminating f) c y free k = (λ h x t e. e, λ j u e. e, λ p t e. e, λ a h. h)

over_one : (n : Name) (d : Declaration) (c : Context) → with_declared c n d ≡ over (with_declared c n d) c
over_one n (concrete_module m) c = refl
over_one n (operator o) c = refl
over_one n (abstract_operator o) c = refl
over_one n (module_type x) c = refl
over_one n (abstract_module b) c = refl
over_one n _ c = refl

-- Operators that a typed term names.

module _ (Q : Name → Type 0) where
  abbrev Operators : Context → Type 0
  Operators c = (k : Name) (o : OperatorType) → c.operator k ≡ Some o → Q k

  head_others : (c : Context) → Operators c → (h : Head) (us : List Ty) (t : Ty) → IsHead (erased c) h us t → HeadNames NoName AnyName h t → HeadNames NoName Q h t
  head_others c f (head.User n) us t w k = f n _ w
  head_others c f _ us t w k = k

  in_first : (c : Context) → Operators c → (h : Head) → Operators (first c h)
  in_first c f (head.Hoare s) = f
  in_first c f (head.Phoare s r) = f
  in_first c f (head.Equiv s u) = f
  in_first c f _ = f

  in_middle : (c : Context) → Operators c → (h : Head) → Operators (middle c h)
  in_middle c f (head.Hoare s) = f
  in_middle c f (head.Phoare s r) = f
  in_middle c f (head.Equiv s u) = f
  in_middle c f _ = f

  in_last : (c : Context) → Operators c → (ls : List TypedName) (h : Head) (us : List Ty) → Operators (last c ls h us)
  in_last c f ls (head.All u) us = f
  in_last c f ls (head.Some u) us = f
  in_last c f ls head.AllMemory us = f
  in_last c f ls head.SomeMemory us = f
  in_last c f ls (head.AllModule b) us = f
  in_last c f ls (head.Sum q) us = f
  in_last c f ls head.Mu [] = f
  in_last c f ls head.Mu (u ∷ us) = f
  in_last c f ls head.Map [] = f
  in_last c f ls head.Map (u ∷ us) = f
  in_last c f ls head.Restrict [] = f
  in_last c f ls head.Restrict (u ∷ us) = f
  in_last c f ls (head.Pr p r) us = f
  in_last c f ls (head.Hoare s) us = f
  in_last c f ls (head.Phoare s r) us = f
  in_last c f ls (head.Equiv s u) us = f
  in_last c f ls _ us = f

  mutual
    term_others : (c : Context) → Operators c → (t : Term) → IsTyped c t → TermNames NoName AnyName t → TermNames NoName Q t
    term_others c f (Term' p (more_of-Head h end_of-Head) n ts ty) w k =
        (head_others c f h (types_of ts) ty w.0 k.0, terms_others (first c h) (middle c h) (last c w.2 h (types_of ts)) (in_first c f h) (in_middle c f h) (in_last c f w.2 h (types_of ts)) ts w.3 k.1)

    terms_others : {n : Count} (a b d : Context) → Operators a → Operators b → Operators d → (ts : Row_of-Term n) → AreTyped a b d ts → TermsName NoName AnyName ts → TermsName NoName Q ts
    terms_others a b d x y z end_of-Term w k = tt
    terms_others a b d x y z (more_of-Term t end_of-Term) w k = (term_others d z t w k.0, tt)
    terms_others a b d x y z (more_of-Term t (more_of-Term u ts)) w k = (term_others a x t w.0 k.0, terms_others b b d y y z (more_of-Term u ts) w.1 k.1)

  operator_others : (c : Context) → Operators c → (n : Name) (d : Declaration) → IsDeclared c n d → OperatorsName NoName Q ((n, d) ∷ [])
  operator_others c f n (operator o) w = (term_others (of_operator c o.params) f o.body w.typed w.apart, tt)
  operator_others c f n (abstract_operator o) w = ((variables_apart NoName o.params w.0, measured_apart NoName o.result w.1), tt)
  operator_others c f n _ w = (tt, tt)

  all_others : (ds before : Declarations) (c : Context) → AreTypedAfter c before ds → Knows before c → ((k : Name) → is_declared (before ++ ds) k ≡ true → Q k) → OperatorsName NoName Q ds
  all_others [] before c w k f = tt
  all_others (d ∷ ds) before c w k f = (
    (operator_others c (λ j o e. f j (declared_more before (d ∷ ds) j (k.2 j o e))) d.0 d.1 w.1).0,
    all_others ds (before ++ d ∷ []) (with_declared c d.0 d.1) w.2 (knows_one before d.0 d.1 c w.1 k) (λ j e. f j (subst (λ z. is_declared z j ≡ true) (append_assoc before (d ∷ []) ds) e)),
  )

  join_operators : (xs ys : Declarations) → OperatorsName NoName Q xs → OperatorsName NoName Q ys → OperatorsName NoName Q (xs ++ ys)
  join_operators [] ys h k = k
  join_operators (x ∷ xs) ys h k = (h.0, join_operators xs ys h.1 k)

fresh_undeclared : (ds : Declarations) (n : Name) → is_declared ds n ≡ false → IsFresh ds n
fresh_undeclared [] n e = tt
fresh_undeclared (d ∷ ds) n e = let x = or_false (bytes_eq n d.0) (is_declared ds n) e in (x.0, fresh_undeclared ds n x.1)

join_each : (P : Declaration → Type 0) (xs ys : Declarations) → EachDeclared P xs → EachDeclared P ys → EachDeclared P (xs ++ ys)
join_each P [] ys h k = k
join_each P (x ∷ xs) ys h k = (h.0, join_each P xs ys h.1 k)

join : (xs ys before : Declarations) (c : Context) → AreTypedAfter c before xs → AreTypedAfter (with_each c xs) (before ++ xs) ys → AreTypedAfter c before (xs ++ ys)
join [] ys before c w k = subst (λ z. AreTypedAfter c z ys) (append-nil before) k
join (x ∷ xs) ys before c w k =
    (w.0, w.1, join xs ys (before ++ x ∷ []) (with_declared c x.0 x.1) w.2 (subst (λ z. AreTypedAfter (with_each c (x ∷ xs)) z ys) (sym (append_assoc before (x ∷ []) xs)) k))

module _ (ds : Declarations) (typed : IsTypedScope ds) where
  pub knows : Knows ds (context_of ds)
  knows = knows_each ds [] nothing typed knows_nothing

  pub new_operator : (n : Name) (d : Declaration) → is_declared ds n ≡ false → IsDeclared (context_of ds) n d → IsNewOperator ds n d
  new_operator n d free w =
      let other : (k : Name) → is_declared ds k ≡ true → IsOther n k = λ k e. other_name ds k n e free in (
        fresh_undeclared ds n free,
        join_operators (IsOther n) ds ((n, d) ∷ []) (all_others (IsOther n) ds [] nothing typed knows_nothing other)
            (operator_others (IsOther n) (context_of ds) (λ k o e. other k (knows.2 k o e)) n d w),
      )

module _ (q : Sequent) (without : IsWithoutModules q) (says : GoalSpeaks NoName q) where
  module _ (ds : Declarations) (typed : IsTypedScope ds) (firm : EachDeclared IsFirm ds) (spoken : ScopeSpeaks NoName ds) (t : IsTypedSequent (context_of ds) q) where
    one_added : (n : Name) (d : Declaration) → IsFirm d → IsFree ds n → IsDeclared (context_of ds) n d → IsAdded (IsSequentApartIn q) ds n d
    one_added n (operator o) y free w = new_operator ds typed n (operator o) free w
    one_added n (abstract_operator o) y free w = new_operator ds typed n (abstract_operator o) free w
    one_added n (concrete_module m) y free w =
        let es : Declarations = (n, concrete_module m) ∷ [] in
        let k = more_scope NoName (IsKept es []) (λ n f. absurd f) ds spoken in
        let g = more_goal NoName (IsKept es []) (λ n f. absurd f) q says in
        (scope_apart es ds typed firm, apart ds es typed (free, w, tt) firm q t without k g)
    one_added n (module_type m) y free w =
        let es : Declarations = (n, module_type m) ∷ [] in
        let k = more_scope NoName (IsKept es []) (λ n f. absurd f) ds spoken in
        let g = more_goal NoName (IsKept es []) (λ n f. absurd f) q says in
        (scope_apart es ds typed firm, apart ds es typed (free, w, tt) firm q t without k g)
    one_added n (abstract_module b) y free w = absurd y
    one_added n (axiom_of p) y free w = absurd y
    one_added n abstract_type y free w = tt
    one_added n (abbreviation stood) y free w = tt
    one_added n (lemma p) y free w = tt
    one_added n (terminating f) y free w = tt

    typed_on : (n : Name) (d : Declaration) → IsFirm d → IsFree ds n → IsTypedSequent (context_of (ds ++ (n, d) ∷ [])) q
    typed_on n d y free =
        subst (λ z. IsTypedSequent z q) (sym (each_append ds ((n, d) ∷ []) nothing))
        (goal_grown (context_of ds) (with_declared (context_of ds) n d) (grown_one ds n d (context_of ds) y free (knows ds typed)) (over_one n d (context_of ds)) q t without)

  added_to : (es ds : Declarations) → IsTypedScope ds → AreTypedAfter (context_of ds) ds es → EachDeclared IsFirm ds → EachDeclared IsFirm es → ScopeSpeaks NoName ds → ScopeSpeaks NoName es →
      IsTypedSequent (context_of ds) q → AreAddedTo ds es q
  added_to [] ds typed later firm more spoken said t = tt
  added_to (d ∷ es) ds typed later firm more spoken said t = (
    one_added ds typed firm spoken t d.0 d.1 more.0 later.0 later.1,
    added_to es (ds ++ d ∷ []) (join ds (d ∷ []) [] nothing typed (later.0, later.1, tt))
        (subst (λ z. AreTypedAfter z (ds ++ d ∷ []) es) (sym (each_append ds (d ∷ []) nothing)) later.2)
        (join_each IsFirm ds (d ∷ []) firm (more.0, tt)) more.1 (join_each (DeclarationSpeaks NoName) ds (d ∷ []) spoken (said.0, tt)) said.1
        (typed_on ds typed firm spoken t d.0 d.1 more.0 later.0),
  )

part_each : (P : Declaration → Type 0) (xs ys : Declarations) → EachDeclared P (xs ++ ys) → EachDeclared P xs × EachDeclared P ys
part_each P [] ys k = (tt, k)
part_each P (x ∷ xs) ys k = let r = part_each P xs ys k.1 in ((k.0, r.0), r.1)

pub goal_stays_on : (ds es : Declarations) → IsTypedScope (ds ++ es) → EachDeclared IsFirm (ds ++ es) → (q : Sequent) → IsTypedSequent (context_of ds) q → IsWithoutModules q →
    ScopeSpeaks NoName (ds ++ es) → GoalSpeaks NoName q → Holds ds q → Holds (ds ++ es) q
goal_stays_on ds es scoped firm q t without spoken says h =
    let w = split ds es [] nothing scoped in
    let f = part_each IsFirm ds es firm in
    let k = part_each (DeclarationSpeaks NoName) ds es spoken in
    all-added ds es q (added_to q without says es ds w.0 w.1 f.0 f.1 k.0 k.1 t) h

-- Scripts.
pub script_stays : (ds es : scope.Declarations) → IsTypedScope (declared (ds ++ es)) → IsFirmScope (ds ++ es) → (q : Sequent) → IsTypedSequent (context_of (declared ds)) q → IsWithoutModules q →
    ScopeSpeaks NoName (declared (ds ++ es)) → GoalSpeaks NoName q → Holds (declared ds) q → Holds (declared (ds ++ es)) q
script_stays ds es scoped firm q t without k s h =
    let a = declared-append ds es in
    subst (λ z. Holds z q) (sym a)
    (goal_stays_on (declared ds) (declared es) (subst IsTypedScope a scoped) (subst (EachDeclared IsFirm) a firm) q t without
    (subst (ScopeSpeaks NoName) a k) s h)
