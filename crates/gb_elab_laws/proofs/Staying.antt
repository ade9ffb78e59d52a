-- Typed goals go on to hold as the scope of a script grows.
use Rattle.std.proofs.Common.{◌≡◌, ℕ, inl, Bool, true, false, ◌||◌, if◌then◌else◌, List, [], ◌∷◌, ◌++◌, Some, bytes_eq, refl, ap, sym, ◌∙◌, subst}
use Rattle.std.proofs.lemmas.Bool.{false≢true}
use Rattle.std.proofs.lemmas.List.{append_assoc, append-nil}
use Rattle.std.proofs.lemmas.Slice.Eq.{bytes_eq-Decides}
use Rattle.gb_terms.specs.declared.module.ProcRef.{ProcRef}
use Rattle.gb_terms.specs.declared.op.Op.TheVariants as op
use Rattle.gb_terms.specs.declared.term.Term.{Term, Term', end_of-Head, more_of-Head}
use Rattle.gb_terms.specs.declared.term.Head.TheVariants as head
use Rattle.gb_goal.specs.declared.sequent.Hyp.{Hyp}
use Rattle.gb_goal.specs.declared.sequent.Sequent.{Sequent}
use Rattle.gb_meaning.specs.Names.{Name}
use Rattle.gb_meaning.specs.Setting.{Setting}
use Rattle.gb_meaning.specs.Values.{World}
use Rattle.gb_meaning.specs.Declared.{Declarations, Declaration, abstract_type, abbreviation, operator, abstract_operator, module_type, concrete_module, abstract_module, axiom_of, lemma, terminating}
use Rattle.gb_meaning.specs.Holds.{EachProgram, IsModel, interpretation, declared_modules, EachDeclared, Holds}
use Rattle.gb_meaning.specs.Naming.{AnyName, IsFresh}
use Rattle.gb_meaning.specs.Settings.{Table, Interpretation, setting}
use Rattle.gb_meaning.specs.Truth.{Choice, has_module, last_has_module}
use Rattle.gb_typing.specs.Added.{IsSequentApartIn}
use Rattle.gb_typing.specs.Formed.{AreFormedBinds, AreAxiomsApart, IsSaidApart, IsApartFormula, AreHypsApart, SaysApart, IsSequentApart, IsScopeApart}
use Rattle.gb_typing.specs.Naming.{NoName, IsKept, NamesIfThere, TermNames, AreModulesOrStatements, OperatorNames, OperatorsName}
use Rattle.gb_typing.proofs.KeptNames.{each-name}
use Rattle.gb_typing.proofs.Known.{fresh_later}
use Rattle.gb_typing.proofs.ModulesAdded.{goes-with}
use Rattle.gb_typing.proofs.SequentsAlike.{holds-along}
use Rattle.gb_typing.specs.Context.{Context}
use Rattle.gb_typing.specs.Fits.{IsSettingOf}
use Rattle.gb_typing.specs.Formulas.{IsKnown}
use Rattle.gb_typing.specs.Sequents.{AreHypotheses, with_modules, of_sequent, IsConclusion, IsTypedSequent}
use Rattle.gb_typing.specs.Scopes.{nothing, interface_with, procedure_types, with_declared, with_each, context_of, is_declared, IsDeclared, AreTypedAfter, IsTypedScope}
use Rattle.gb_typing.specs.Modules.{Interface, functor_type, of_functor_type}
use Rattle.gb_typing.specs.Typing.{IsForm}
use Rattle.gb_typing.proofs.Conclusions.{formula_form, conclusion_sound}
use Rattle.gb_typing.proofs.Models.{each_setting}
use Rattle.gb_typing.proofs.Sound.{procedures_sound, sound_form}
use Rattle.gb_typing.proofs.TypedGoals.{no_module}
use Rattle.gb_arguments.specs.Firm.{IsFirm}
use Rattle.gb_elab_laws.specs.Speaking.{ScopeSpeaks, BodiesSpeak, HypsSpeak, GoalSpeaks, IsWithoutModules, IsModuleOrLemma}
use Rattle.gb_elab_laws.proofs.LinkedNames.{procedures_in, variables_apart, measured_apart}
use Rattle.gb_elab_laws.proofs.MoreNames.{more_term, more_scope, more_goal}
use Rattle.gb_elab_laws.proofs.NamedForms.{reference_known, Procedures, form_names, conclusion_names}

-- Declarations, one after another.

pub split : (xs ys before : Declarations) (c : Context) → AreTypedAfter c before (xs ++ ys) → AreTypedAfter c before xs × AreTypedAfter (with_each c xs) (before ++ xs) ys
split [] ys before c w = (tt, subst (λ z. AreTypedAfter c z ys) (sym (append-nil before)) w)
split (x ∷ xs) ys before c w =
    let r = split xs ys (before ++ x ∷ []) (with_declared c x.0 x.1) w.2 in
    ((w.0, w.1, r.0), subst (λ z. AreTypedAfter (with_each c (x ∷ xs)) z ys) (append_assoc before (x ∷ []) xs) r.1)

-- a name that is declared is no name of a declaration behind

either_true : (a b : Bool) → (a || b) ≡ true → a ≡ false → b ≡ true
either_true true b e f = absurd (false≢true (sym f))
either_true false b e f = e

pub or_first : (a b : Bool) → a ≡ true → (a || b) ≡ true
or_first true b e = refl
or_first false b e = absurd (false≢true e)

pub declared_more : (before es : Declarations) (k : Name) → is_declared before k ≡ true → is_declared (before ++ es) k ≡ true
declared_more [] es k e = absurd (false≢true e)
declared_more (d ∷ ds) es k e = step (declared_more ds es k) (bytes_eq k d.0) e
  where
    step : (is_declared ds k ≡ true → is_declared (ds ++ es) k ≡ true) → (b : Bool) → (b || is_declared ds k) ≡ true → (b || is_declared (ds ++ es) k) ≡ true
    step rest true e = refl
    step rest false e = rest e

pub declared_last : (before : Declarations) (n : Name) (d : _) (k : Name) → bytes_eq k n ≡ true → is_declared (before ++ (n, d) ∷ []) k ≡ true
declared_last [] n d k e = or_first (bytes_eq k n) false e
declared_last (x ∷ xs) n d k e = step (bytes_eq k x.0) (declared_last xs n d k e)
  where
    step : (b : Bool) → is_declared (xs ++ (n, d) ∷ []) k ≡ true → (b || is_declared (xs ++ (n, d) ∷ []) k) ≡ true
    step true e = refl
    step false e = e

pub other_name : (before : Declarations) (k n : Name) → is_declared before k ≡ true → is_declared before n ≡ false → bytes_eq k n ≡ false
other_name before k n e f = step (bytes_eq k n) refl
  where
    step : (b : Bool) → bytes_eq k n ≡ b → b ≡ false
    step false q = refl
    step true q = absurd (false≢true (sym f ∙ sym (ap (is_declared before) ((bytes_eq-Decides k n).0 q)) ∙ e))

-- a scope knows no module but those that are declared

abbrev pub AllDeclared : Declarations → Context → Type 0
AllDeclared before c = (n : Name) → IsKnown (c.modules.interfaces n) → is_declared before n ≡ true

kept_declared : (before : Declarations) (n : Name) (d : Declaration) (c e : Context) → c.modules.interfaces ≡ e.modules.interfaces → AllDeclared before c → AllDeclared (before ++ (n, d) ∷ []) e
kept_declared before n d c e same k j h = declared_more before ((n, d) ∷ []) j (k j (subst (λ z. IsKnown (z j)) (sym same) h))

named_declared : (before : Declarations) (n : Name) (d : Declaration) (c : Context) → AllDeclared before c → (m : Name) → m ≡ n → (i : Interface) (j : Name) →
    IsKnown (if bytes_eq j m then Some i else c.modules.interfaces j) → is_declared (before ++ (n, d) ∷ []) j ≡ true
named_declared before n d c k m same i j h = step (bytes_eq j m) refl h
  where
    step : (b : Bool) → bytes_eq j m ≡ b → IsKnown (if b then Some i else c.modules.interfaces j) → is_declared (before ++ (n, d) ∷ []) j ≡ true
    step true e h = declared_last before n d j (subst (λ z. bytes_eq j z ≡ true) same e)
    step false e h = declared_more before ((n, d) ∷ []) j (k j h)

pub one_declared : (before : Declarations) (n : Name) (d : Declaration) (c : Context) → IsDeclared c n d → AllDeclared before c → AllDeclared (before ++ (n, d) ∷ []) (with_declared c n d)
one_declared before n (concrete_module m) c w k = λ j h. named_declared before n (concrete_module m) c k n refl (interface_with c.modules.types m.params (procedure_types m.procs)) j h
one_declared before n (abstract_module b) c w k = λ j h.
    named_declared before n (abstract_module b) c k b.name w.0 (of_functor_type (functor_type c.modules.types (c.modules.types b.ty))) j h
one_declared before n abstract_type c w k = kept_declared before n abstract_type c c refl k
one_declared before n (abbreviation stood) c w k = kept_declared before n (abbreviation stood) c c refl k
one_declared before n (operator o) c w k = kept_declared before n (operator o) c (with_declared c n (operator o)) refl k
one_declared before n (abstract_operator o) c w k = kept_declared before n (abstract_operator o) c (with_declared c n (abstract_operator o)) refl k
one_declared before n (module_type t) c w k = kept_declared before n (module_type t) c (with_declared c n (module_type t)) refl k
one_declared before n (axiom_of q) c w k = kept_declared before n (axiom_of q) c c refl k
one_declared before n (lemma q) c w k = kept_declared before n (lemma q) c c refl k
one_declared before n (terminating f) c w k = kept_declared before n (terminating f) c c refl k

known_declared : (ds before : Declarations) (c : Context) → AreTypedAfter c before ds → AllDeclared before c → AllDeclared (before ++ ds) (with_each c ds)
known_declared [] before c w k n i = subst (λ z. is_declared z n ≡ true) (sym (append-nil before)) (k n i)
known_declared (d ∷ ds) before c w k n i =
    subst (λ z. is_declared z n ≡ true) (append_assoc before (d ∷ []) ds)
    (known_declared ds (before ++ d ∷ []) (with_declared c d.0 d.1) w.2 (one_declared before d.0 d.1 c w.1 k) n i)

-- scopes without axioms and open sections

pub no_section_in : (ds : Declarations) → EachDeclared IsFirm ds → declared_modules ds ≡ []
no_section_in [] y = refl
no_section_in ((n, abstract_module b) ∷ ds) y = absurd y.0
no_section_in ((n, abstract_type) ∷ ds) y = no_section_in ds y.1
no_section_in ((n, abbreviation stood) ∷ ds) y = no_section_in ds y.1
no_section_in ((n, operator o) ∷ ds) y = no_section_in ds y.1
no_section_in ((n, abstract_operator o) ∷ ds) y = no_section_in ds y.1
no_section_in ((n, module_type t) ∷ ds) y = no_section_in ds y.1
no_section_in ((n, concrete_module m) ∷ ds) y = no_section_in ds y.1
no_section_in ((n, axiom_of q) ∷ ds) y = absurd y.0
no_section_in ((n, lemma q) ∷ ds) y = no_section_in ds y.1
no_section_in ((n, terminating f) ∷ ds) y = no_section_in ds y.1

no_axioms : (es all ds : Declarations) (i : Interpretation) → EachDeclared IsFirm ds → AreAxiomsApart es all ds i
no_axioms es all [] i y = tt
no_axioms es all ((n, abstract_module b) ∷ ds) i y = absurd y.0
no_axioms es all ((n, abstract_type) ∷ ds) i y = no_axioms es all ds i y.1
no_axioms es all ((n, abbreviation stood) ∷ ds) i y = no_axioms es all ds i y.1
no_axioms es all ((n, operator o) ∷ ds) i y = no_axioms es all ds i y.1
no_axioms es all ((n, abstract_operator o) ∷ ds) i y = no_axioms es all ds i y.1
no_axioms es all ((n, module_type t) ∷ ds) i y = no_axioms es all ds i y.1
no_axioms es all ((n, concrete_module m) ∷ ds) i y = no_axioms es all ds i y.1
no_axioms es all ((n, axiom_of q) ∷ ds) i y = absurd y.0
no_axioms es all ((n, lemma q) ∷ ds) i y = no_axioms es all ds i y.1
no_axioms es all ((n, terminating f) ∷ ds) i y = no_axioms es all ds i y.1

module _ (P : Name → Type 0) where
  one_operator : (c : Context) (n : Name) (d : Declaration) → IsDeclared c n d → OperatorNames P AnyName d
  one_operator c n (operator o) w = more_term NoName P (λ n f. absurd f) o.body w.apart
  one_operator c n (abstract_operator o) w = (variables_apart P o.params w.0, measured_apart P o.result w.1)
  one_operator c n _ w = tt

  operators_apart : (ds before : Declarations) (c : Context) → AreTypedAfter c before ds → OperatorsName P AnyName ds
  operators_apart [] before c w = tt
  operators_apart (d ∷ ds) before c w = (one_operator c d.0 d.1 w.1, operators_apart ds _ _ w.2)

modules_or_statements : (es : Declarations) → EachDeclared IsModuleOrLemma es → AreModulesOrStatements es
modules_or_statements [] y = tt
modules_or_statements ((n, concrete_module m) ∷ es) y = (tt, modules_or_statements es y.1)
modules_or_statements ((n, module_type t) ∷ es) y = (tt, modules_or_statements es y.1)
modules_or_statements ((n, lemma q) ∷ es) y = (tt, modules_or_statements es y.1)
modules_or_statements ((n, abstract_type) ∷ es) y = absurd y.0
modules_or_statements ((n, abbreviation stood) ∷ es) y = absurd y.0
modules_or_statements ((n, operator o) ∷ es) y = absurd y.0
modules_or_statements ((n, abstract_operator o) ∷ es) y = absurd y.0
modules_or_statements ((n, abstract_module b) ∷ es) y = absurd y.0
modules_or_statements ((n, axiom_of q) ∷ es) y = absurd y.0
modules_or_statements ((n, terminating f) ∷ es) y = absurd y.0

-- Without quantifiers over modules a formula is apart where it is said apart.

second : (b : Bool) (A B : Type 0) → b ≡ false → B → Choice b A B
second true A B e w = absurd (false≢true (sym e))
second false A B e w = w

said : (es ds : Declarations) (f : Term) (i : Interpretation) → has_module f ≡ false → IsSaidApart es ds f i → IsApartFormula es ds f i
said es ds (Term' p (more_of-Head (head.AllModule b) end_of-Head) n ts ty) i e k = absurd (false≢true (sym e))
said es ds (Term' p (more_of-Head (head.All u) end_of-Head) n ts ty) i e k = second (last_has_module ts) _ _ e k
said es ds (Term' p (more_of-Head head.AllMemory end_of-Head) n ts ty) i e k = second (last_has_module ts) _ _ e k
said es ds (Term' p (more_of-Head (head.Builtin op.Implies) end_of-Head) n ts ty) i e k = second (last_has_module ts) _ _ e k
said es ds f i e k = k

pub scope_apart : (es ds : Declarations) → IsTypedScope ds → EachDeclared IsFirm ds → IsScopeApart es ds
scope_apart es ds typed firm = record {
  operators = operators_apart (IsFresh es) ds [] nothing typed;
  binders = subst (AreFormedBinds es ds []) (sym (no_section_in ds firm)) tt;
  axioms = λ w size table h. no_axioms es ds ds (interpretation w size table) firm;
}

module _ (ds es : Declarations) (typed : IsTypedScope ds) (later : AreTypedAfter (context_of ds) ds es) (firm : EachDeclared IsFirm ds)
    (q : Sequent) (t : IsTypedSequent (context_of ds) q) (without : IsWithoutModules q) (spoken : ScopeSpeaks (IsKept es []) ds) (says : GoalSpeaks (IsKept es []) q) where
  abbrev Kept : Name → Type 0
  Kept = IsKept es []

  abbrev c : Context
  c = of_sequent (context_of ds) q t.frames

  kept : (n : Name) → IsKnown (c.modules.interfaces n) → Kept n
  kept n k =
      inl (fresh_later es ds (context_of ds) later n
      (known_declared ds [] nothing typed (λ m x. absurd x) n (subst (λ bs. IsKnown ((with_modules (context_of ds) bs).modules.interfaces n)) without.modules k)))

  module _ (w : World) (size : Name → ℕ) (table : Table) (model : IsModel ds (interpretation w size table)) where
    abbrev i : Interpretation
    i = interpretation w size table

    abbrev g : Setting
    g = setting ds i

    fits : IsSettingOf c g
    fits =
        subst (λ bs. EachProgram ds bs i (λ k. IsSettingOf c (setting ds k))) without.modules
        (subst (λ bs. EachProgram ds bs i (λ k. EachProgram ds q.modules k (λ z. IsSettingOf c (setting ds z)))) (no_section_in ds firm)
        (each_setting ds typed q t.modules t.frames w size table model))

    linked : (r : ProcRef) → NamesIfThere Kept AnyName (g.procedure r)
    linked = procedures_in Kept ds typed spoken w size table

    named : Procedures Kept g c
    named r k = (each-name (λ n. IsKnown (c.modules.interfaces n)) Kept kept r.«module» (reference_known c r k), linked r)

    form_apart : (f : Term) → IsForm c f → TermNames Kept AnyName f → IsApartFormula es ds f i
    form_apart f x k = said es ds f i (no_module c f x.typed) (form_names Kept g c named f x.typed k, sound_form g c (procedures_sound c g fits) f x.typed)

    hyps_apart : (hs : List Hyp) → AreHypotheses c hs → HypsSpeak Kept hs → AreHypsApart es ds hs i
    hyps_apart [] x k = tt
    hyps_apart (h ∷ hs) x k = (form_apart h.form x.0 k.0, hyps_apart hs x.1 k.1)

    conclusion_apart : (f : Term) → has_module f ≡ false → IsConclusion c f → TermNames Kept AnyName f → BodiesSpeak Kept f → IsApartFormula es ds f i
    conclusion_apart f e x k b = said es ds f i e (conclusion_names Kept g linked c named f x (λ y. formula_form c f y e) k b, conclusion_sound c g fits f x e)

    said_apart : SaysApart es ds q i
    said_apart = (
      says.logical,
      hyps_apart q.hyps t.hyps says.hyps,
      conclusion_apart q.conclusion without.conclusion t.conclusion says.conclusion says.bodies,
    )

    sequent_apart : IsSequentApart es ds q i
    sequent_apart = record {
      binders = subst (AreFormedBinds es ds []) (sym without.modules) tt;
      says = subst (λ bs. EachProgram ds bs i (SaysApart es ds q)) (sym without.modules) said_apart;
    }

  pub apart : IsSequentApartIn q es ds
  apart w size table model =
      subst (λ bs. EachProgram ds bs (interpretation w size table) (IsSequentApart es ds q)) (sym (no_section_in ds firm)) (sequent_apart w size table model)

  stays : EachDeclared IsModuleOrLemma es → Holds ds q → Holds (ds ++ es) q
  stays added h = holds-along es ds (goes-with ds es (modules_or_statements es added) (scope_apart es ds typed firm)) q apart h

pub goal_stays : (ds es : Declarations) → IsTypedScope (ds ++ es) → EachDeclared IsFirm ds → EachDeclared IsModuleOrLemma es → (q : Sequent) → IsTypedSequent (context_of ds) q →
    IsWithoutModules q → ScopeSpeaks (IsFresh es) ds → GoalSpeaks (IsFresh es) q → Holds ds q → Holds (ds ++ es) q
goal_stays ds es scoped firm added q t without k s h =
    let w = split ds es [] nothing scoped in
    stays ds es w.0 w.1 firm q t without (more_scope (IsFresh es) (IsKept es []) (λ n f. inl f) ds k) (more_goal (IsFresh es) (IsKept es []) (λ n f. inl f) q s) added h
