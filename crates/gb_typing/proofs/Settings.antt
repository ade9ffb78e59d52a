-- The setting of a typed scope fits the scope's context, where its operators and what is chosen for its abstract modules do.
use Rattle.std.proofs.Common.{◌≡◌, Bool, true, false, ◌||◌, List, [], ◌∷◌, ◌++◌, Option, Some, None, if◌then◌else◌, bytes_eq, refl, ap, sym, ◌∙◌, subst}
use Rattle.std.proofs.lemmas.Bool.{false≢true}
use Rattle.std.proofs.lemmas.List.{append_assoc}
use Rattle.std.proofs.lemmas.Slice.Eq.{bytes_eq-Decides}
use Rattle.gb_terms.specs.declared.decl.Param.{Param}
use Rattle.gb_terms.specs.declared.module.Bind.{Bind}
use Rattle.gb_terms.specs.declared.module.ProcRef.{ProcRef}
use Rattle.gb_meaning.specs.Names.{Name}
use Rattle.gb_meaning.specs.Program.{Routine}
use Rattle.gb_meaning.specs.Setting.{Setting}
use Rattle.gb_meaning.specs.Declared.{Declarations, Declaration, ModuleType, module_type_in, module_type_of, abstract_type, abbreviation, operator, abstract_operator, module_type, concrete_module, abstract_module, axiom_of, lemma, terminating}
use Rattle.gb_meaning.specs.Adversary.{or_none, type_named, with_oracles}
use Rattle.gb_meaning.specs.Modules.{no_module, modules_of}
use Rattle.gb_meaning.specs.Modules as linked
use Rattle.gb_meaning.specs.Linking.{linked_procedure}
use Rattle.gb_meaning.specs.Settings.{Chosen, Interpretation, types_of, bare, with_operators, with_abstract_programs, linked_modules, setting}
use Rattle.gb_meaning.specs.Holds.{declared_modules}
use Rattle.gb_meaning.specs.Programs.{AreOnce, IsProgramFor, AreNamed}
use Rattle.gb_goal.specs.declared.sequent.Sequent.{Sequent}
use Rattle.gb_terms.specs.declared.decl.TypedName.{TypedName}
use Rattle.gb_laws.specs.Context as typed
use Rattle.gb_typing.specs.Alike.{SameParams}
use Rattle.gb_typing.specs.Modules.{ProcedureType, Interface, Modules, signatures_of, functor_type, of_functor_type}
use Rattle.gb_typing.specs.Context.{Context, procedure, erased}
use Rattle.gb_typing.specs.Fits.{IsOfType, IsSettingOf}
use Rattle.gb_typing.specs.Formulas.{IsKnown, with_module}
use Rattle.gb_typing.specs.Sequents.{with_modules, AreBinders, of_sequent}
use Rattle.gb_typing.specs.Scopes.{nothing, with_param, AreParams, with_type, with_declared, with_each, is_declared, AreTypedAfter, IsTypedScope}
use Rattle.gb_typing.specs.Chosen.{chosen_under, IsChosenIf, AreChosen, AreUnchosen, FitAt}
use Rattle.gb_typing.proofs.Once.{footprints_once}
use Rattle.gb_typing.proofs.Provided.{like, IsApplied, procedure_stands}
use Rattle.gb_typing.proofs.ReadModules.{Exact}
use Rattle.gb_typing.proofs.Declared.{is_there, ProgramsAt, Stand, Keeps, named_stands, scope_stands}
use Rattle.gb_typing.proofs.Programs.{program_applied}

abbrev has_one : Option ModuleType → Bool
has_one None = false
has_one (Some t) = true

abbrev pub type_or : ModuleType → Option ModuleType → ModuleType
type_or t None = t
type_or t (Some u) = u

abbrev pub chosen_or : Chosen → Option Chosen → Chosen
chosen_or c None = c
chosen_or c (Some y) = y

-- Module types.

-- a name that isn't declared before is declared here
first_type : (before : Declarations) (n : Name) (d : Declaration) (ds : Declarations) → is_declared before n ≡ false → module_type_of (before ++ (n, d) ∷ ds) n ≡ module_type_in d
first_type [] n d ds e = ap (λ b. if b then module_type_in d else module_type_of ds n) ((bytes_eq-Decides n n).1 refl)
first_type (x ∷ xs) n d ds e = step (bytes_eq n x.0) (first_type xs n d ds) e
  where
    step : (b : Bool) → (is_declared xs n ≡ false → module_type_of (xs ++ (n, d) ∷ ds) n ≡ module_type_in d) → (b || is_declared xs n) ≡ false →
        (if b then module_type_in x.1 else module_type_of (xs ++ (n, d) ∷ ds) n) ≡ module_type_in d
    step true later e = absurd (false≢true (sym e))
    step false later e = later e

abbrev pub AreKnown : (Name → Option ModuleType) → List Param → Type 0
AreKnown types [] = Unit {0}
AreKnown types (p ∷ ps) = IsKnown (types p.ty) × AreKnown types ps

-- the module types of a context are those that are declared, and so are those of their parameters
pub record Agree (all : Declarations) (types : Name → Option ModuleType) : Type 0 where
  pub declared : (n : Name) (t : ModuleType) → types n ≡ Some t → module_type_of all n ≡ Some t
  pub params : (n : Name) (t : ModuleType) → types n ≡ Some t → AreKnown types t.params

known_more : (ms : Modules) (n : Name) (t : ModuleType) (ps : List Param) → AreKnown ms.types ps → AreKnown (with_type ms n t).types ps
known_more ms n t [] k = tt
known_more ms n t (p ∷ ps) k = (step (bytes_eq p.ty n) k.0, known_more ms n t ps k.1)
  where
    step : (b : Bool) → IsKnown (ms.types p.ty) → IsKnown (if b then Some t else ms.types p.ty)
    step true k = tt
    step false k = k

pub are_known : (ms : Modules) (ps : List Param) → AreParams ms ps → AreKnown ms.types ps
are_known ms [] w = tt
are_known ms (p ∷ ps) w = (w.0.0, are_known (with_param ms p) ps w.1)

agree_more : (all : Declarations) (ms : Modules) → Agree all ms.types → (n : Name) (t : ModuleType) → AreParams ms t.params → module_type_of all n ≡ Some t → Agree all (with_type ms n t).types
agree_more all ms a n t w e = record { declared = λ k u. one k u (bytes_eq k n) refl; params = λ k u h. known_more ms n t u.params (other k u (bytes_eq k n) h) }
  where
    one : (k : Name) (u : ModuleType) (b : Bool) → bytes_eq k n ≡ b → (if b then Some t else ms.types k) ≡ Some u → module_type_of all k ≡ Some u
    one k u true h x = ap (module_type_of all) ((bytes_eq-Decides k n).0 h) ∙ e ∙ x
    one k u false h x = a.declared k u x

    other : (k : Name) (u : ModuleType) (b : Bool) → (if b then Some t else ms.types k) ≡ Some u → AreKnown ms.types u.params
    other k u true x = subst (λ z. AreKnown ms.types z.params) (ap (type_or t) x) (are_known ms t.params w)
    other k u false x = a.params k u x

-- Chosen programs.

module _ (ds : Declarations) where
  pub chosen_program : (cs : List Chosen) (ms : linked.Modules Routine) (n : Name) (x : Chosen) → chosen_under cs n ≡ Some x → with_abstract_programs ds cs ms n ≡ with_oracles (type_named ds x.bind.ty) x.program
  chosen_program [] ms n x e = absurd (false≢true (ap is_there e))
  chosen_program (c ∷ cs) ms n x e = step (bytes_eq n c.bind.name) (chosen_program cs ms n x) e
    where
      step : (b : Bool) → (chosen_under cs n ≡ Some x → with_abstract_programs ds cs ms n ≡ with_oracles (type_named ds x.bind.ty) x.program) → (if b then Some c else chosen_under cs n) ≡ Some x →
          (if b then with_oracles (type_named ds c.bind.ty) c.program else with_abstract_programs ds cs ms n) ≡ with_oracles (type_named ds x.bind.ty) x.program
      step true later e = ap (λ y. with_oracles (type_named ds y.bind.ty) y.program) (ap (chosen_or c) e)
      step false later e = later e

  pub unchosen_module : (cs : List Chosen) (ms : linked.Modules Routine) (n : Name) → chosen_under cs n ≡ None → with_abstract_programs ds cs ms n ≡ ms n
  unchosen_module [] ms n e = refl
  unchosen_module (c ∷ cs) ms n e = step (bytes_eq n c.bind.name) (unchosen_module cs ms n) e
    where
      step : (b : Bool) → (chosen_under cs n ≡ None → with_abstract_programs ds cs ms n ≡ ms n) → (if b then Some c else chosen_under cs n) ≡ None →
          (if b then with_oracles (type_named ds c.bind.ty) c.program else with_abstract_programs ds cs ms n) ≡ ms n
      step true later e = absurd (false≢true (sym (ap is_there e)))
      step false later e = later e

module _ (all : Declarations) (i : Interpretation) where
  abbrev g : Setting
  g = setting all i

  abbrev h : Setting
  h = with_operators i.table (bare (types_of all i) i.table) all

  abbrev base : linked.Modules Routine
  base = with_abstract_programs all i.programs (λ k. no_module)

  pub same_params : (types : Name → Option ModuleType) → Agree all types → (ps : List Param) → AreKnown types ps → SameParams all types ps
  same_params types a [] k = tt
  same_params types a (p ∷ ps) k = (step (types p.ty) refl k.0, same_params types a ps k.1)
    where
      step : (o : Option ModuleType) → types p.ty ≡ o → IsKnown o → signatures_of (types p.ty) ≡ (type_named all p.ty).signatures
      step None e k = absurd k
      step (Some t) e k = ap signatures_of e ∙ sym (ap (λ z. (or_none z).signatures) (a.declared p.ty t e))

  module _ (types : Name → Option ModuleType) (a : Agree all types) (b : Bind) where
    of_type : (t : ModuleType) → types b.ty ≡ Some t → (x : Chosen) → chosen_under i.programs b.name ≡ Some x → IsChosenIf all i.programs g i.world b (Some x) → (ms : linked.Modules Routine) →
        IsApplied g (Exact g) (of_functor_type (functor_type types (types b.ty))) (with_abstract_programs all i.programs ms b.name)
    of_type t e x c w ms =
        let same : type_named all b.ty ≡ t = ap or_none (a.declared b.ty t e) in
        subst (IsApplied g (Exact g) (of_functor_type (functor_type types (types b.ty))))
        (sym (chosen_program all i.programs ms b.name x c ∙ ap (λ z. with_oracles (type_named all z.ty) x.program) w.0 ∙ ap (λ z. with_oracles z x.program) same))
        (subst (λ o. IsApplied g (Exact g) (of_functor_type (functor_type types o)) (with_oracles t x.program)) (sym e)
        (program_applied g all types t (same_params types a t.params (a.params b.ty t e)) i.world x.program
        (subst (λ z. IsProgramFor all g i.world z x.program) same w.1.program) (subst (λ z. AreNamed x.program z.signatures) same w.1.named)))

    pub binder_applied : (ms : linked.Modules Routine) → IsKnown (types b.ty) → IsChosenIf all i.programs g i.world b (chosen_under i.programs b.name) →
        (x : Chosen) × (chosen_under i.programs b.name ≡ Some x) × IsApplied g (Exact g) (of_functor_type (functor_type types (types b.ty))) (with_abstract_programs all i.programs ms b.name)
    binder_applied ms k w = step (types b.ty) refl k (chosen_under i.programs b.name) refl w
      where
        step : (o : Option ModuleType) → types b.ty ≡ o → IsKnown o → (p : Option Chosen) → chosen_under i.programs b.name ≡ p → IsChosenIf all i.programs g i.world b p →
            (x : Chosen) × (chosen_under i.programs b.name ≡ Some x) × IsApplied g (Exact g) (of_functor_type (functor_type types (types b.ty))) (with_abstract_programs all i.programs ms b.name)
        step None e k p c w = absurd k
        step (Some t) e k None c w = absurd w
        step (Some t) e k (Some x) c w = (x, c, of_type t e x c w ms)

  abbrev pub next : (before : Declarations) (d : Name × Declaration) (ds : Declarations) → before ++ d ∷ ds ≡ all → (before ++ d ∷ []) ++ ds ≡ all
  next before d ds e = append_assoc before (d ∷ []) ds ∙ e

  pub with_next_type : (before : Declarations) (n : Name) (t : ModuleType) (ds : Declarations) → before ++ (n, module_type t) ∷ ds ≡ all → (c : Context) → Agree all c.modules.types →
      is_declared before n ≡ false → AreParams c.modules t.params → Agree all (with_type c.modules n t).types
  with_next_type before n t ds e c a f w = agree_more all c.modules a n t w (ap (λ z. module_type_of z n) (sym e) ∙ first_type before n (module_type t) ds f)

  pub agree_at : (ds before : Declarations) (c : Context) → before ++ ds ≡ all → AreTypedAfter c before ds → Agree all c.modules.types → Agree all (with_each c ds).modules.types
  agree_at [] before c e w a = a
  agree_at ((n, module_type t) ∷ ds) before c e w a =
      agree_at ds (before ++ (n, module_type t) ∷ []) (with_declared c n (module_type t)) (next before (n, module_type t) ds e) w.2 (let x = w.1 in with_next_type before n t ds e c a w.0 x.params)
  agree_at ((n, abstract_type) ∷ ds) before c e w a = agree_at ds _ _ (next before (n, abstract_type) ds e) w.2 a
  agree_at ((n, abbreviation stood) ∷ ds) before c e w a = agree_at ds _ _ (next before (n, abbreviation stood) ds e) w.2 a
  agree_at ((n, operator o) ∷ ds) before c e w a = agree_at ds _ _ (next before (n, operator o) ds e) w.2 a
  agree_at ((n, abstract_operator o) ∷ ds) before c e w a = agree_at ds _ _ (next before (n, abstract_operator o) ds e) w.2 a
  agree_at ((n, concrete_module m) ∷ ds) before c e w a = agree_at ds _ _ (next before (n, concrete_module m) ds e) w.2 a
  agree_at ((n, abstract_module b) ∷ ds) before c e w a = agree_at ds _ _ (next before (n, abstract_module b) ds e) w.2 a
  agree_at ((n, axiom_of q) ∷ ds) before c e w a = agree_at ds _ _ (next before (n, axiom_of q) ds e) w.2 a
  agree_at ((n, lemma q) ∷ ds) before c e w a = agree_at ds _ _ (next before (n, lemma q) ds e) w.2 a
  agree_at ((n, terminating f) ∷ ds) before c e w a = agree_at ds _ _ (next before (n, terminating f) ds e) w.2 a

  pub programs_at : (ds before : Declarations) (c : Context) → before ++ ds ≡ all → AreTypedAfter c before ds → Agree all c.modules.types → AreChosen all i (declared_modules ds) →
      ProgramsAt g h i.programs base c ds
  programs_at [] before c e w a k = tt
  programs_at ((n, module_type t) ∷ ds) before c e w a k =
      programs_at ds (before ++ (n, module_type t) ∷ []) (with_declared c n (module_type t)) (next before (n, module_type t) ds e) w.2 (let x = w.1 in with_next_type before n t ds e c a w.0 x.params) k
  programs_at ((n, abstract_module b) ∷ ds) before c e w a k =
      (binder_applied c.modules.types a b (λ k. no_module) (let x = w.1.1 in x.known) k.0, programs_at ds _ _ (next before (n, abstract_module b) ds e) w.2 a k.1)
  programs_at ((n, abstract_type) ∷ ds) before c e w a k = programs_at ds _ _ (next before (n, abstract_type) ds e) w.2 a k
  programs_at ((n, abbreviation stood) ∷ ds) before c e w a k = programs_at ds _ _ (next before (n, abbreviation stood) ds e) w.2 a k
  programs_at ((n, operator o) ∷ ds) before c e w a k = programs_at ds _ _ (next before (n, operator o) ds e) w.2 a k
  programs_at ((n, abstract_operator o) ∷ ds) before c e w a k = programs_at ds _ _ (next before (n, abstract_operator o) ds e) w.2 a k
  programs_at ((n, concrete_module m) ∷ ds) before c e w a k = programs_at ds _ _ (next before (n, concrete_module m) ds e) w.2 a k
  programs_at ((n, axiom_of q) ∷ ds) before c e w a k = programs_at ds _ _ (next before (n, axiom_of q) ds e) w.2 a k
  programs_at ((n, lemma q) ∷ ds) before c e w a k = programs_at ds _ _ (next before (n, lemma q) ds e) w.2 a k
  programs_at ((n, terminating f) ∷ ds) before c e w a k = programs_at ds _ _ (next before (n, terminating f) ds e) w.2 a k

  fit_end : (ds : Declarations) (c : Context) → FitAt g c ds → typed.IsSettingOf (erased (with_each c ds)) g
  fit_end [] c w = w
  fit_end (d ∷ ds) c w = fit_end ds (with_declared c d.0 d.1) w.1

  -- modules change no operators
  fit_binders : (bs : List Bind) (c : Context) → typed.IsSettingOf (erased c) g → typed.IsSettingOf (erased (with_modules c bs)) g
  fit_binders [] c w = w
  fit_binders (b ∷ bs) c w = fit_binders bs (with_module c b) (record { inhabited = w.inhabited; operators = w.operators; distributions = w.distributions })

  module _ (scope : IsTypedScope all) (fit : FitAt g nothing all) (free : AreUnchosen i.programs all) (chosen : AreChosen all i (declared_modules all)) where
    no_types : Agree all (nothing.modules).types
    no_types = record { declared = λ n t e. absurd (false≢true (ap has_one e)); params = λ n t e. absurd (false≢true (ap has_one e)) }

    abbrev env : linked.Modules Routine
    env = modules_of (linked_procedure h) base all

    abbrev modules : linked.Modules Routine
    modules = linked_modules all h i.programs

    stands : Stand g h i.programs base (with_each nothing all).modules env × Keeps g h i.programs base env
    stands = scope_stands g h i.programs base all [] nothing scope fit free (programs_at all [] nothing refl scope no_types chosen) base (λ n j e. absurd (false≢true (ap has_interface e))) (λ n x e. refl)
      where
        has_interface : Option Interface → Bool
        has_interface None = false
        has_interface (Some j) = true

    same_top : (n : Name) → modules n ≡ env n
    same_top n = step (chosen_under i.programs n) refl
      where
        step : (o : Option Chosen) → chosen_under i.programs n ≡ o → modules n ≡ env n
        step None e = unchosen_module all i.programs env n e
        step (Some x) e = chosen_program all i.programs env n x e ∙ sym (chosen_program all i.programs (λ k. no_module) n x e) ∙ sym (stands.1 n x e)

    pub top_stands : Stand g h i.programs base (with_each nothing all).modules modules
    top_stands n j e = subst (IsApplied g (Exact g) j) (sym (same_top n)) (stands.0 n j e)

    pub scope_agrees : Agree all (with_each nothing all).modules.types
    scope_agrees = agree_at all [] nothing refl scope no_types

    pub binders_stand : (bs : List Bind) (c : Context) → Agree all c.modules.types → Stand g h i.programs base c.modules modules → AreBinders c bs → AreChosen all i bs →
        Stand g h i.programs base (with_modules c bs).modules modules
    binders_stand [] c a s w k = s
    binders_stand (b ∷ bs) c a s w k =
        binders_stand bs (with_module c b) a
        (named_stands g h i.programs base c.modules modules s b.name (of_functor_type (functor_type c.modules.types (c.modules.types b.ty)))
        (let x = binder_applied c.modules.types a b env (let y = w.0 in y.known) k.0 in x.2)) w.1 k.1

    -- each procedure of a context whose modules stand is there, and of its type
    pub procedures_stand : (c : Context) → Stand g h i.programs base c.modules modules → (p : ProcRef) (t : ProcedureType) → procedure c p ≡ Some t →
        (r : Routine) × (g.procedure p ≡ Some r) × IsOfType g t r
    procedures_stand c s p t e = procedure_stands g (Exact g) (like g) c.modules modules s p t e

    pub scope_fits : AreOnce i.world → IsSettingOf (with_each nothing all) g
    scope_fits o = record { types = fit_end all nothing fit; once = footprints_once all i o; procedures = procedures_stand (with_each nothing all) top_stands }

    pub goal_fits : AreOnce i.world → (q : Sequent) → AreBinders (with_each nothing all) q.modules → AreChosen all i q.modules → (fs : List (List TypedName)) →
        IsSettingOf (of_sequent (with_each nothing all) q fs) g
    goal_fits o q w k fs = record {
      types = let x = fit_binders q.modules (with_each nothing all) (fit_end all nothing fit) in record { inhabited = x.inhabited; operators = x.operators; distributions = x.distributions };
      once = footprints_once all i o;
      procedures = procedures_stand (with_modules (with_each nothing all) q.modules) (binders_stand q.modules (with_each nothing all) scope_agrees top_stands w k);
    }
