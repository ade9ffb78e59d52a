-- When sequents hold, and sound scopes.
use Rattle.std.specs.Prelude.{◌≡◌, ℕ, ◌<◌, true, List, [], ◌∷◌, ◌++◌, map, get_or, Option, Some, None}
use Rattle.gb_core.specs.declared.ty.Ty.{Ty}
use Rattle.gb_core.specs.declared.ty.Ty.TheVariants as ty
use Rattle.gb_core.specs.declared.value.Value.{Value}
use Rattle.gb_core.specs.declared.value.Value.TheVariants.{Num}
use Rattle.gb_terms.specs.declared.decl.Module.{Module}
use Rattle.gb_terms.specs.declared.decl.Param.{Param}
use Rattle.gb_terms.specs.declared.decl.Proc.{Proc}
use Rattle.gb_terms.specs.declared.module.Bind.{Bind}
use Rattle.gb_goal.specs.Scope.{proc_of}
use Rattle.gb_goal.specs.declared.sequent.Hyp.{Hyp}
use Rattle.gb_goal.specs.declared.sequent.Sequent.{Sequent}
use Rattle.gb_meaning.specs.Names.{Name}
use Rattle.gb_meaning.specs.Values.{World, Types, has}
use Rattle.gb_meaning.specs.Memory.{Memory}
use Rattle.gb_meaning.specs.Program.{Program}
use Rattle.gb_meaning.specs.Program.Program.{done, assign, sample, branch, loop, call, ask}
use Rattle.gb_meaning.specs.Setting.{Setting, Meaning}
use Rattle.gb_meaning.specs.Setting.Meaning.{finite, whole, fraction}
use Rattle.gb_meaning.specs.State.{State, closed, no_memory}
use Rattle.gb_meaning.specs.Commands.{statements}
use Rattle.gb_meaning.specs.Loops.{IsGood}
use Rattle.gb_meaning.specs.Declared.{Declarations, Declaration, abstract_type, abbreviation, abstract_operator, module_type, concrete_module, abstract_module, axiom_of, lemma, terminating, module_named}
use Rattle.gb_meaning.specs.Typing.{IsVariableType}
use Rattle.gb_meaning.specs.Adversary.{Adversary, type_named}
use Rattle.gb_meaning.specs.Settings.{Table, Interpretation, interpreted, with_program, types_of, setting, declared_globals}
use Rattle.gb_meaning.specs.Programs.{AreOnce, AreIn, IsProgramFor}
use Rattle.gb_meaning.specs.Within.{IsWithin}
use Rattle.gb_meaning.specs.Truth.{Truth}

-- what is chosen for binders, one after another: any programs within them
abbrev pub EachProgram : Declarations → List Bind → Interpretation → (Interpretation → Type 0) → Type 0
EachProgram ds [] i P = P i
EachProgram ds (b ∷ bs) i P =
    (a : Adversary) → IsWithin ds (with_program i b a) b a → EachProgram ds bs (with_program i b a) P

-- one value for each type
abbrev pub AreValues : Types → List Ty → List Value → Type 0
AreValues ts [] [] = Unit {0}
AreValues ts (t ∷ rest) (v ∷ vs) = (has ts t v ≡ true) × AreValues ts rest vs
AreValues ts _ _ = ⊥

-- the state of a context, from values for its variables and from memories
abbrev pub context : List Value → List Memory → State
context vs ms = record closed { logical = λ i. finite (get_or vs i (Num 0)); named = λ i. get_or ms i no_memory }

-- all hypotheses are true
abbrev pub AreTrue : Declarations → List Hyp → Interpretation → State → Type 0
AreTrue ds [] i s = Unit {0}
AreTrue ds (h ∷ hs) i s = Truth ds h.form i s × AreTrue ds hs i s

-- A sequent is true in an interpretation: for all programs within the modules of its context, all values of its variables
-- and all memories, true hypotheses give a true conclusion.
abbrev pub IsTrueSequent : Declarations → Sequent → Interpretation → Type 0
IsTrueSequent ds q i = EachProgram ds q.modules i
    (λ k. (vs : List Value) → AreValues (types_of ds k) (map (λ x. x.ty) q.logical) vs → (ms : List Memory) →
    AreTrue ds q.hyps k (context vs ms) → Truth ds q.conclusion k (context vs ms))

-- the globals of a world have types of variables
abbrev pub HaveVariableTypes : Types → World → Type 0
HaveVariableTypes ts [] = Unit {0}
HaveVariableTypes ts (x ∷ xs) = IsVariableType ts x.ty × HaveVariableTypes ts xs

-- a result of this type: a value, a whole number or a fraction
abbrev pub IsResult : Types → Ty → Meaning → Type 0
IsResult ts t (finite v) = has ts t v ≡ true
IsResult ts ty.Int (whole n) = Unit {0}
IsResult ts ty.Real (fraction a) = 0 < a.1
IsResult ts t _ = ⊥

-- each abstract operator has a result of its type for all arguments of its types
abbrev pub GiveResults : Declarations → Types → Table → Type 0
GiveResults [] ts table = Unit {0}
GiveResults ((n, abstract_operator o) ∷ ds) ts table =
    ((vs : List Value) → AreValues ts o.params vs → IsResult ts o.result ((table n).result (map finite vs))) × GiveResults ds ts table
GiveResults (d ∷ ds) ts table = GiveResults ds ts table

-- each axiom is true
abbrev pub AxiomsAreTrue : Declarations → Declarations → Interpretation → Type 0
AxiomsAreTrue all [] i = Unit {0}
AxiomsAreTrue all ((n, axiom_of q) ∷ ds) i = IsTrueSequent all q i × AxiomsAreTrue all ds i
AxiomsAreTrue all (d ∷ ds) i = AxiomsAreTrue all ds i

-- A model of the declarations: a world of finite types that has the globals declared, each once, and may have more; sizes of
-- at least 1; functions of the types of the abstract operators; and all axioms are true.
pub record IsModel (ds : Declarations) (i : Interpretation) : Type 0 where
  pub sizes : (n : Name) → 0 < i.size n
  pub once : AreOnce i.world
  pub types : HaveVariableTypes (types_of ds i) i.world
  pub known : AreIn i.world (declared_globals ds)
  pub results : GiveResults ds (types_of ds i) i.table
  pub axioms : AxiomsAreTrue ds ds i

-- the modules that open sections declare
abbrev pub declared_modules : Declarations → List Bind
declared_modules [] = []
declared_modules ((n, abstract_module b) ∷ ds) = b ∷ declared_modules ds
declared_modules (d ∷ ds) = declared_modules ds

-- an interpretation without programs
abbrev pub interpretation : World → (Name → ℕ) → Table → Interpretation
interpretation w size table = interpreted w size table []

-- in each model, and for all programs within the modules that open sections declare
abbrev pub InEachModel : Declarations → (Interpretation → Type 0) → Type 0
InEachModel ds P = (w : World) (size : Name → ℕ) (table : Table) →
    IsModel ds (interpretation w size table) → EachProgram ds (declared_modules ds) (interpretation w size table) P

-- in the setting of each model, and for all programs within the modules of the sequent's context
abbrev pub InEachSetting : Declarations → Sequent → (Setting → Type 0) → Type 0
InEachSetting ds q P = InEachModel ds (λ i. EachProgram ds q.modules i (λ k. P (setting ds k)))

-- A sequent holds where it is true in each model.
abbrev pub Holds : Declarations → Sequent → Type 0
Holds ds q = InEachModel ds (IsTrueSequent ds q)

-- the binder of a module parameter, without restriction and without bounds
abbrev pub param_bind : Param → Bind
param_bind p = record { name = p.name; ty = p.ty; minus = []; bounds = [] }

-- what is chosen for the parameters of a module: any programs for their module types
abbrev pub EachArgument : Declarations → List Param → Interpretation → (Interpretation → Type 0) → Type 0
EachArgument ds [] i P = P i
EachArgument ds (p ∷ ps) i P =
    (a : Adversary) → IsProgramFor ds (setting ds (with_program i (param_bind p) a)) i.world (type_named ds p.ty) a →
    EachArgument ds ps (with_program i (param_bind p) a) P

-- each loop of the program itself is good
abbrev pub LoopsAreGood : Setting → Program → Type 0
LoopsAreGood g done = Unit {0}
LoopsAreGood g (assign xs e c) = LoopsAreGood g c
LoopsAreGood g (sample x d c) = LoopsAreGood g c
LoopsAreGood g (branch e a b c) = LoopsAreGood g a × LoopsAreGood g b × LoopsAreGood g c
LoopsAreGood g (loop e v a c) = IsGood g closed e v a × LoopsAreGood g a × LoopsAreGood g c
LoopsAreGood g (call xs r es c) = LoopsAreGood g c
LoopsAreGood g (ask xs o es c) = LoopsAreGood g c

-- each loop of a procedure is good, in a setting
abbrev pub ProcedureIsGood : Setting → Option Proc → Type 0
ProcedureIsGood g None = Unit {0}
ProcedureIsGood g (Some p) = LoopsAreGood g (statements g p.body.list)

-- the same of a procedure of a module, in each model and with any programs in place of its parameters
abbrev pub ProcedureOfIsGood : Declarations → Option Module → Name → Type 0
ProcedureOfIsGood ds None f = Unit {0}
ProcedureOfIsGood ds (Some m) f =
    InEachModel ds (λ i. EachArgument ds m.params i (λ k. ProcedureIsGood (setting ds k) (proc_of m.procs f)))

-- The loops of the procedure f of the module m are good.
abbrev pub IsTerminating : Declarations → Name → Name → Type 0
IsTerminating ds m f = ProcedureOfIsGood ds (module_named ds m) f

-- what a sound scope promises of a declaration after others: a lemma holds, and loops that are proved are good
abbrev pub IsSoundAfter : Declarations → Name → Declaration → Type 0
IsSoundAfter ds n (lemma q) = Holds ds q
IsSoundAfter ds n (terminating p) = IsTerminating ds p.module p.name
IsSoundAfter ds n _ = Unit {0}

-- what a sound scope promises of several declarations
abbrev pub AreSoundAfter : Declarations → Declarations → Type 0
AreSoundAfter before [] = Unit {0}
AreSoundAfter before (d ∷ ds) = IsSoundAfter before d.0 d.1 × AreSoundAfter (before ++ d ∷ []) ds

-- A scope is sound where each lemma in it holds, and the loops of each procedure whose loops are proved are good.
abbrev pub IsSound : Declarations → Type 0
IsSound ds = AreSoundAfter [] ds

-- A declaration of a type, an axiom, a lemma, or that loops are proved: it leaves what names mean as it is.
abbrev pub IsSilent : Declaration → Type 0
IsSilent abstract_type = Unit {0}
IsSilent (abbreviation stood) = Unit {0}
IsSilent (axiom_of q) = Unit {0}
IsSilent (lemma q) = Unit {0}
IsSilent (terminating p) = Unit {0}
IsSilent _ = ⊥

-- each declaration is in P
abbrev pub EachDeclared : (Declaration → Type 0) → Declarations → Type 0
EachDeclared P [] = Unit {0}
EachDeclared P (d ∷ ds) = P d.1 × EachDeclared P ds

-- all are such declarations
abbrev pub AreSilent : Declarations → Type 0
AreSilent ds = EachDeclared IsSilent ds

-- a declaration of no module, no module type and no abstract module
abbrev pub KeepsModules : Declaration → Type 0
KeepsModules (module_type t) = ⊥
KeepsModules (concrete_module m) = ⊥
KeepsModules (abstract_module b) = ⊥
KeepsModules _ = Unit {0}

-- all are such declarations
abbrev pub KeepModules : Declarations → Type 0
KeepModules ds = EachDeclared KeepsModules ds
