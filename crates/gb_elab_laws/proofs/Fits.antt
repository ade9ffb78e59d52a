-- The contexts of statements, programs and functions fit their environments.
use Rattle.std.proofs.Common.{◌≡◌, ℕ, zero, suc, ◌<◌, length, map, get_or, arith, Bool, true, false, ◌||◌, if◌then◌else◌, List, [], ◌∷◌, ◌++◌, Some, None, is_some, bytes_eq, refl, ap, sym, ◌∙◌, subst}
use Rattle.std.specs.List.{list_any}
use Rattle.std.proofs.lemmas.Bool.{false≢true}
use Rattle.gb_core.specs.declared.ty.Ty.{Ty}
use Rattle.gb_terms.specs.declared.decl.Module.{Module}
use Rattle.gb_terms.specs.declared.decl.TypedName.{TypedName}
use Rattle.gb_terms.specs.declared.module.Bind.{Bind}
use Rattle.gb_terms.specs.declared.module.ProcRef.{ProcRef}
use Rattle.gb_goal.specs.Binders.{binder_entries}
use Rattle.gb_goal.specs.Scope as scope
use Rattle.gb_goal.specs.Interfaces.{procedure_type}
use Rattle.gb_goal.specs.Scope.{abstract_of, as_abstract, entry_of, module_of}
use Rattle.gb_goal.specs.declared.scope.Entry.{Entry}
use Rattle.gb_goal.specs.declared.scope.Entry.TheVariants as entry
use Rattle.gb_goal.specs.declared.sequent.Sequent.{Sequent}
use Rattle.gb_meaning.specs.Names.{Name}
use Rattle.gb_meaning.specs.Written.{local_type}
use Rattle.gb_meaning.specs.Declared.{Declarations, declaration_of, declared}
use Rattle.gb_arguments.specs.Firm.{IsFirm}
use Rattle.gb_elab_laws.specs.Speaking.{IsFirmScope}
use Rattle.gb_typing.specs.Modules.{ProcedureType}
use Rattle.gb_laws.specs.Typing.{binder, IsMemory}
use Rattle.gb_laws.specs.Typing.Binder.{program as module_binder}
use Rattle.gb_typing.specs.Context.{Context, erased, frame_of, local_in, of_program, procedure}
use Rattle.gb_typing.specs.Typing.{IsFrame}
use Rattle.gb_terms.specs.declared.op.Side.TheVariants as side
use Rattle.gb_typing.specs.Programs.{HaveVariableTypes}
use Rattle.gb_typing.specs.Formulas.{with_module}
use Rattle.gb_typing.specs.Sequents.{one, of_sequent, two, with_modules, AreBinders, IsTypedSequent}
use Rattle.gb_typing.specs.Scopes.{context_of, IsTypedScope}
use Rattle.gb_typing.proofs.Agreed.{procedure_agrees}
use Rattle.gb_typing.proofs.DeclaredTypes.{goal_types}
use Rattle.gb_typing.proofs.Growing.{goal_keeps}
use Rattle.gb_typing.proofs.Lifted.{sequent_outermost}
use Rattle.gb_typing.proofs.Located.{known_there}
use Rattle.gb_typing.proofs.Together.{goal_together}
use Rattle.gb_names.specs.declared.bindings.Binding.{Binding}
use Rattle.gb_names.specs.Environment.{Environment, Memories, ambient, of_function, program, reading, relational, statement, unary}
use Rattle.gb_names.specs.Environment.Memories.{outside}
use Rattle.gb_elab_prog.specs.Contexts.{nothing_around}
use Rattle.gb_elab_laws.specs.Fitting.{AllFiniteIn, AreBound, AreDeclared, AreIn, HasGlobals, IsFiniteIn, IsTypeOf, MayStand, IsFitting, of_each_module, of_no_module}
use Rattle.gb_arguments.specs.Arguments.{names_of}
use Rattle.gb_elab_laws.proofs.Given.{none_some}
use Rattle.gb_elab_laws.proofs.Declared.{goal_declared}
use Rattle.gb_elab_laws.proofs.KnownProcedures.{module_stands, procedure_variable}
use Rattle.gb_elab_laws.proofs.Quantified.{variables_with}
use Rattle.gb_elab_laws.proofs.Shapes.{finite_each, without_globs}
use Rattle.gb_names.specs.Locals.{first_some, goal_read_type, read_type, reads_local}
use Rattle.gb_names.proofs.ReadTypes.{read_type_out}
use Rattle.gb_terms.specs.Make.{truth_literal}
use Rattle.gb_terms.specs.declared.term.Head.TheViews.{out-roll-Term}
use Rattle.gb_elab_laws.proofs.Recalled.{goal_stands}
use Rattle.gb_elab_laws.proofs.Found.{all_with, found as found_name}

-- a procedure that is known by declarations has its type in the context of a goal
known_in_goal : (ds : scope.Declarations) → IsTypedScope (declared ds) → (q : Sequent) → AreBinders (context_of (declared ds)) q.modules → (fs : List (List TypedName)) (r : ProcRef) (t : ProcedureType) →
    procedure_type ds None r ≡ Some t → IsTypeOf (procedure (of_sequent (context_of (declared ds)) q fs) r) t
known_in_goal ds w q b fs r t e =
    let c = of_sequent (context_of (declared ds)) q fs in
    let types = goal_types ds w q fs in
    let v = procedure_variable ds w None tt r t e in
    record {
      there = procedure_agrees ds None c.modules types (known_there ds w c (goal_keeps (context_of (declared ds)) q fs b) types) r t e;
      params = v.0;
      result = v.1;
    }

pub goal_procedure : (ds : scope.Declarations) → IsTypedScope (declared ds) → (q : Sequent) (t : IsTypedSequent (context_of (declared ds)) q) (r : ProcRef) (a : ProcedureType) →
    procedure_type ds None r ≡ Some a → IsTypeOf (procedure (of_sequent (context_of (declared ds)) q t.frames) r) a
goal_procedure ds w q t r a e = known_in_goal ds w q t.modules t.frames r a e

-- the globals of a declared module stand in the context of the scope
pub declared_globals : (ds : scope.Declarations) → IsTypedScope (declared ds) → (n : Name) (m : Module) → module_of ds n ≡ Some m → HasGlobals (context_of (declared ds)).global n m
declared_globals ds w n m e x v f =
    let s = module_stands ds w n m e in
    let k = found_name m.globals x v f in
    (s.globals v.name ∙ ap (local_type m.globals) k.name ∙ k.frame, without_globs v.ty (k.finite_with of_no_module (variables_with of_no_module m.globals s.types)))

-- abstract modules leave globals
globals_left : (c : Context) (bs : List Bind) → (with_modules c bs).global ≡ c.global
globals_left c [] = refl
globals_left c (b ∷ bs) = globals_left (with_module c b) bs

-- .. and in the context of a goal
goal_globals : (ds : scope.Declarations) → IsTypedScope (declared ds) → (q : Sequent) (fs : List (List TypedName)) (n : Name) (m : Module) → module_of ds n ≡ Some m →
    HasGlobals (of_sequent (context_of (declared ds)) q fs).global n m
goal_globals ds w q fs n m e = subst (λ f. HasGlobals f n m) (sym (globals_left (context_of (declared ds)) q.modules)) (declared_globals ds w n m e)

-- no abstract module is declared in a script
firm_entry : (e : Entry) → IsFirm (declaration_of e) → is_some (as_abstract (Some e)) ≡ true → ⊥
firm_entry (entry.AbstractModule b) w h = w
firm_entry _ w h = false≢true h

-- whether a module is one of those that are bound
abbrev pub is_bound : List Bind → Name → Bool
is_bound bs a = list_any (bytes_eq a) (names_of bs)

-- .. so behind a script those alone are that a lemma binds
pub bound_stand : (ds : scope.Declarations) (bs : List Bind) → IsFirmScope ds → MayStand (is_bound bs) (ds ++ binder_entries bs)
bound_stand [] [] w a h = h
bound_stand [] (b ∷ bs) w a h = step (bound_stand [] bs w a) (bytes_eq a b.name) h
  where
    step : (is_some (abstract_of (binder_entries bs) a) ≡ true → is_bound bs a ≡ true) → (t : Bool) →
        is_some (as_abstract (if t then Some (entry.AbstractModule b) else entry_of (binder_entries bs) a)) ≡ true → (t || is_bound bs a) ≡ true
    step rest true k = refl
    step rest false k = rest k
bound_stand (d ∷ ds) bs w a h = step (bound_stand ds bs w.1 a) (bytes_eq a d.0) h
  where
    step : (is_some (abstract_of (ds ++ binder_entries bs) a) ≡ true → is_bound bs a ≡ true) → (t : Bool) →
        is_some (as_abstract (if t then Some d.1 else entry_of (ds ++ binder_entries bs) a)) ≡ true → is_bound bs a ≡ true
    step rest true k = absurd (firm_entry d.1 w.0 k)
    step rest false k = rest k

-- no binder is around a goal
goal_bound : (ds : Declarations) (q : Sequent) (fs : List (List TypedName)) → (of_sequent (context_of ds) q fs).bound ≡ []
goal_bound ds q fs = ap (λ (c : Context). c.bound) (sequent_outermost ds q fs)

-- .. so no memory is bound around one
goal_frames : (ds : Declarations) (q : Sequent) (fs : List (List TypedName)) (i : ℕ) → IsMemory (binder (erased (of_sequent (context_of ds) q fs)) i) →
    IsFrame (frame_of (of_sequent (context_of ds) q fs) (side.Bound i))
goal_frames ds q fs i h = absurd (no_binder i (subst (λ bs. IsMemory (get_or bs i module_binder)) (goal_bound ds q fs) h))
  where
    no_binder : (i : ℕ) → IsMemory (get_or [] i module_binder) → ⊥
    no_binder zero k = k
    no_binder (suc i) k = k

-- each memory of a goal stands in its context
frames_stand : (fs : List (List TypedName)) (i : ℕ) → i < length fs → (i < length (map Some fs)) × IsFrame (get_or (map Some fs) i None)
frames_stand [] i h = absurd (omega (arith, h))
frames_stand (f ∷ fs) zero h = (omega arith, tt)
frames_stand (f ∷ fs) (suc i) h = let k = frames_stand fs i (omega (arith, h)) in let l : i < length (map Some fs) = k.0 in (omega (arith, l), k.1)

goal_memories : (ds : Declarations) (q : Sequent) (fs : List (List TypedName)) → length fs ≡ length q.memories → (i : ℕ) → i < length q.memories →
    (i < length (of_sequent (context_of ds) q fs).named) × IsFrame (frame_of (of_sequent (context_of ds) q fs) (side.Memory i))
goal_memories ds q fs many i h = frames_stand fs i (subst (λ n. i < n) (sym many) h)

-- what fits a form fits one that may read other named memories
pub reading_fits : {globs : Name → Bool} (m : Memories) (c : Context) (at : Environment) (vs : List Binding) → IsFitting globs c at vs → IsFitting globs c (reading m at) vs
reading_fits m c at vs fit = record {
  logical = fit.logical;
  values = fit.values;
  bound = fit.bound;
  variables = fit.variables;
  declared = fit.declared;
  around = fit.around;
  globals = fit.globals;
  outside = fit.outside;
  procedures = fit.procedures;
  memories = fit.memories;
  locals = fit.locals;
  frames = fit.frames;
  sides = fit.sides;
  together = fit.together;
  stand = fit.stand;
}

-- the context of a goal without modules, whose variables are of types of values, and in whose memories no local is read
pub context_fits : (globs : Name → Bool) (ds : scope.Declarations) (q : Sequent) (fs : List (List TypedName)) → length fs ≡ length q.memories → q.modules ≡ [] →
    ((i : ℕ) (x : Name) → goal_read_type (side.Memory i) x q ≡ None) → AllFiniteIn globs q.logical → MayStand globs ds → IsTypedScope (declared ds) →
    IsFitting globs (of_sequent (context_of (declared ds)) q fs) (ambient ds q) []
context_fits globs ds q fs many none unread h stand w = record {
  logical = λ i. refl;
  values = h;
  bound = subst (λ bs. AreBound globs bs []) (sym (goal_bound (declared ds) q fs)) tt;
  variables = tt;
  declared = goal_declared ds w q fs;
  around = tt;
  globals = λ e. goal_globals ds w q fs;
  outside = λ e. refl;
  procedures = λ e. known_in_goal ds w q (subst (AreBinders (context_of (declared ds))) (sym none) tt) fs;
  memories = λ e. goal_memories (declared ds) q fs many;
  locals = λ e i x t k. none_some t (sym (unread i x) ∙ k);
  frames = λ e. goal_frames (declared ds) q fs;
  sides = λ e. refl;
  together = λ e a. goal_together ds w a q fs;
  stand = λ e. stand;
}

-- a truth reads no local
pub nothing_read : (i : ℕ) (x : Name) → read_type (side.Memory i) x (truth_literal true) ≡ None
nothing_read i x = read_type_out (side.Memory i) x (truth_literal true) ∙ ap (λ z. if reads_local (side.Memory i) x z.head then Some z.ty else first_some (map (read_type (side.Memory i) x) z.args)) (out-roll-Term _)

pub statement_fits : (globs : Name → Bool) (ds : scope.Declarations) → MayStand globs ds → IsTypedScope (declared ds) →
    IsFitting globs (of_sequent (context_of (declared ds)) nothing_around []) (statement ds nothing_around) []
statement_fits globs ds stand w =
    reading_fits outside (of_sequent (context_of (declared ds)) nothing_around []) (ambient ds nothing_around) [] (context_fits globs ds nothing_around [] refl refl (λ i x. nothing_read i x) tt stand w)

pub program_fits : (c : Context) (ds : scope.Declarations) (m : Module) (ls : List TypedName) → AreDeclared c.operator ds →
    ((n : Name) (k : Module) → module_of ds n ≡ Some k → HasGlobals c.global n k) → HasGlobals c.global m.name m → HaveVariableTypes ls →
    IsFitting of_no_module (of_program c ls) (program ds m nothing_around ls) []
program_fits c ds m ls names others own h = record {
  logical = λ i. refl;
  values = tt;
  bound = tt;
  variables = (refl, record { memory = tt; there = λ x t e. e; finite = variables_with of_no_module ls h });
  declared = names;
  around = own;
  globals = λ e. others;
  outside = λ e. absurd (false≢true e);
  procedures = λ e. absurd (false≢true e);
  memories = λ e. absurd (false≢true e);
  locals = λ e. absurd (false≢true e);
  frames = λ e. absurd (false≢true e);
  sides = λ e. absurd (false≢true (sym e));
  together = λ e. absurd (false≢true e);
  stand = λ e. absurd (false≢true e);
}

-- what a goal reads of a memory is a local there, of a type of values
goal_locals : (ds : scope.Declarations) (q : Sequent) (t : IsTypedSequent (context_of (declared ds)) q) (i : ℕ) (x : Name) (u : Ty) → goal_read_type (side.Memory i) x q ≡ Some u →
    (local_in (frame_of (of_sequent (context_of (declared ds)) q t.frames) (side.Memory i)) x ≡ Some u) × IsFiniteIn of_each_module u
goal_locals ds q t i x u e = let s = goal_stands i x (context_of (declared ds)) q t u e in (s.0, finite_each u s.1)

pub function_fits : (ds : scope.Declarations) → IsTypedScope (declared ds) → (q : Sequent) (t : IsTypedSequent (context_of (declared ds)) q) (ls rs xs ys : List TypedName) → AreIn of_each_module (Some ls) xs → AreIn of_each_module (Some rs) ys →
    IsFitting of_each_module (two (of_sequent (context_of (declared ds)) q t.frames) ls rs) (of_function ds q xs ys) []
function_fits ds w q t ls rs xs ys h k = record {
  logical = λ i. refl;
  values = all_with q.logical t.logical;
  bound = subst (λ bs. AreBound of_each_module bs []) (sym (goal_bound (declared ds) q t.frames)) tt;
  variables = (refl, h, k);
  declared = goal_declared ds w q t.frames;
  around = tt;
  globals = λ e. goal_globals ds w q t.frames;
  outside = λ e. absurd (false≢true e);
  procedures = λ e. absurd (false≢true e);
  memories = λ e. goal_memories (declared ds) q t.frames t.memories;
  locals = λ e. goal_locals ds q t;
  frames = λ e. goal_frames (declared ds) q t.frames;
  sides = λ e. refl;
  together = λ e a. goal_together ds w a q t.frames;
  stand = λ e a k. refl;
}

-- forms of a proof step on one program, and on two, over some of the locals of the goal
pub one_fits : (ds : scope.Declarations) → IsTypedScope (declared ds) → (q : Sequent) (t : IsTypedSequent (context_of (declared ds)) q) (ls xs : List TypedName) → AreIn of_each_module (Some ls) xs →
    IsFitting of_each_module (one (of_sequent (context_of (declared ds)) q t.frames) ls) (unary ds q xs) []
one_fits ds w q t ls xs h = record {
  logical = λ i. refl;
  values = all_with q.logical t.logical;
  bound = subst (λ bs. AreBound of_each_module bs []) (sym (goal_bound (declared ds) q t.frames)) tt;
  variables = (refl, h);
  declared = goal_declared ds w q t.frames;
  around = tt;
  globals = λ e. goal_globals ds w q t.frames;
  outside = λ e. refl;
  procedures = λ e. goal_procedure ds w q t;
  memories = λ e. goal_memories (declared ds) q t.frames t.memories;
  locals = λ e. goal_locals ds q t;
  frames = λ e. goal_frames (declared ds) q t.frames;
  sides = λ e. refl;
  together = λ e a. goal_together ds w a q t.frames;
  stand = λ e a k. refl;
}

pub two_fit : (ds : scope.Declarations) → IsTypedScope (declared ds) → (q : Sequent) (t : IsTypedSequent (context_of (declared ds)) q) (ls rs xs ys : List TypedName) → AreIn of_each_module (Some ls) xs →
    AreIn of_each_module (Some rs) ys → IsFitting of_each_module (two (of_sequent (context_of (declared ds)) q t.frames) ls rs) (relational ds q xs ys) []
two_fit ds w q t ls rs xs ys h k = record {
  logical = λ i. refl;
  values = all_with q.logical t.logical;
  bound = subst (λ bs. AreBound of_each_module bs []) (sym (goal_bound (declared ds) q t.frames)) tt;
  variables = (refl, h, k);
  declared = goal_declared ds w q t.frames;
  around = tt;
  globals = λ e. goal_globals ds w q t.frames;
  outside = λ e. refl;
  procedures = λ e. goal_procedure ds w q t;
  memories = λ e. goal_memories (declared ds) q t.frames t.memories;
  locals = λ e. goal_locals ds q t;
  frames = λ e. goal_frames (declared ds) q t.frames;
  sides = λ e. refl;
  together = λ e a. goal_together ds w a q t.frames;
  stand = λ e a k. refl;
}

-- a goal of a typed scope, around which forms stand that steps bring
pub goal_fits : (ds : scope.Declarations) → IsTypedScope (declared ds) → (q : Sequent) (t : IsTypedSequent (context_of (declared ds)) q) →
    IsFitting of_each_module (of_sequent (context_of (declared ds)) q t.frames) (ambient ds q) []
goal_fits ds w q t = record {
  logical = λ i. refl;
  values = all_with q.logical t.logical;
  bound = subst (λ bs. AreBound of_each_module bs []) (sym (goal_bound (declared ds) q t.frames)) tt;
  variables = tt;
  declared = goal_declared ds w q t.frames;
  around = tt;
  globals = λ e. goal_globals ds w q t.frames;
  outside = λ e. refl;
  procedures = λ e. goal_procedure ds w q t;
  memories = λ e. goal_memories (declared ds) q t.frames t.memories;
  locals = λ e. goal_locals ds q t;
  frames = λ e. goal_frames (declared ds) q t.frames;
  sides = λ e. refl;
  together = λ e a. goal_together ds w a q t.frames;
  stand = λ e a k. refl;
}
