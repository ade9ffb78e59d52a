-- Modules of a typed scope beside modules that are left open, which are those of a goal.
use Rattle.std.proofs.Common.{◌≡◌, inl, inr, Bool, true, false, if◌then◌else◌, List, [], ◌∷◌, Some, None, bytes_eq, refl, ap, sym, ◌∙◌}
use Rattle.std.proofs.lemmas.Bool.{false≢true}
use Rattle.std.proofs.lemmas.Option.{none-some}
use Rattle.std.proofs.lemmas.Slice.Eq.{bytes_eq-Decides}
use Rattle.gb_terms.specs.declared.decl.Module.{Module}
use Rattle.gb_terms.specs.declared.decl.Param.{Param}
use Rattle.gb_terms.specs.declared.decl.Proc.{Proc}
use Rattle.gb_terms.specs.declared.module.Bind.{Bind}
use Rattle.gb_terms.specs.declared.module.ProcRef.{ProcRef}
use Rattle.gb_terms.specs.declared.term.Term.{Term}
use Rattle.gb_goal.specs.Instances.{arguments_of, instance, name_of}
use Rattle.gb_goal.specs.Scope as scope
use Rattle.gb_goal.specs.Scope.{module_of, proc_of}
use Rattle.gb_meaning.specs.Names.{Name}
use Rattle.gb_meaning.specs.Declared.{declared}
use Rattle.gb_meaning.specs.Modules.{Functor, Procedures, Reading, found, modules_of, procedure_at}
use Rattle.gb_meaning.specs.Modules as linked
use Rattle.gb_meaning.proofs.Lists.{declared-module}
use Rattle.gb_typing.specs.Alike.{AreAbstractAlike, AreClosed, LooksAtCalls}
use Rattle.gb_typing.specs.Context.{Context, procedure}
use Rattle.gb_typing.specs.Following.{FollowsCalls}
use Rattle.gb_typing.specs.Formulas.{with_module as with_bound}
use Rattle.gb_typing.specs.Modules.{Interface, ProcedureType, functor_type, of_functor_type}
use Rattle.gb_typing.specs.Programs.{IsProcedure, locals_of}
use Rattle.gb_typing.specs.Scopes.{nothing, context_of, IsTypedScope}
use Rattle.gb_typing.specs.Sequents.{AreBinders, with_modules}
use Rattle.gb_typing.proofs.Calls.{each_call}
use Rattle.gb_typing.proofs.Growing.{Keeps, goal_keeps}
use Rattle.gb_typing.proofs.InScopes.{instance_here, placed_in_goal}
use Rattle.gb_typing.proofs.LinkedInstances.{instance_read}
use Rattle.gb_typing.proofs.ReadingsAlike.{named_alike}
use Rattle.gb_typing.proofs.ScopesAlike.{scope_closed}
use Rattle.gb_typing.proofs.Standing.{module_place, stands}
use Rattle.gb_mods.specs.Called.{calls}
use Rattle.gb_mods.specs.Meets.{open_name}
use Rattle.gb_arguments.specs.Collect.{Each, open_binder, open_binders, with_open}
pub use Rattle.gb_arguments.specs.OpenGoals.{open_goal, seen}
use Rattle.gb_arguments.proofs.Collecting.{each_called}
use Rattle.gb_arguments.proofs.Members.{Has}

-- No module is known under the name of one that is left open.
abbrev pub AreFree : Context → List Param → Type 0
AreFree c [] = Unit {0}
AreFree c (q ∷ qs) = (c.modules.interfaces (open_name q.name) ≡ None) × AreFree c qs

before_bound : (c : Context) (b : Bind) (n : Name) → (with_bound c b).modules.interfaces n ≡ None → c.modules.interfaces n ≡ None
before_bound c b n e = step (bytes_eq n b.name) e
  where
    step : (t : Bool) → (if t then Some (of_functor_type (functor_type c.modules.types (c.modules.types b.ty))) else c.modules.interfaces n) ≡ None → c.modules.interfaces n ≡ None
    step true e = absurd (none-some _ (sym e))
    step false e = e

free_before : (c : Context) (b : Bind) (qs : List Param) → AreFree (with_bound c b) qs → AreFree c qs
free_before c b [] h = tt
free_before c b (q ∷ qs) h = (before_bound c b (open_name q.name) h.0, free_before c b qs h.1)

pub are_free : (c : Context) (qs : List Param) → AreBinders c (open_binders qs) → AreFree c qs
are_free c [] w = tt
are_free c (q ∷ qs) w = ((let x = w.0 in x.free), free_before c (open_binder q) qs (are_free (with_bound c (open_binder q)) qs w.1))

module _ {X : Type 0} (v : Param → Procedures X) where
  -- what is known of the scope stays
  pub known_stays : (c : Context) (qs : List Param) → AreFree c qs → (ms : linked.Modules X) (k : Name) (i : Interface) → c.modules.interfaces k ≡ Some i → with_open v qs ms k ≡ ms k
  known_stays c [] f ms k i e = refl
  known_stays c (q ∷ qs) f ms k i e = step (bytes_eq k (open_name q.name)) refl (known_stays c qs f.1 ms k i e)
    where
      step : (t : Bool) → bytes_eq k (open_name q.name) ≡ t → with_open v qs ms k ≡ ms k → (if t then (λ args. v q) else with_open v qs ms k) ≡ ms k
      step true h go = absurd (none-some i (sym (ap c.modules.interfaces ((bytes_eq-Decides k (open_name q.name)).0 h) ∙ f.0) ∙ e))
      step false h go = go

  -- modules that are left open are given nothing
  pub open_constant : (qs : List Param) (ms : linked.Modules X) (q : Param) → Has qs q → (fs gs : List (Functor X)) → with_open v qs ms (open_name q.name) fs ≡ with_open v qs ms (open_name q.name) gs
  open_constant [] ms q h fs gs = absurd h
  open_constant (p ∷ qs) ms q h fs gs = step (bytes_eq (open_name q.name) (open_name p.name)) refl h (λ k. open_constant qs ms q k fs gs)
    where
      step : (t : Bool) → bytes_eq (open_name q.name) (open_name p.name) ≡ t → Has (p ∷ qs) q →
          (Has qs q → with_open v qs ms (open_name q.name) fs ≡ with_open v qs ms (open_name q.name) gs) →
          (if t then (λ args. v p) else with_open v qs ms (open_name q.name)) fs ≡ (if t then (λ args. v p) else with_open v qs ms (open_name q.name)) gs
      step true e k go = refl
      step false e (inl k) go = absurd (false≢true (sym e ∙ (bytes_eq-Decides (open_name q.name) (open_name p.name)).1 (ap (λ (z : Param). open_name z.name) (sym k))))
      step false e (inr k) go = go k

binders_closed : {X : Type 0} (final : linked.Modules X) (qs : List Param) → ((q : Param) → Has qs q → (fs gs : List (Functor X)) → final (open_name q.name) fs ≡ final (open_name q.name) gs) →
    (c : Context) → AreClosed c.modules final → AreClosed (with_modules c (open_binders qs)).modules final
binders_closed final [] w c h = h
binders_closed final (q ∷ qs) w c h =
    binders_closed final qs (λ p k. w p (inr k)) (with_bound c (open_binder q))
    (named_alike c.modules final final h (open_name q.name) (of_functor_type (functor_type c.modules.types (c.modules.types q.ty)))
    (λ fs gs k f t e. ap (λ z. found z f) (w q (inl refl) fs gs)))

-- A scope, and modules that are left open.
module _ (ds : scope.Declarations) (scoped : IsTypedScope (declared ds)) (qs : List Param) (f0 : Term) (w : AreBinders (context_of (declared ds)) (open_binders qs)) where
  abbrev c : Context
  c = context_of (declared ds)

  abbrev its : Context
  its = seen ds scoped qs f0 w

  keeps : Keeps c its
  keeps = goal_keeps c (open_goal f0 qs) [] w

  -- what a declared procedure calls is typed
  abbrev pub IsTyped : ProcRef → Type 0
  IsTyped r = (t : ProcedureType) × (procedure its r ≡ Some t)

  pub instance_typed : (r : ProcRef) → IsTyped r → (m : Module) → module_of ds (name_of r.«module») ≡ Some m → (p : Proc) → proc_of m.procs r.name ≡ Some p →
      IsProcedure its (instance m.params (arguments_of r.«module») p)
  instance_typed r t m e p h =
      let l = stands ds (name_of r.«module») m e in
      instance_here (context_of (declared l.front)) (name_of r.«module») m its
      (placed_in_goal (declared ds) (declared l.front) (declared l.after) (name_of r.«module») m scoped (module_place ds (name_of r.«module») m l) (open_goal f0 qs) [] w)
      r.name p h r.«module» refl t.0 t.1

  pub calls_typed : (r : ProcRef) → IsTyped r → (m : Module) → module_of ds (name_of r.«module») ≡ Some m → (p : Proc) → proc_of m.procs r.name ≡ Some p →
      Each IsTyped (calls (instance m.params (arguments_of r.«module») p).body.list)
  calls_typed r t m e p h =
      let x = instance_typed r t m e p h in
      each_called IsTyped (instance m.params (arguments_of r.«module») p).body.list
      (each_call its (locals_of (instance m.params (arguments_of r.«module») p)) IsTyped (λ q u k. (u, k)) (instance m.params (arguments_of r.«module») p).body.list
      (let b = x.body in b.statements))

  module _ {X : Type 0} (read : Reading X) (looks : LooksAtCalls read) (follows : FollowsCalls read) (base : linked.Modules X) (abstract : AreAbstractAlike nothing (declared ds) base base)
      (v : Param → Procedures X) where
    abbrev pub final : linked.Modules X
    final = with_open v qs (modules_of read base (declared ds))

    known_final : (k : Name) (i : Interface) → c.modules.interfaces k ≡ Some i → final k ≡ modules_of read base (declared ds) k
    known_final k i e = known_stays v c qs (are_free c qs w) (modules_of read base (declared ds)) k i e

    closed : AreClosed (let x = its in x.modules) final
    closed =
        binders_closed final qs (open_constant v qs (modules_of read base (declared ds))) c
        (scope_closed read looks (declared ds) scoped base abstract final known_final)

    -- a procedure of a declared module is what its instance is read as
    pub declared_read : (r : ProcRef) → IsTyped r → (m : Module) → module_of ds (name_of r.«module») ≡ Some m → (p : Proc) → proc_of m.procs r.name ≡ Some p →
        procedure_at final r ≡ Some (read (procedure_at final) (instance m.params (arguments_of r.«module») p))
    declared_read r t m e p h =
        instance_read read looks base (declared ds) final its closed scoped known_final (λ k i n. let z = keeps in z.interfaces k i n) follows r t.0 t.1 m
        (declared-module ds (name_of r.«module») ∙ e) p h
