-- What procedures of a scope touch in the meaning, and what is computed that they touch and call themselves.
use Rattle.std.proofs.Common.{◌≡◌, ◌⊎◌, inl, inr, ℕ, suc, ◌<◌, if◌then◌else◌, Bool, true, false, List, [], ◌∷◌, ◌++◌, length, Option, Some, None, refl, ap, sym, ◌∙◌, subst, arith}
use Rattle.std.specs.Prelude.{bytes_eq}
use Rattle.gb_core.specs.declared.var.Var.{Var}
use Rattle.gb_terms.specs.declared.decl.Module.{Module}
use Rattle.gb_terms.specs.declared.decl.Proc.{Proc}
use Rattle.gb_terms.specs.declared.module.Mexp.{Mexp}
use Rattle.gb_terms.specs.declared.module.ProcRef.{ProcRef}
use Rattle.gb_goal.specs.declared.scope.Entry.TheVariants as entry
use Rattle.gb_goal.specs.Instances.{arguments_of, instance, name_of, stands_for}
use Rattle.gb_goal.specs.Interfaces.{found, of_entry, of_module, procedure_types, type_of_procedure}
use Rattle.gb_goal.specs.Scope as scope
use Rattle.gb_goal.specs.Scope.{entry_of, module_of, proc_of}
use Rattle.gb_meaning.specs.Declared.{declared}
use Rattle.gb_meaning.specs.Footprints.{body_touched, footprint_read, in_order, of_callee, var_order, variables}
use Rattle.gb_meaning.specs.Modules.{Modules, Reading, modules_of, no_module, procedure_at}
use Rattle.gb_meaning.specs.Names.{Name}
use Rattle.gb_meaning.specs.Naming.{EachCallOf}
use Rattle.gb_meaning.specs.Settings.{Interpretation, with_abstract_footprints}
use Rattle.gb_meaning.proofs.Lists.{declared-module}
use Rattle.gb_typing.specs.Alike.{AreClosed, LooksAtCalls}
use Rattle.gb_typing.specs.Chosen.{IsChosenOver, chosen_under}
use Rattle.gb_typing.specs.Context.{Context, procedure}
use Rattle.gb_typing.specs.Following.{FollowsCalls}
use Rattle.gb_typing.specs.Modules.{Interface, ProcedureType}
use Rattle.gb_typing.specs.Programs.{IsProcedure, locals_of}
use Rattle.gb_typing.specs.Scopes.{IsTypedScope, context_of}
use Rattle.gb_typing.proofs.Calls as typed_calls
use Rattle.gb_typing.proofs.DeclaredTypes.{scope_types}
use Rattle.gb_typing.proofs.Follows.{footprint_follows}
use Rattle.gb_typing.proofs.Growing.{Keeps, keeps_itself}
use Rattle.gb_typing.proofs.InScopes.{instance_here}
use Rattle.gb_typing.proofs.Agreed.{resolved}
use Rattle.gb_typing.proofs.Inside.{applied_procedure, applied_suits}
use Rattle.gb_typing.proofs.Interfaces.{none_some}
use Rattle.gb_typing.proofs.LinkedInstances.{instance_read}
use Rattle.gb_typing.proofs.Located.{known_in_scope, placed_at}
use Rattle.gb_typing.proofs.ModulesAlike.{footprint-looks}
use Rattle.gb_typing.proofs.ScopesAlike.{scope_closed}
use Rattle.gb_typing.proofs.Standing.{module_place, stands}
use Rattle.gb_typing.proofs.Touched.{touched_alike}
use Rattle.gb_mods.specs.Called.{calls, calls_if}
use Rattle.gb_mods.specs.Reach.{called_declared, called_from, given_for}
use Rattle.gb_mods.specs.Touched.{apart, each_touched, touched_in}
use Rattle.gb_mods.proofs.Closed.{IsIn}
use Rattle.gb_instances.specs.Footprint.{touched_at, touched_by, touched_if}
use Rattle.gb_arguments.specs.Members.{Has}
use Rattle.gb_arguments.proofs.Calls.{calls_put}
use Rattle.gb_arguments.proofs.Depths.{below, depth_follows, depth_looks, depth_read, together}
use Rattle.gb_arguments.proofs.FootprintBodies.{called_body, each_call, own_body, split_body}
use Rattle.gb_arguments.proofs.FootprintMembers.{either, has_behind, has_either, has_front, in_ordered, kept, ordered_has, was_there, IsGlobal}

pub proc_there : (ps : List Proc) (f : Name) (u : ProcedureType) → found (procedure_types ps) f ≡ Some u → (p : Proc) × (proc_of ps f ≡ Some p)
proc_there [] f u e = none_some u e
proc_there (p ∷ ps) f u e = step (bytes_eq f p.name) e (proc_there ps f u)
  where
    step : (b : Bool) → (if b then Some (type_of_procedure p) else found (procedure_types ps) f) ≡ Some u → (found (procedure_types ps) f ≡ Some u → (q : Proc) × (proc_of ps f ≡ Some q)) →
        (q : Proc) × ((if b then Some p else proc_of ps f) ≡ Some q)
    step true k go = (p, refl)
    step false k go = go k

module _ (ds : scope.Declarations) (i : Interpretation) (scoped : IsTypedScope (declared ds)) (over : IsChosenOver (declared ds) i) where
  abbrev pub c : Context
  c = context_of (declared ds)

  abbrev pub base : Modules (List Var)
  base = with_abstract_footprints (declared ds) i.programs (λ n. no_module)

  module _ (read : Reading (List Var)) (looks : LooksAtCalls read) (follows : FollowsCalls read) where
    abbrev pub final : Modules (List Var)
    final = modules_of read base (declared ds)

  abbrev pub footprints_all : Modules (List Var)
  footprints_all = final footprint_read footprint-looks footprint_follows

  abbrev pub depths : Modules (List Var)
  depths = final depth_read depth_looks depth_follows

  -- what a procedure touches in the meaning
  abbrev pub reaches : ProcRef → List Var
  reaches r = of_callee (procedure_at footprints_all r)

  abbrev pub rank : ProcRef → ℕ
  rank r = length (of_callee (procedure_at depths r))

  -- A context that sees the scope, and may see more modules, of which nothing is declared or chosen, and which stand for modules without procedures.
  pub record IsSeen (seen : Context) : Type 0 where
    pub keeps : Keeps (context_of (declared ds)) seen
    pub types : (n : Name) → seen.modules.types n ≡ scope.module_type_of ds n
    pub closed : (read : Reading (List Var)) → LooksAtCalls read → AreClosed seen.modules (modules_of read base (declared ds))
    pub kinds : (n : Name) (j : Interface) → seen.modules.interfaces n ≡ Some j → (c.modules.interfaces n ≡ Some j) ⊎ ((entry_of ds n ≡ None) × (chosen_under i.programs n ≡ None))

  -- the scope itself
  pub sees_itself : IsSeen c
  sees_itself = record {
    keeps = keeps_itself c;
    types = scope_types ds scoped;
    closed = λ read looks. scope_closed read looks (declared ds) scoped base (touched_alike (declared ds) i scoped over) (modules_of read base (declared ds)) (λ k j e. refl);
    kinds = λ n j e. inl e;
  }

module _ (ds : scope.Declarations) (i : Interpretation) (scoped : IsTypedScope (declared ds)) (over : IsChosenOver (declared ds) i) (seen : Context) (sees : IsSeen ds i scoped over seen) where
  abbrev all : Modules (List Var)
  all = footprints_all ds i scoped over

  abbrev deeps : Modules (List Var)
  deeps = depths ds i scoped over

  abbrev reaching : ProcRef → List Var
  reaching r = reaches ds i scoped over r

  abbrev ranking : ProcRef → ℕ
  ranking r = rank ds i scoped over r

  -- a procedure of a declared module, with arguments for its parameters, is read as its instance
  read_is : (read : Reading (List Var)) (looks : LooksAtCalls read) (follows : FollowsCalls read) (r : ProcRef) (t : ProcedureType) → procedure seen r ≡ Some t →
      (m : Module) → module_of ds (name_of r.«module») ≡ Some m → (p : Proc) → proc_of m.procs r.name ≡ Some p →
      procedure_at (final ds i scoped over read looks follows) r ≡ Some (read (procedure_at (final ds i scoped over read looks follows)) (instance m.params (arguments_of r.«module») p))
  read_is read looks follows r t there m e p f =
      instance_read read looks (base ds i scoped over) (declared ds) (final ds i scoped over read looks follows) seen (sees.closed read looks)
      scoped (λ k j e. refl) (λ k j e. (let z = sees.keeps in z.interfaces k j e)) follows r t there m (declared-module ds (name_of r.«module») ∙ e) p f

  abbrev pub HasType : ProcRef → Type 0
  HasType r = (t : ProcedureType) × (procedure seen r ≡ Some t)

  -- A procedure touches in the meaning what it touches itself, and what those touch that it calls, and nothing else.
  pub record Node (r : ProcRef) : Type 0 where
    pub split : (z : Var) → Has (reaching r) z → Has (touched_at ds r) z ⊎ ((q : ProcRef) × IsIn (called_from ds None r) q × Has (reaching q) z)
    pub global : (z : Var) → Has (touched_at ds r) z → IsGlobal z
    pub own : (z : Var) → Has (touched_at ds r) z → Has (reaching r) z
    pub through : (q : ProcRef) → IsIn (called_from ds None r) q → (z : Var) → IsGlobal z → Has (reaching q) z → Has (reaching r) z
    pub typed : (q : ProcRef) → IsIn (called_from ds None r) q → HasType q
    pub falls : (q : ProcRef) → IsIn (called_from ds None r) q → ranking q < ranking r

  -- a procedure of a declared module
  module _ (r : ProcRef) (t : ProcedureType) (there : procedure seen r ≡ Some t) (m : Module) (at : entry_of ds (name_of r.«module») ≡ Some (entry.Module m)) where
    abbrev module_there : module_of ds (name_of r.«module») ≡ Some m
    module_there = ap scope.as_module at

    -- what is known of the module
    abbrev whole : Interface
    whole = resolved (let z = context_of (declared ds) in z.modules.types) (of_module m)

    known_whole : seen.modules.interfaces (name_of r.«module») ≡ Some whole
    known_whole = let z = sees.keeps in z.interfaces (name_of r.«module») whole (known_in_scope ds scoped (name_of r.«module») (of_module m) (ap (of_entry ds) at))

    pub found_there : found (procedure_types m.procs) r.name ≡ Some t
    found_there =
        sym (applied_procedure seen.modules r.«module» whole known_whole r.name (applied_suits seen.modules r.«module» whole known_whole r.name t there)) ∙ there

    abbrev declared_one : (p : Proc) × (proc_of m.procs r.name ≡ Some p)
    declared_one = proc_there m.procs r.name t found_there

    abbrev p : Proc
    p = declared_one.0

    abbrev put : Name → Mexp
    put = stands_for m.params (arguments_of r.«module»)

    abbrev pub q : Proc
    q = instance m.params (arguments_of r.«module») p

    calls_are : called_from ds None r ≡ calls q.body.list
    calls_are =
        ap (λ o. called_declared ds o (arguments_of r.«module») r.name) at
        ∙ ap (λ o. given_for m.params (arguments_of r.«module») (calls_if o)) declared_one.1
        ∙ sym (calls_put put p.body.list)

    touched_are : touched_at ds r ≡ touched_in p
    touched_are = ap (λ o. touched_by (name_of r.«module») o r.name) at ∙ ap touched_if declared_one.1

    -- the instance touches the same itself
    same_order : in_order var_order (touched_in q) ≡ in_order var_order (touched_in p)
    same_order = footprint_follows apart put p

    to_own : (z : Var) → Has (touched_in q) z → Has (touched_at ds r) z
    to_own z h = subst (λ xs. Has xs z) (sym touched_are) (in_ordered (touched_in p) z (subst (λ xs. Has xs z) same_order (ordered_has (touched_in q) z h)))

    pub from_own : (z : Var) → Has (touched_at ds r) z → Has (touched_in q) z
    from_own z h = in_ordered (touched_in q) z (subst (λ xs. Has xs z) (sym same_order) (ordered_has (touched_in p) z (subst (λ xs. Has xs z) touched_are h)))

    abbrev F : ProcRef → Option (List Var)
    F = procedure_at all

    reaches_is : reaching r ≡ footprint_read F q
    reaches_is = ap of_callee (read_is footprint_read footprint-looks footprint_follows r t there m module_there p declared_one.1)

    rank_is : ranking r ≡ suc (length (together (procedure_at deeps) (calls q.body.list)))
    rank_is = ap (λ o. length (of_callee o)) (read_is depth_read depth_looks depth_follows r t there m module_there p declared_one.1)

    body_has : (z : Var) → IsGlobal z → Has (body_touched F q.body.list ++ variables q.value) z → Has (reaching r) z
    body_has z g h = subst (λ xs. Has xs z) (sym reaches_is) (ordered_has _ z (kept (body_touched F q.body.list ++ variables q.value) z g h))

    pub instance_typed : IsProcedure seen q
    instance_typed =
        let l = stands ds (name_of r.«module») m module_there in
        instance_here (context_of (declared l.front)) (name_of r.«module») m seen
        (placed_at ds scoped seen sees.keeps sees.types (name_of r.«module») m l.front l.after (module_place ds (name_of r.«module») m l))
        r.name p declared_one.1 r.«module» refl t there

    each_typed : EachCallOf HasType q.body.list
    each_typed =
        typed_calls.each_call seen (locals_of q) HasType (λ x u e. (u, e)) q.body.list (let w = instance_typed in (let b = w.body in b.statements))

    in_calls : (x : ProcRef) → IsIn (called_from ds None r) x → IsIn (calls q.body.list) x
    in_calls x h = subst (λ qs. IsIn qs x) calls_are h

    pub declared_node : Node r
    declared_node = record {
      split = λ z h.
          let k = was_there (body_touched F q.body.list ++ variables q.value) z (in_ordered _ z (subst (λ xs. Has xs z) reaches_is h)) in
          either
          (λ b. either (λ o. inl (to_own z (kept (each_touched q.body.list ++ variables q.value) z k.0 (has_front (each_touched q.body.list) (variables q.value) z o))))
          (λ x. inr (x.0, subst (λ qs. IsIn qs x.0) (sym calls_are) x.1, x.2)) (split_body F z q.body.list b))
          (λ v. inl (to_own z (kept (each_touched q.body.list ++ variables q.value) z k.0 (has_behind (each_touched q.body.list) (variables q.value) z v))))
          (has_either (body_touched F q.body.list) (variables q.value) z k.1);
      global = λ z h. (was_there (each_touched q.body.list ++ variables q.value) z (from_own z h)).0;
      own = λ z h.
          let k = was_there (each_touched q.body.list ++ variables q.value) z (from_own z h) in
          body_has z k.0
          (either (λ o. has_front (body_touched F q.body.list) (variables q.value) z (own_body F z q.body.list o))
          (λ v. has_behind (body_touched F q.body.list) (variables q.value) z v) (has_either (each_touched q.body.list) (variables q.value) z k.1));
      through = λ x h z g k. body_has z g (has_front (body_touched F q.body.list) (variables q.value) z (called_body F z q.body.list x k (in_calls x h)));
      typed = λ x h. each_call HasType q.body.list each_typed x (in_calls x h);
      falls = λ x h. let k = below (procedure_at deeps) (calls q.body.list) x (in_calls x h) in let s = rank_is in omega (arith, k, s);
    }
