-- In the modules of a typed scope a procedure of a module without parameters is read where each call in it means what it means in the end.
use Rattle.std.proofs.Common.{◌≡◌, Bool, true, false, if◌then◌else◌, [], ◌∷◌, ◌++◌, Option, Some, bytes_eq, refl, ap, sym, ◌∙◌, subst}
use Rattle.gb_terms.specs.declared.decl.Proc.{Proc}
use Rattle.gb_terms.specs.declared.module.Mexp.TheVariants.{Name as named}
use Rattle.gb_terms.specs.declared.module.ProcRef.{ProcRef}
use Rattle.gb_goal.specs.Scope as scope
use Rattle.gb_goal.specs.Scope.{module_of, proc_in}
use Rattle.gb_meaning.specs.Names.{Name}
use Rattle.gb_meaning.specs.Declared.{Declarations, declared, concrete_module}
use Rattle.gb_meaning.specs.Modules.{Applied, Reading, found, no_module, procedure_at, with_module, with_params, with_procedures, module_read, modules_of}
use Rattle.gb_meaning.specs.Modules as linked
use Rattle.gb_meaning.specs.Naming.{IsFreshAmong}
use Rattle.gb_meaning.proofs.Procedures.{in_module}
use Rattle.gb_typing.specs.Alike.{LooksAtCalls, StandAlike, AreAbstractAlike, AreAllAlike}
use Rattle.gb_typing.specs.Context.{Context}
use Rattle.gb_typing.specs.Modules.{Interface}
use Rattle.gb_typing.specs.Programs.{IsProcedure, locals_of}
use Rattle.gb_typing.specs.Scopes.{nothing, interface_with, procedure_types, IsModule, context_of, IsTypedScope}
use Rattle.gb_typing.proofs.Calls.{each_call}
use Rattle.gb_typing.proofs.ExpressionsAlike.{procedure_alike}
use Rattle.gb_typing.proofs.Interfaces.{same_name, same_some}
use Rattle.gb_typing.proofs.Known.{modules_before, modules_here, typed_before, typed_here}
use Rattle.gb_typing.proofs.Standing.{Among, among, Standing, standing, declared_place, with_earlier, earlier_is}
use Rattle.gb_typing.proofs.ReadingsAlike.{own_alike}
use Rattle.gb_typing.proofs.ScopesAlike.{scope_closed, alike_front}

module _ {X : Type 0} (read : Reading X) (looks : LooksAtCalls read) (base : linked.Modules X) (ds : scope.Declarations) (scoped : IsTypedScope (declared ds)) (abstract : AreAbstractAlike nothing (declared ds) base base) (n f : Name) (p : Proc)
    (e : proc_in (module_of ds n) f ≡ Some p) where
  abbrev l : Standing ds n f p
  l = standing ds n f p e

  -- what is declared before the module and after it
  abbrev before : Declarations
  before = declared l.front

  abbrev after : Declarations
  after = declared l.after

  place : declared ds ≡ before ++ (n, concrete_module l.found) ∷ after
  place = declared_place ds n f p l

  whole : IsTypedScope (before ++ (n, concrete_module l.found) ∷ after)
  whole = subst IsTypedScope place scoped

  abbrev c : Context
  c = context_of before

  here : IsModule c n l.found
  here = typed_here before after n l.found whole

  a : Among c l.found [] l.found.procs f p
  a = among c l.found l.found.procs [] (let w = here in w.procs) f p l.procedure

  -- the modules before it, those with its earlier procedures, and those of the whole scope
  abbrev env : linked.Modules X
  env = modules_of read base before

  abbrev earlier : Applied X
  earlier = with_procedures read env l.found no_module a.front

  abbrev around : linked.Modules X
  around = with_module env n earlier

  abbrev final : linked.Modules X
  final = modules_of read base (declared ds)

  final_here : final n ≡ module_read read env l.found
  final_here = ap (λ z. modules_of read base z n) place ∙ modules_here before after n l.found whole read base

  final_other : (k : Name) (i : Interface) → c.modules.interfaces k ≡ Some i → final k ≡ env k
  final_other k i h = ap (λ z. modules_of read base z k) place ∙ modules_before before after n l.found whole read base k i h

  -- Each name that the procedure may use is alike before it and in the end.

  abbrev own : Interface
  own = interface_with c.modules.types l.found.params (procedure_types a.front)

  abbrev seen : Context
  seen = with_earlier c n l.found (procedure_types a.front)

  closed : AreAllAlike c.modules env env
  closed = scope_closed read looks before (typed_before before after n l.found whole) base (alike_front before ((n, concrete_module l.found) ∷ after) nothing base base (subst (λ z. AreAbstractAlike nothing z base base) place abstract)) env (λ k i h. refl)

  mine : StandAlike own earlier (module_read read env l.found)
  mine = own_alike read looks c l.found env env closed (let w = here in w.procs) a.front (p ∷ a.after) a.place

  alike : AreAllAlike seen.modules around final
  alike k i h = step (bytes_eq k n) refl h
    where
      step : (b : Bool) → bytes_eq k n ≡ b → (if b then Some own else c.modules.interfaces k) ≡ Some i → StandAlike i (if b then earlier else env k) (final k)
      step true q h =
          subst (λ j. StandAlike j earlier (final k)) (same_some own i h)
          (subst (StandAlike own earlier) (sym (ap final (same_name k n q) ∙ final_here)) mine)
      step false q h = subst (StandAlike i (env k)) (sym (final_other k i h)) (closed k i h)

  abbrev callee : ProcRef → Option X
  callee = procedure_at (with_params (with_module env l.found.name earlier) l.found.params [])

  callee_is : callee ≡ procedure_at around
  callee_is = λ z. procedure_at (with_params (with_module env (let w = here in w.name z) earlier) (l.alone z) [])

  typed_seen : IsProcedure seen p
  typed_seen = subst (λ c. IsProcedure c p) (earlier_is c n l.found (let w = here in w.name) l.alone (procedure_types a.front)) a.typed

  pub read_whole : procedure_at final (record { «module» = named n; name = f }) ≡ Some (read (procedure_at final) p)
  read_whole =
      ap (λ (z : Applied X). found (z []) f) final_here
      ∙ ap (found (module_read read env l.found [])) a.name
      ∙ in_module read env l.found a.front a.after p a.place (subst (IsFreshAmong a.front) a.name a.fresh) []
      ∙ ap (λ z. Some (read z p)) callee_is
      ∙ ap Some
      (looks (procedure_at around) (procedure_at final) p
      (each_call seen (locals_of p) (λ r. procedure_at around r ≡ procedure_at final r) (procedure_alike seen.modules around final alike) p.body.list
      (let w = (let u = typed_seen in u.body) in w.statements)))
