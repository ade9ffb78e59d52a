-- In a typed scope each declared procedure is read in the modules of the whole scope: what it calls means there what it names where it
-- stands. One of a module with arguments is read as its instance.
use Rattle.std.proofs.Common.{◌≡◌, true, [], ◌∷◌, ◌++◌, Some, refl, ◌∙◌, subst}
use Rattle.gb_terms.specs.declared.decl.Proc.{Proc}
use Rattle.gb_terms.specs.declared.module.Mexp.{Mexp}
use Rattle.gb_terms.specs.declared.module.Mexp.TheVariants.{Name as named, Apply'}
use Rattle.gb_terms.specs.declared.module.ProcRef.{ProcRef}
use Rattle.gb_terms.specs.Rows.{mexps_in}
use Rattle.gb_goal.specs.Scope as scope
use Rattle.gb_goal.specs.Scope.{proc_at, procedure_of}
use Rattle.gb_meaning.specs.Names.{Name}
use Rattle.gb_meaning.specs.Declared.{Declarations, declared}
use Rattle.gb_meaning.specs.Modules.{Reading, procedure_at, modules_of}
use Rattle.gb_meaning.specs.Modules as linked
use Rattle.gb_meaning.specs.Naming.{IsFresh}
use Rattle.gb_meaning.proofs.Lists.{declared-module}
use Rattle.gb_typing.specs.Context.{Context}
use Rattle.gb_typing.specs.Alike.{AreAbstractAlike, LooksAtCalls}
use Rattle.gb_typing.specs.Following.{FollowsCalls}
use Rattle.gb_typing.specs.Programs.{type_of_procedure}
use Rattle.gb_typing.specs.Scopes.{is_declared, context_of, nothing, AreTypedAfter, IsTypedScope}
use Rattle.gb_typing.proofs.Interfaces.{itself}
use Rattle.gb_typing.proofs.Known.{fresh_later as never_again}
use Rattle.gb_typing.proofs.LinkedInstances.{instance_read}
use Rattle.gb_typing.proofs.Located.{typed_in_scope}
use Rattle.gb_typing.proofs.Operators.{declared_last as last_declared}
use Rattle.gb_typing.proofs.ScopesAlike.{scope_closed}
use Rattle.gb_typing.proofs.Standing.{of_instance}
use Rattle.gb_typing.proofs.WholeReads.{read_whole}

pub declared_last : (before : Declarations) (n : Name) (d : _) → is_declared (before ++ (n, d) ∷ []) n ≡ true
declared_last before n d = last_declared before (n, d) n (itself n)

-- a name that is declared is no name of a later declaration
pub fresh_later : (ds : scope.Declarations) (before : Declarations) (c : Context) → AreTypedAfter c before (declared ds) → (k : Name) → is_declared before k ≡ true → IsFresh (declared ds) k
fresh_later ds before c w k e = never_again (declared ds) before c w k e

module _ {X : Type 0} (read : Reading X) (looks : LooksAtCalls read) (follows : FollowsCalls read) (base : linked.Modules X) (ds : scope.Declarations) (scoped : IsTypedScope (declared ds))
    (alike : AreAbstractAlike nothing (declared ds) base base) where
  abbrev pub final : linked.Modules X
  final = modules_of read base (declared ds)

  read_in : (m : Mexp) (f : Name) (p : Proc) → proc_at ds m f ≡ Some p → procedure_at final (record { «module» = m; name = f }) ≡ Some (read (procedure_at final) p)
  read_in (named n) f p e = read_whole read looks base ds scoped alike n f p e
  read_in (Apply' n k args) f p e =
      let r : ProcRef = record { «module» = Apply' n k args; name = f } in
      let x = of_instance ds n f (mexps_in args) p e in
      let t = typed_in_scope ds scoped r p e in
      subst (λ (z : Proc). procedure_at final r ≡ Some (read (procedure_at final) z)) x.is
      (instance_read read looks base (declared ds) final (context_of (declared ds))
      (scope_closed read looks (declared ds) scoped base alike final (λ k i h. refl))
      scoped (λ k i h. refl) (λ k i h. h) follows r (type_of_procedure p) t.type x.found (declared-module ds n ∙ x.there) x.own x.procedure)

  -- a declared procedure is read in the modules of the whole scope
  pub read_there : (r : ProcRef) (p : Proc) → procedure_of ds r ≡ Some p → procedure_at final r ≡ Some (read (procedure_at final) p)
  read_there r p e = read_in r.«module» r.name p e
