-- The concrete procedures of a typed scope are typed in the contexts of its goals, those of modules with modules for their parameters too.
use Rattle.std.proofs.Common.{◌≡◌, List, [], ◌∷◌, ◌++◌, Option, Some, None, refl, ap, sym, ◌∙◌, subst}
use Rattle.std.specs.Option.{option_map}
use Rattle.gb_terms.specs.declared.decl.Module.{Module}
use Rattle.gb_terms.specs.declared.decl.Proc.{Proc}
use Rattle.gb_terms.specs.declared.decl.TypedName.{TypedName}
use Rattle.gb_terms.specs.declared.module.Bind.{Bind}
use Rattle.gb_terms.specs.declared.module.Mexp.{Mexp}
use Rattle.gb_terms.specs.declared.module.Mexp.TheVariants.{Name as named, Apply'}
use Rattle.gb_terms.specs.declared.module.ProcRef.{ProcRef}
use Rattle.gb_terms.specs.Rows.{mexps_in}
use Rattle.gb_goal.specs.declared.scope.Entry.{Entry}
use Rattle.gb_goal.specs.declared.scope.Entry.TheVariants as entry
use Rattle.gb_goal.specs.declared.sequent.Sequent.{Sequent}
use Rattle.gb_goal.specs.Interfaces as known
use Rattle.gb_goal.specs.Interfaces.{of_entry, of_module, of_type, interface_of}
use Rattle.gb_goal.specs.Scope as scope
use Rattle.gb_goal.specs.Scope.{as_module, entry_of, module_of, module_type_of, proc_at, procedure_of}
use Rattle.gb_goal.proofs.Interfaces.{declared_type}
use Rattle.gb_meaning.specs.Names.{Name}
use Rattle.gb_meaning.specs.Declared.{ModuleType, concrete_module, declared}
use Rattle.gb_typing.specs.Context.{Context, procedure}
use Rattle.gb_typing.specs.Programs.{IsProcedure, type_of_procedure}
use Rattle.gb_typing.specs.Scopes.{nothing, procedure_types, context_of, IsTypedScope}
use Rattle.gb_typing.specs.Sequents.{AreBinders, of_sequent}
use Rattle.gb_typing.proofs.AbstractModules.{abstract_in_scope, abstract_is, abstract_later}
use Rattle.gb_typing.proofs.Agreed.{resolved, procedure_agrees}
use Rattle.gb_typing.proofs.Declaring.{knows_nothing}
use Rattle.gb_typing.proofs.DeclaredTypes.{goal_types, scope_types}
use Rattle.gb_typing.proofs.Growing.{IsPlaced, Keeps, goal_keeps, keeps_itself, lacked_later, placed, placed_later}
use Rattle.gb_typing.proofs.InScopes.{there, instance_here, plain_here}
use Rattle.gb_typing.proofs.Interfaces.{none_some, same_some}
use Rattle.gb_typing.proofs.ParameterTypes.{plain_there, type_in_scope, type_later}
use Rattle.gb_typing.proofs.Standing.{stands, module_place, standing, declared_place, of_instance}

-- A procedure that is typed in a context, and has its type there.
pub record IsTypedThere (c : Context) (r : ProcRef) (p : Proc) : Type 0 where
  pub typed : IsProcedure c p
  pub type : procedure c r ≡ Some (type_of_procedure p)

-- A context that knows what is declared, and no other module types.
module _ (ds : scope.Declarations) (scoped : IsTypedScope (declared ds)) (c : Context) (keeps : Keeps (context_of (declared ds)) c)
    (types : (n : Name) → c.modules.types n ≡ module_type_of ds n) where
  pub placed_at : (n : Name) (m : Module) (front after : scope.Declarations) → declared ds ≡ declared front ++ (n, concrete_module m) ∷ declared after → IsPlaced (context_of (declared front)) n m c
  placed_at n m front after place =
      placed_later (context_of (declared front)) n m (context_of (declared ds)) c
      (subst (λ z. IsPlaced (context_of (declared front)) n m (context_of z)) (sym place)
      (placed n m (declared after) (declared front) [] nothing (subst IsTypedScope place scoped) knows_nothing (λ h t e. none_some t e)))
      keeps

  -- what is known of a declared module, and of an abstract one
  pub known_there : (n : Name) (i : known.Interface) → interface_of ds None n ≡ Some i → c.modules.interfaces n ≡ Some (resolved c.modules.types i)
  known_there n i e = by_found (entry_of ds n) refl e
    where
      of_found : (m : Module) → module_of ds n ≡ Some m → Some (of_module m) ≡ Some i → c.modules.interfaces n ≡ Some (resolved c.modules.types i)
      of_found m h e =
          let l = stands ds n m h in
          let a = context_of (declared l.front) in
          let p = placed_at n m l.front l.after (module_place ds n m l) in
          there a n m c p ∙ ap (λ ts. Some (record { lacks = ts; procedures = procedure_types m.procs })) (lacked_later a n m c p)
          ∙ ap (λ j. Some (resolved c.modules.types j)) (same_some (of_module m) i e)

      of_abstract : (b : Bind) → entry_of ds n ≡ Some (entry.AbstractModule b) → (o : Option ModuleType) → module_type_of ds b.ty ≡ o → option_map of_type o ≡ Some i →
          c.modules.interfaces n ≡ Some (resolved c.modules.types i)
      of_abstract b h None k e = none_some i e
      of_abstract b h (Some t) k e =
          abstract_is c n b (abstract_later (context_of (declared ds)) c n b keeps (abstract_in_scope ds scoped n b h)) t (types b.ty ∙ k)
          (plain_there c t (type_later (context_of (declared ds)) c t keeps (type_in_scope ds scoped b.ty t k)))
          ∙ ap (λ j. Some (resolved c.modules.types j)) (same_some (of_type t) i e)

      by_entry : (x : Entry) → entry_of ds n ≡ Some x → of_entry ds (Some x) ≡ Some i → c.modules.interfaces n ≡ Some (resolved c.modules.types i)
      by_entry (entry.Module m) h e = of_found m (ap as_module h) e
      by_entry (entry.AbstractModule b) h e = of_abstract b h (module_type_of ds b.ty) refl e
      by_entry _ h e = none_some i e

      by_found : (o : Option Entry) → entry_of ds n ≡ o → of_entry ds o ≡ Some i → c.modules.interfaces n ≡ Some (resolved c.modules.types i)
      by_found None h e = none_some i e
      by_found (Some x) h e = by_entry x h e

  type_there : (r : ProcRef) (p : Proc) → procedure_of ds r ≡ Some p → procedure c r ≡ Some (type_of_procedure p)
  type_there r p e = procedure_agrees ds None c.modules types known_there r (type_of_procedure p) (declared_type ds r p e)

  typed_in : (m : Mexp) (f : Name) (p : Proc) → proc_at ds m f ≡ Some p → procedure c (record { «module» = m; name = f }) ≡ Some (type_of_procedure p) → IsProcedure c p
  typed_in (named n) f p e t =
      let l = standing ds n f p e in
      plain_here (context_of (declared l.front)) n l.found c (placed_at n l.found l.front l.after (declared_place ds n f p l)) f p l.procedure l.alone
  typed_in (Apply' n k args) f p e t =
      let x = of_instance ds n f (mexps_in args) p e in
      let l = stands ds n x.found x.there in
      subst (IsProcedure c) x.is
      (instance_here (context_of (declared l.front)) n x.found c (placed_at n x.found l.front l.after (module_place ds n x.found l)) f x.own x.procedure (Apply' n k args) refl (type_of_procedure p) t)

  there_in : (r : ProcRef) (p : Proc) → procedure_of ds r ≡ Some p → IsTypedThere c r p
  there_in r p e = let t = type_there r p e in record { typed = typed_in r.«module» r.name p e t; type = t }

-- what the context of the scope knows of a declared module
pub known_in_scope : (ds : scope.Declarations) → IsTypedScope (declared ds) → (n : Name) (i : known.Interface) → interface_of ds None n ≡ Some i →
    (context_of (declared ds)).modules.interfaces n ≡ Some (resolved (context_of (declared ds)).modules.types i)
known_in_scope ds scoped n i e = known_there ds scoped (context_of (declared ds)) (keeps_itself (context_of (declared ds))) (scope_types ds scoped) n i e

-- a declared procedure is typed in the context of the scope
pub typed_in_scope : (ds : scope.Declarations) → IsTypedScope (declared ds) → (r : ProcRef) (p : Proc) → procedure_of ds r ≡ Some p → IsTypedThere (context_of (declared ds)) r p
typed_in_scope ds scoped r p e = there_in ds scoped (context_of (declared ds)) (keeps_itself (context_of (declared ds))) (scope_types ds scoped) r p e

-- .. and in that of each goal, with abstract modules too
pub typed_there : (ds : scope.Declarations) → IsTypedScope (declared ds) → (q : Sequent) → AreBinders (context_of (declared ds)) q.modules → (fs : List (List TypedName)) (r : ProcRef) (p : Proc) →
    procedure_of ds r ≡ Some p → IsTypedThere (of_sequent (context_of (declared ds)) q fs) r p
typed_there ds scoped q w fs r p e = there_in ds scoped (of_sequent (context_of (declared ds)) q fs) (goal_keeps (context_of (declared ds)) q fs w) (goal_types ds scoped q fs) r p e
