-- In the settings of goals, a procedure of a declared module with arguments is the body of its instance.
use Rattle.std.proofs.Common.{◌≡◌, Bool, true, false, if◌then◌else◌, List, [], ◌∷◌, Some, bytes_eq, refl, ap, sym, ◌∙◌}
use Rattle.gb_terms.specs.declared.decl.Module.{Module}
use Rattle.gb_terms.specs.declared.decl.Proc.{Proc}
use Rattle.gb_terms.specs.declared.decl.TypedName.{TypedName}
use Rattle.gb_terms.specs.declared.module.Bind.{Bind}
use Rattle.gb_terms.specs.declared.module.ProcRef.{ProcRef}
use Rattle.gb_goal.specs.declared.sequent.Sequent.{Sequent}
use Rattle.gb_goal.specs.Scope.{proc_of}
use Rattle.gb_meaning.specs.Commands.{statements}
use Rattle.gb_meaning.specs.Names.{Name}
use Rattle.gb_meaning.specs.Program.Routine.{routine}
use Rattle.gb_meaning.specs.Setting.{Setting}
use Rattle.gb_meaning.specs.Declared.{Declarations, module_named}
use Rattle.gb_meaning.specs.Linking.{linked_procedure}
use Rattle.gb_meaning.specs.Modules.{no_module}
use Rattle.gb_meaning.specs.Settings.{Interpretation, types_of, bare, with_operators, with_abstract_programs, linked_modules, setting}
use Rattle.gb_typing.specs.Chosen.{AreUnchosen}
use Rattle.gb_typing.specs.Context.{Context, procedure}
use Rattle.gb_typing.specs.Formulas.{with_module as with_bound}
use Rattle.gb_typing.specs.Modules.{ProcedureType, Interface, functor_type, of_functor_type}
use Rattle.gb_typing.specs.Scopes.{context_of, IsTypedScope}
use Rattle.gb_typing.specs.Sequents.{AreBinders, with_modules, of_sequent}
use Rattle.gb_typing.proofs.ModulesAlike.{linking-looks}
use Rattle.gb_typing.proofs.Scripts.{none_some, same_name}
use Rattle.gb_goal.specs.Instances.{arguments_of, instance, name_of}
use Rattle.gb_typing.specs.Alike.{AreClosed}
use Rattle.gb_typing.proofs.Follows.{linking_follows}
use Rattle.gb_typing.proofs.KeptPrograms.{linked_is}
use Rattle.gb_typing.proofs.LinkedInstances.{instance_read}

module _ (ds : Declarations) (scoped : IsTypedScope ds) (i : Interpretation) (unchosen : AreUnchosen i.programs ds) where
  abbrev h : Setting
  h = with_operators i.table (bare (types_of ds i) i.table) ds

  pub instance_runs : (c : Context) → ((k : Name) (j : Interface) → (context_of ds).modules.interfaces k ≡ Some j → c.modules.interfaces k ≡ Some j) →
      AreClosed c.modules (linked_modules ds h i.programs) →
      (r : ProcRef) (t : ProcedureType) → procedure c r ≡ Some t → (m : Module) → module_named ds (name_of r.«module») ≡ Some m →
      (p : Proc) → proc_of m.procs r.name ≡ Some p →
      (setting ds i).procedure r
      ≡ Some (routine p.params p.locals (statements (setting ds i) (let q : Proc = instance m.params (arguments_of r.«module») p in q.body.list)) p.value)
  instance_runs c more all r t there m e p f =
      instance_read (linked_procedure h) (linking-looks h) (with_abstract_programs ds i.programs (λ n. no_module)) ds (linked_modules ds h i.programs) c all scoped
      (λ n j e. linked_is ds h i.programs unchosen n) more (linking_follows h) r t there m e p f

-- the modules that a goal binds hide none of the scope
binders_keep : (bs : List Bind) (c : Context) → AreBinders c bs → (k : Name) (j : Interface) → c.modules.interfaces k ≡ Some j → (with_modules c bs).modules.interfaces k ≡ Some j
binders_keep [] c w k j e = e
binders_keep (b ∷ bs) c w k j e = binders_keep bs (with_bound c b) w.1 k j (step (bytes_eq k b.name) refl)
  where
    step : (x : Bool) → bytes_eq k b.name ≡ x → (if x then Some (of_functor_type (functor_type c.modules.types (c.modules.types b.ty))) else c.modules.interfaces k) ≡ Some j
    step true q = let v = w.0 in none_some j (sym (ap c.modules.interfaces (same_name k b.name q) ∙ v.free) ∙ e)
    step false q = e

pub seen_in_goals : (ds : Declarations) (q : Sequent) (fs : List (List TypedName)) → AreBinders (context_of ds) q.modules → (k : Name) (j : Interface) →
    (context_of ds).modules.interfaces k ≡ Some j → (of_sequent (context_of ds) q fs).modules.interfaces k ≡ Some j
seen_in_goals ds q fs w k j e = binders_keep q.modules (context_of ds) w k j e
