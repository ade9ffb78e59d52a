-- What references to procedures mean where modules are left open: a procedure of a declared module what its instance is read as; one of an
-- abstract module that of the chosen program, with what its oracles ask.
use Rattle.std.proofs.Common.{◌≡◌, List, [], map, Option, Some, None, option_map, refl, ap, sym, ◌∙◌, subst}
use Rattle.gb_terms.specs.declared.decl.Module.{Module}
use Rattle.gb_terms.specs.declared.decl.Param.{Param}
use Rattle.gb_terms.specs.declared.decl.Proc.{Proc}
use Rattle.gb_terms.specs.declared.module.Bind.{Bind}
use Rattle.gb_terms.specs.declared.module.ProcRef.{ProcRef}
use Rattle.gb_terms.specs.declared.term.Term.{Term}
use Rattle.gb_goal.specs.declared.scope.Entry.TheVariants as entry
use Rattle.gb_goal.specs.Instances.{arguments_of, instance, name_of}
use Rattle.gb_goal.specs.Interfaces.{of_type}
use Rattle.gb_goal.specs.Scope as scope
use Rattle.gb_goal.specs.Scope.{entry_of, module_of, proc_of}
use Rattle.gb_meaning.specs.Names.{Name}
use Rattle.gb_meaning.specs.Program.{Oracle, Routine}
use Rattle.gb_meaning.specs.Setting.{Setting}
use Rattle.gb_meaning.specs.Sound.{FullRoutine}
use Rattle.gb_meaning.specs.Adversary.{callable, or_none, type_named}
use Rattle.gb_meaning.specs.Declared.{Declarations, ModuleType, Signature, declared}
use Rattle.gb_meaning.specs.Linking.{oracle_of}
use Rattle.gb_meaning.specs.Modules.{Applied, Procedures, found, modules_of, no_module, procedure_at}
use Rattle.gb_meaning.specs.Modules as linked_in
use Rattle.gb_meaning.specs.Programs.{AreFull, HasProcedures}
use Rattle.gb_meaning.specs.Settings.{Chosen, Interpretation, setting}
use Rattle.gb_meaning.specs.Typing.{IsTypedRoutine}
use Rattle.gb_meaning.specs.Values.{Global}
use Rattle.gb_typing.specs.Alike.{NameSigned}
use Rattle.gb_typing.specs.Chosen.{IsChosenIf, IsChosenOver, chosen_under}
use Rattle.gb_typing.specs.Context.{Context}
use Rattle.gb_typing.specs.Scopes.{context_of, IsTypedScope}
use Rattle.gb_typing.specs.Sequents.{AreBinders}
use Rattle.gb_typing.proofs.AbstractModules.{abstract_in_scope}
use Rattle.gb_typing.proofs.Agreed.{resolved}
use Rattle.gb_typing.proofs.DeclaredTypes.{declared_type}
use Rattle.gb_typing.proofs.KeptPrograms.{chosen_kept}
use Rattle.gb_typing.proofs.Located.{known_in_scope}
use Rattle.gb_prog.proofs.Oracles.{as_named, callable_asked, callable_named}
use Rattle.gb_prog.proofs.Signed.{IsSigned, signed_there}
use Rattle.gb_prog.proofs.There.{chosen_for}
use Rattle.gb_mods.specs.Asked.{asked_by, asked_for, asked_of, oracles_if}
use Rattle.gb_mods.proofs.Closed.{IsIn}
use Rattle.gb_arguments.specs.Opened.{Callee, linked, open_procedure, over_oracles, relink_routine}
use Rattle.gb_arguments.proofs.Chosen.{open_chosen}
use Rattle.gb_arguments.proofs.Linked.{found_relinked, linked_with}
use Rattle.gb_arguments.specs.Collect.{open_binders, with_open}
use Rattle.gb_arguments.proofs.AbstractThere.{at_module, at_name, gives}
use Rattle.gb_arguments.proofs.AbstractThere as abstract_there
use Rattle.gb_arguments.proofs.Cover.{in_module}
use Rattle.gb_arguments.proofs.OpenChosen.{bottom, open_alike}
use Rattle.gb_arguments.proofs.OpenReads.{open_follows, open_looks}
use Rattle.gb_arguments.proofs.OpenScope.{IsTyped, are_free, declared_read, known_stays, seen as seen_of}

module _ (ds : scope.Declarations) (scoped : IsTypedScope (declared ds)) (qs : List Param) (f0 : Term) (w : AreBinders (context_of (declared ds)) (open_binders qs))
    (signed : (n : Name) (t : ModuleType) → (context_of (declared ds)).modules.types n ≡ Some t → NameSigned (declared ds) t t.signatures)
    (i : Interpretation) (chosen : IsChosenOver (declared ds) i) (v : Param → Procedures Callee) where
  abbrev D : Declarations
  D = declared ds

  abbrev g : Setting
  g = setting D i

  abbrev seen : Context
  seen = seen_of ds scoped qs f0 w

  abbrev pub final : linked_in.Modules Callee
  final = with_open v qs (modules_of open_procedure (bottom D i) D)

  pub declared_open : (r : ProcRef) → IsTyped ds scoped qs f0 w r → (m : Module) → module_of ds (name_of r.«module») ≡ Some m → (p : Proc) → proc_of m.procs r.name ≡ Some p →
      procedure_at final r ≡ Some (open_procedure (procedure_at final) (instance m.params (arguments_of r.«module») p))
  declared_open r t m e p h = declared_read ds scoped qs f0 w open_procedure open_looks open_follows (bottom D i) (open_alike D i scoped chosen) v r t m e p h

  -- A procedure of an abstract module.
  module _ (r : ProcRef) (there : IsTyped ds scoped qs f0 w r) (b : Bind) (e : entry_of ds (name_of r.«module») ≡ Some (entry.AbstractModule b)) where
    abbrev n : Name
    n = name_of r.«module»

    abbrev t : ModuleType
    t = abstract_there.t ds scoped qs f0 w signed r there b e

    abbrev f : Oracle → Option Callee
    f = oracle_of t.params (map (λ m. m []) (gives final r.«module»))

    type_is : scope.module_type_of ds b.ty ≡ Some t
    type_is = abstract_there.type_is ds scoped qs f0 w signed r there b e

    abbrev asked : Oracle → ProcRef
    asked o = asked_of t.params (arguments_of r.«module») (as_named o)

    -- what its oracles ask: procedures that it calls
    pub record AnswersAs (o : Oracle) : Type 0 where
      pub answers : f o ≡ procedure_at final (asked o)
      pub typed : IsTyped ds scoped qs f0 w (asked o)
      pub called : IsIn (asked_by ds (scope.module_type_of ds b.ty) (arguments_of r.«module») r.name) (asked o)

    pub record IsRelinked : Type 0 where
      pub signature : Signature
      pub body : Routine
      pub within : List Global
      pub typed : IsTypedRoutine g (callable D t signature) within body
      pub full : FullRoutine g body
      pub value : procedure_at final r ≡ Some (linked (relink_routine f body))
      pub asks : (o : Oracle) (u : Signature) → callable D t signature o ≡ Some u → AnswersAs o

    module _ (x : Chosen) (q : chosen_under i.programs b.name ≡ Some x) (k : IsChosenIf D i.programs g i.world b (Some x)) where
      name : b.name ≡ n
      name = let y = abstract_in_scope ds scoped n b e in y.name

      under : chosen_under i.programs n ≡ Some x
      under = subst (λ z. chosen_under i.programs z ≡ Some x) name q

      same : type_named D b.ty ≡ t
      same = ap or_none (declared_type ds b.ty ∙ type_is)

      its_module : final n ≡ over_oracles t x.program
      its_module =
          known_stays v (context_of D) qs (are_free (context_of D) qs w) (modules_of open_procedure (bottom D i) D) n _
          (known_in_scope ds scoped n (of_type t) (abstract_there.interface ds scoped qs f0 w signed r there b e))
          ∙ chosen_kept open_procedure i.programs n x under D (bottom D i) chosen.unchosen
          ∙ open_chosen D i.programs (λ k. no_module) n x under
          ∙ ap (λ z. over_oracles z x.program) (ap (λ (z : Bind). type_named D z.ty) k.0 ∙ same)

      its : IsSigned D g t x.program t.signatures r.name
      its =
          signed_there D g t x.program t.signatures
          (subst (λ (z : ModuleType). HasProcedures D g z x.program z.signatures) same (let y = k.1.program in y.procedures))
          (subst (λ (z : ModuleType). AreFull g x.program z.signatures) same k.1.full) r.name there.0
          (in_module seen.modules (resolved seen.modules.types (of_type t)) r.name there.0 r.«module»
          (abstract_there.known ds scoped qs f0 w signed r there b e) there.1)

      asks : (o : Oracle) (u : Signature) → callable D t its.signature o ≡ Some u → AnswersAs o
      asks o u c =
          let a = at_module ds scoped qs f0 w signed r there b e final r.«module» refl there.0 there.1 o u (callable_named ds t its.signature o u c).1 in
          record {
            answers = a.1;
            typed = a.0;
            called = subst (λ z. IsIn z (asked o))
                (sym (ap (λ z. asked_by ds z (arguments_of r.«module») r.name) type_is ∙ ap (λ z. asked_for t.params (arguments_of r.«module») (oracles_if ds t.params z)) its.named_so))
                (callable_asked ds t its.signature o u c (arguments_of r.«module»));
          }

      is_relinked : IsRelinked
      is_relinked = record {
        signature = its.signature;
        body = its.body;
        within = let a = x.program in a.footprint;
        typed = its.typed;
        full = its.full;
        value = at_name final r ∙ ap (λ (z : Applied Callee). found (z (gives final r.«module»)) r.name) its_module ∙ found_relinked f x.program.procedures r.name ∙ ap (option_map (linked_with f)) its.there;
        asks = asks;
      }

    pub abstract_open : IsRelinked
    abstract_open = by_choice (chosen_under i.programs b.name) refl (chosen_for D i ds chosen.chosen n b e)
      where
        by_choice : (o : Option Chosen) → chosen_under i.programs b.name ≡ o → IsChosenIf D i.programs g i.world b o → IsRelinked
        by_choice None q k = absurd k
        by_choice (Some x) q k = is_relinked x q k
