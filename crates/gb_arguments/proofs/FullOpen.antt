-- A procedure that is known to lose no weight means one that loses none but by its oracles, beside modules that are left open.
use Rattle.std.proofs.Common.{◌≡◌, inl, inr, ℕ, zero, suc, Bool, true, false, if◌then◌else◌, List, [], ◌∷◌, Option, Some, None, option_map, refl, ap, sym, ◌∙◌, subst}
use Rattle.std.proofs.lemmas.Bool.{false≢true}
use Rattle.std.proofs.lemmas.Option.{none-some}
use Rattle.gb_terms.specs.declared.decl.Module.{Module}
use Rattle.gb_terms.specs.declared.decl.Param.{Param}
use Rattle.gb_terms.specs.declared.decl.Proc.{Proc}
use Rattle.gb_terms.specs.declared.module.Bind.{Bind}
use Rattle.gb_terms.specs.declared.module.Mexp.{Mexp}
use Rattle.gb_terms.specs.declared.module.Mexp.TheVariants.{Name as named, Apply'}
use Rattle.gb_terms.specs.declared.module.ProcRef.{ProcRef}
use Rattle.gb_terms.specs.declared.term.Term.{Term}
use Rattle.gb_goal.specs.declared.scope.Entry.{Entry}
use Rattle.gb_goal.specs.declared.scope.Entry.TheVariants as entry
use Rattle.gb_goal.specs.Instances.{arguments_of, instance, name_of}
use Rattle.gb_goal.specs.Interfaces.{interface_of, of_entry, of_module}
use Rattle.gb_goal.specs.Scope as scope
use Rattle.gb_goal.specs.Scope.{as_module, entry_of, module_of, proc_of}
use Rattle.gb_meaning.specs.Drawn.{OperatorsDraw}
use Rattle.gb_meaning.specs.Names.{Name}
use Rattle.gb_meaning.specs.Setting.{Setting}
use Rattle.gb_meaning.specs.Declared.{Declarations, ModuleType, declared}
use Rattle.gb_meaning.specs.Modules.{Procedures, found, module_at, modules_of, procedure_at}
use Rattle.gb_meaning.specs.Modules as linked_in
use Rattle.gb_meaning.specs.Settings.{Interpretation, setting}
use Rattle.gb_laws.specs.Context as laws
use Rattle.gb_laws.specs.Typing.{OperatorType}
use Rattle.gb_typing.specs.Alike.{NameSigned}
use Rattle.gb_typing.specs.Chosen.{IsChosenOver}
use Rattle.gb_typing.specs.Context.{Context, erased}
use Rattle.gb_typing.specs.Formulas.{with_module as with_bound}
use Rattle.gb_typing.specs.Modules.{given, interface_at, interfaces_at, procedure_of}
use Rattle.gb_typing.specs.Programs.{locals_of}
use Rattle.gb_typing.specs.Scopes.{context_of, IsTypedScope}
use Rattle.gb_typing.specs.Sequents.{AreBinders, with_modules}
use Rattle.gb_typing.proofs.Agreed.{resolved}
use Rattle.gb_typing.proofs.DeclaredProcedures.{names_are}
use Rattle.gb_typing.proofs.DeclaredTypes.{goal_types}
use Rattle.gb_typing.proofs.Growing.{goal_keeps}
use Rattle.gb_typing.proofs.Located.{known_there}
use Rattle.gb_mods.specs.Asked.{asked_by}
use Rattle.gb_mods.specs.Called.{same_procedure}
use Rattle.gb_mods.proofs.Closed.{IsIn, procedure_same}
use Rattle.gb_full.specs.Loss.{Losses, Reached, full_operators, known_of, nowhere, oracles_loss, procedure_loss, round, rounds}
use Rattle.gb_full.proofs.Operators.{AreFullOperators, scope_full}
use Rattle.gb_arguments.specs.Opened.{Callee, open_procedure}
use Rattle.gb_arguments.specs.Collect.{open_binders}
use Rattle.gb_instances.specs.Lossless.{declared_if, each_meant, meant_among, meant_at, meant_of}
use Rattle.gb_arguments.proofs.AbstractThere.{at_name, gives}
use Rattle.gb_arguments.proofs.Cover.{IsOpen, by, in_module, open_or, proc_there}
use Rattle.gb_arguments.proofs.FullStatements.{FullCallee, both_nowhere, each_full, is_nowhere, relinked_routine_full}
use Rattle.gb_arguments.proofs.OpenChosen.{bottom}
use Rattle.gb_arguments.proofs.OpenProcedures.{abstract_open, declared_open, final as final_of}
use Rattle.gb_arguments.proofs.OpenScope.{IsTyped, instance_typed, open_goal, seen as seen_of}

-- What is known of procedures.

module _ (ds : scope.Declarations) where
  abbrev pub full : List Name
  full = full_operators ds

  -- each stands with what it stands for
  abbrev pub AreMeant : Reached → Type 0
  AreMeant [] = Unit {0}
  AreMeant (f ∷ fs) = (meant_at ds f.0 ≡ f.1) × AreMeant fs

  each_are : (rs : List ProcRef) → AreMeant (each_meant ds rs)
  each_are [] = tt
  each_are (r ∷ rs) = (refl, each_are rs)

  pub all_are : (o : Option (List ProcRef)) → AreMeant (meant_among ds o)
  all_are None = tt
  all_are (Some rs) = each_are rs

  round_known : (ks : Losses) (fs : Reached) → AreMeant fs → (p : ProcRef) → known_of (round ds full ks fs) p ≡ nowhere → procedure_loss ds full ks (meant_at ds p) ≡ nowhere
  round_known ks [] h p e = absurd (false≢true (ap is_nowhere e))
  round_known ks (f ∷ fs) h p e = step (same_procedure f.0 p) refl e (round_known ks fs h.1 p)
    where
      step : (b : Bool) → same_procedure f.0 p ≡ b → (if b then procedure_loss ds full ks f.1 else known_of (round ds full ks fs) p) ≡ nowhere →
          (known_of (round ds full ks fs) p ≡ nowhere → procedure_loss ds full ks (meant_at ds p) ≡ nowhere) → procedure_loss ds full ks (meant_at ds p) ≡ nowhere
      step true g k go = subst (λ q. procedure_loss ds full ks (meant_at ds q) ≡ nowhere) (procedure_same f.0 p g) (ap (procedure_loss ds full ks) h.0 ∙ k)
      step false g k go = go k

oracles_known : (ks : Losses) (qs : List ProcRef) → oracles_loss ks qs ≡ nowhere → (q : ProcRef) → IsIn qs q → known_of ks q ≡ nowhere
oracles_known ks [] e q i = absurd i
oracles_known ks (p ∷ qs) e q (inl h) = subst (λ z. known_of ks z ≡ nowhere) h (both_nowhere (known_of ks p) (oracles_loss ks qs) e).0
oracles_known ks (p ∷ qs) e q (inr i) = oracles_known ks qs (both_nowhere (known_of ks p) (oracles_loss ks qs) e).1 q i

modules_leave : (bs : List Bind) (c : Context) → (with_modules c bs).operator ≡ c.operator
modules_leave [] c = refl
modules_leave (b ∷ bs) c = modules_leave bs (with_bound c b)

-- Beside modules that are left open.

module _ (ds : scope.Declarations) (scoped : IsTypedScope (declared ds)) (qs : List Param) (f0 : Term) (w : AreBinders (context_of (declared ds)) (open_binders qs))
    (signed : (n : Name) (t : ModuleType) → (context_of (declared ds)).modules.types n ≡ Some t → NameSigned (declared ds) t t.signatures)
    (i : Interpretation) (chosen : IsChosenOver (declared ds) i) (fits : laws.IsSettingOf (erased (context_of (declared ds))) (setting (declared ds) i))
    (v : Param → Procedures Callee) (asks : (q : Param) (f : Name) → FullCallee (setting (declared ds) i) (found (v q) f)) where
  abbrev D : Declarations
  D = declared ds

  abbrev g : Setting
  g = setting D i

  abbrev seen : Context
  seen = seen_of ds scoped qs f0 w

  abbrev final : linked_in.Modules Callee
  final = final_of ds scoped qs f0 w signed i chosen v

  abbrev IsThere : ProcRef → Type 0
  IsThere r = IsTyped ds scoped qs f0 w r

  leave : seen.operator ≡ (context_of D).operator
  leave = modules_leave (open_binders qs) (context_of D)

  fitting : laws.IsSettingOf (erased seen) g
  fitting = record {
    inhabited = fits.inhabited;
    operators = λ n o e. fits.operators n o (ap (λ f. f n) (sym leave) ∙ e);
    distributions = subst (λ (f : Name → Option OperatorType). OperatorsDraw g (record { restricts = true; operators = λ n. laws.gives_distributions (f n) })) (sym leave) fits.distributions;
  }

  operators : AreFullOperators ds g seen
  operators = scope_full ds scoped (open_goal f0 qs) [] g fitting (record { interpretation = i; chosen = chosen; meant = refl })

  -- One round is right by the one before.
  module _ (ks : Losses) (known : (p : ProcRef) → IsThere p → known_of ks p ≡ nowhere → FullCallee g (procedure_at final p)) (r : ProcRef) (t : IsThere r)
      (lost : procedure_loss ds (full ds) ks (meant_at ds r) ≡ nowhere) where
    abbrev n : Name
    n = name_of r.«module»

    of_declared : (m : Module) → entry_of ds n ≡ Some (entry.Module m) → FullCallee g (procedure_at final r)
    of_declared m e =
        subst (FullCallee g) (sym (declared_open ds scoped qs f0 w signed i chosen v r t m (ap as_module e) there.0 there.1))
        (each_full ds seen g fitting operators ks (procedure_at final) (λ q u h k. known q (u, h) k) (locals_of inst) inst.body.list
        (let x = instance_typed ds scoped qs f0 w r t m (ap as_module e) there.0 there.1 in let y = x.body in y.statements)
        (subst (λ z. procedure_loss ds (full ds) ks z ≡ nowhere) (ap (meant_of ds r) e ∙ ap (declared_if m.params (arguments_of r.«module»)) there.1) lost))
      where
        there : (p : Proc) × (proc_of m.procs r.name ≡ Some p)
        there =
            proc_there m.procs r.name t.0
            (in_module seen.modules (resolved seen.modules.types (of_module m)) r.name t.0 r.«module»
            (known_there ds scoped seen (goal_keeps (context_of D) (open_goal f0 qs) [] w) (λ k. goal_types ds scoped (open_goal f0 qs) [] k) n (of_module m) (ap (of_entry ds) e)) t.1)

        inst : Proc
        inst = instance m.params (arguments_of r.«module») there.0

    of_abstract : (b : Bind) → entry_of ds n ≡ Some (entry.AbstractModule b) → FullCallee g (procedure_at final r)
    of_abstract b e =
        let x = abstract_open ds scoped qs f0 w signed i chosen v r t b e in
        subst (FullCallee g) (sym x.value)
        (relinked_routine_full g _ _
        (λ o u c. let a = x.asks o u c in
        subst (FullCallee g) (sym a.answers)
        (known _ a.typed
        (oracles_known ks (asked_by ds (scope.module_type_of ds b.ty) (arguments_of r.«module») r.name) (subst (λ z. procedure_loss ds (full ds) ks z ≡ nowhere) (ap (meant_of ds r) e) lost) _ a.called)))
        x.within x.body x.typed x.full)

    -- a name under which no module is declared is that of one which is left open
    unknown : interface_of ds None n ≡ None → seen.modules.interfaces n ≡ (context_of D).modules.interfaces n → ⊥
    unknown e s = at_module r.«module» (s ∙ names_are ds scoped n ∙ ap (option_map (resolved (context_of D).modules.types)) e) t.1
      where
        at_module : (m : Mexp) → seen.modules.interfaces (name_of m) ≡ None → procedure_of (interface_at seen.modules m) r.name ≡ Some t.0 → ⊥
        at_module (named k) q h = absurd (none-some t.0 (sym (ap (λ o. procedure_of o r.name) q) ∙ h))
        at_module (Apply' k j args) q h = absurd (none-some t.0 (sym (ap (λ o. procedure_of (given o (interfaces_at seen.modules args)) r.name) q) ∙ h))

    of_other : interface_of ds None n ≡ None → FullCallee g (procedure_at final r)
    of_other e = by (λ o. is_open o) (λ s. absurd (unknown e s)) (open_or v (modules_of open_procedure (bottom D i) D) (context_of D) qs n)
      where
        is_open : IsOpen v qs final n → FullCallee g (procedure_at final r)
        is_open o = subst (FullCallee g) (sym (at_name final r ∙ o.is r.name (gives final r.«module»))) (asks o.param r.name)

    one_more : FullCallee g (procedure_at final r)
    one_more = by_found (entry_of ds n) refl
      where
        by_entry : (x : Entry) → entry_of ds n ≡ Some x → FullCallee g (procedure_at final r)
        by_entry (entry.Module m) e = of_declared m e
        by_entry (entry.AbstractModule b) e = of_abstract b e
        by_entry (entry.Lemma s bs) e = of_other (ap (of_entry ds) e)
        by_entry (entry.Type u) e = of_other (ap (of_entry ds) e)
        by_entry entry.AbstractType e = of_other (ap (of_entry ds) e)
        by_entry (entry.Constant u) e = of_other (ap (of_entry ds) e)
        by_entry (entry.Operator u) e = of_other (ap (of_entry ds) e)
        by_entry (entry.ModuleType u) e = of_other (ap (of_entry ds) e)
        by_entry (entry.AbstractOperator u) e = of_other (ap (of_entry ds) e)
        by_entry (entry.Terminating u) e = of_other (ap (of_entry ds) e)

        by_found : (o : Option Entry) → entry_of ds n ≡ o → FullCallee g (procedure_at final r)
        by_found None e = of_other (ap (of_entry ds) e)
        by_found (Some x) e = by_entry x e

  pub known_full : (fs : Reached) → AreMeant ds fs → (n : ℕ) (r : ProcRef) → IsThere r → known_of (rounds ds (full ds) n fs) r ≡ nowhere → FullCallee g (procedure_at final r)
  known_full fs h zero r t e = absurd (false≢true (ap is_nowhere e))
  known_full fs h (suc n) r t e = one_more (rounds ds (full ds) n fs) (known_full fs h n) r t (round_known ds (rounds ds (full ds) n fs) fs h r e)
