-- The footprint of a module in the meaning, with its parameters open, has the variables of the footprint that is computed of it alone.
use Rattle.std.proofs.Common.{◌≡◌, ◌⊎◌, inl, inr, Bool, true, false, if◌then◌else◌, List, [], ◌∷◌, ◌++◌, map, Option, Some, None, option_map, bytes_eq, refl, ap, sym, ◌∙◌, subst}
use Rattle.std.proofs.Math.Path.{fun_ext}
use Rattle.std.proofs.lemmas.List.{append_assoc, append-nil}
use Rattle.std.proofs.lemmas.Option.{none-some, same_Some}
use Rattle.std.proofs.lemmas.Slice.Eq.{bytes_eq-Decides}
use Rattle.gb_core.specs.declared.var.Var.{Var}
use Rattle.gb_core.specs.declared.var.Var.TheVariants.{Glob}
use Rattle.gb_terms.specs.declared.decl.Module.{Module}
use Rattle.gb_terms.specs.declared.decl.Param.{Param}
use Rattle.gb_terms.specs.declared.decl.Proc.{Proc}
use Rattle.gb_terms.specs.declared.module.Bind.{Bind}
use Rattle.gb_goal.specs.declared.scope.Entry.{Entry}
use Rattle.gb_goal.specs.declared.scope.Entry.TheVariants as entry
use Rattle.gb_goal.specs.Interfaces.{Interface, ProcedureType, interface_of, of_entry, of_module, of_type, procedure_types, signature_types, type_of_procedure}
use Rattle.gb_goal.specs.Scope as scope
use Rattle.gb_goal.specs.Scope.{as_module, entry_of, module_of, proc_of}
use Rattle.gb_meaning.specs.Names.{Name}
use Rattle.gb_meaning.specs.Program.{Oracle}
use Rattle.gb_meaning.specs.Adversary.{abstract_footprint, oracle_footprints, oracles_called, or_none, signature_footprints, type_named}
use Rattle.gb_meaning.specs.Declared.{Declarations, ModuleType, Signature, concrete_module, declared}
use Rattle.gb_meaning.specs.Footprints.{footprint_read, of_all, of_callee}
use Rattle.gb_meaning.specs.Linking.{oracle_of}
use Rattle.gb_meaning.specs.Modules.{Applied, Functor, Procedures, argument, closed, found, module_at, module_read, modules_of, no_module, procedure_at, with_module, with_params, with_procedure, with_procedures}
use Rattle.gb_meaning.specs.Modules as linked
use Rattle.gb_meaning.specs.Naming.{IsFreshAmong}
use Rattle.gb_meaning.specs.Settings.{Chosen, Interpretation, footprints, setting, with_abstract_footprints}
use Rattle.gb_meaning.proofs.Procedures.{in_module}
use Rattle.gb_typing.specs.Chosen.{IsChosenIf, IsChosenOver, chosen_under}
use Rattle.gb_typing.specs.Context.{Context}
use Rattle.gb_typing.specs.Modules.{Modules}
use Rattle.gb_typing.specs.Scopes.{AreProcedures, AreSignatures, context_of, IsTypedScope}
use Rattle.gb_typing.proofs.AbstractModules.{abstract_in_scope}
use Rattle.gb_typing.proofs.ClosedSettings.{chosen_footprint, touched_is}
use Rattle.gb_typing.proofs.DeclaredTypes.{declared_type}
use Rattle.gb_typing.proofs.InScopes.{found_first}
use Rattle.gb_typing.proofs.Known.{env, modules_here, typed_here}
use Rattle.gb_typing.proofs.KeptPrograms.{chosen_kept}
use Rattle.gb_typing.proofs.ParameterTypes.{type_in_scope}
use Rattle.gb_typing.proofs.Programs.{found_type}
use Rattle.gb_typing.proofs.Standing.{module_place, stands}
use Rattle.gb_prog.proofs.There.{chosen_for}
use Rattle.gb_arguments.proofs.FootprintMembers.{either, has_behind, has_either, has_front}
use Rattle.gb_arguments.proofs.Members.{Has}

-- Arguments without procedures are as good as none.

abbrev pub empties : {X : Type 0} → List Param → List (Functor X)
empties qs = map (λ q. closed []) qs

module _ {X : Type 0} (ms : linked.Modules X) where
  extra_params : (ps : List Param) (fs : List (Functor X)) (qs : List Param) → with_params ms ps (fs ++ empties qs) ≡ with_params ms ps fs
  extra_params [] fs qs = refl
  extra_params (p ∷ ps) (f ∷ fs) qs = λ i. with_module (extra_params ps fs qs i) p.name (argument f)
  extra_params (p ∷ ps) [] [] = refl
  extra_params (p ∷ ps) [] (q ∷ qs) = λ i. with_module (extra_params ps [] qs i) p.name no_module

pub extra_procedures : {X : Type 0} (read : linked.Reading X) (ms : linked.Modules X) (m : Module) (fs : List (Functor X)) (qs : List Param) (e : Applied X) → e (fs ++ empties qs) ≡ e fs → (ps : List Proc) →
    with_procedures read ms m e ps (fs ++ empties qs) ≡ with_procedures read ms m e ps fs
extra_procedures read ms m fs qs e h [] = h
extra_procedures read ms m fs qs e h (p ∷ ps) =
    extra_procedures read ms m fs qs (with_procedure read ms m e p)
    (λ i. h i ++ (p.name, read (procedure_at (extra_params (with_module ms m.name e) m.params fs qs i)) p) ∷ []) ps

extra_oracles : (ps : List Param) (fs : List (Functor (List Var))) (qs : List Param) (o : Oracle) → oracle_of ps (map (λ m. m []) (fs ++ empties qs)) o ≡ oracle_of ps (map (λ m. m []) fs) o
extra_oracles [] fs qs o = refl
extra_oracles (p ∷ ps) (f ∷ fs) qs o = λ i. if bytes_eq o.parameter p.name then found (f []) o.name else extra_oracles ps fs qs o i
extra_oracles (p ∷ ps) [] [] o = refl
extra_oracles (p ∷ ps) [] (q ∷ qs) o = step (bytes_eq o.parameter p.name) (extra_oracles ps [] qs o)
  where
    nothing_there : (ps : List Param) → oracle_of {X = List Var} ps [] o ≡ None
    nothing_there [] = refl
    nothing_there (p ∷ ps) = refl

    none : Option (List Var)
    none = None

    step : (b : Bool) → oracle_of {X = List Var} ps (map (λ m. m []) (empties qs)) o ≡ oracle_of {X = List Var} ps [] o → (if b then none else oracle_of {X = List Var} ps (map (λ m. m []) (empties qs)) o) ≡ none
    step true h = refl
    step false h = h ∙ nothing_there ps

-- The procedures of a declared module.

fresh_types : (xs : Procedures ProcedureType) (ps : List Proc) (n : Name) → found (xs ++ procedure_types ps) n ≡ None → IsFreshAmong ps n
fresh_types [] [] n e = tt
fresh_types [] (p ∷ ps) n e = step (bytes_eq n p.name) refl (fresh_types [] ps n) e
  where
    step : (b : Bool) → bytes_eq n p.name ≡ b → (found (procedure_types ps) n ≡ None → IsFreshAmong ps n) → (if b then Some (type_of_procedure p) else found (procedure_types ps) n) ≡ None → (bytes_eq n p.name ≡ false) × IsFreshAmong ps n
    step true q go f = absurd (none-some _ (sym f))
    step false q go f = (q, go f)
fresh_types (x ∷ xs) ps n e = step (bytes_eq n x.0) (fresh_types xs ps n) e
  where
    step : (b : Bool) → (found (xs ++ procedure_types ps) n ≡ None → IsFreshAmong ps n) → (if b then Some x.1 else found (xs ++ procedure_types ps) n) ≡ None → IsFreshAmong ps n
    step true go f = absurd (none-some _ (sym f))
    step false go f = go f

fresh_at : (c : Context) (m : Module) (earlier : Procedures ProcedureType) (front : List Proc) (p : Proc) (after : List Proc) → AreProcedures c m earlier (front ++ p ∷ after) →
    found (earlier ++ procedure_types front) p.name ≡ None
fresh_at c m earlier [] p after w = subst (λ xs. found xs p.name ≡ None) (sym (append-nil earlier)) w.0
fresh_at c m earlier (x ∷ front) p after w =
    subst (λ xs. found xs p.name ≡ None) (append_assoc earlier ((x.name, type_of_procedure x) ∷ []) (procedure_types front)) (fresh_at c m (earlier ++ (x.name, type_of_procedure x) ∷ []) front p after w.2)

first_is : (front : List Proc) (p : Proc) (after : List Proc) → IsFreshAmong front p.name → proc_of (front ++ p ∷ after) p.name ≡ Some p
first_is [] p after f = ap (λ (b : Bool). if b then Some p else proc_of after p.name) ((bytes_eq-Decides p.name p.name).1 refl)
first_is (x ∷ front) p after f = ap (λ (b : Bool). if b then Some x else proc_of (front ++ p ∷ after) p.name) f.0 ∙ first_is front p after f.1

of_all_either : (xs : Procedures (List Var)) (n : Name) (v : List Var) (z : Var) → Has (of_all (xs ++ (n, v) ∷ [])) z → Has (of_all xs) z ⊎ Has v z
of_all_either [] n v z h = either (λ k. inr k) (λ k. absurd k) (has_either v [] z h)
of_all_either (x ∷ xs) n v z h =
    either (λ k. inl (has_front x.1 (of_all xs) z k)) (λ k. either (λ j. inl (has_behind x.1 (of_all xs) z j)) (λ j. inr j) (of_all_either xs n v z k)) (has_either x.1 (of_all (xs ++ (n, v) ∷ [])) z h)

-- a procedure of these types that has a variable
abbrev pub HasSome : Procedures ProcedureType → Procedures (List Var) → Var → Type 0
HasSome ts xs z = (f : Name) × ((u : ProcedureType) × (found ts f ≡ Some u)) × Has (of_callee (found xs f)) z

module _ (args : List (Functor (List Var))) where
  record EntryOf (ms : linked.Modules (List Var)) (m : Module) (e : Applied (List Var)) (ps : List Proc) (z : Var) : Type 0 where
    front : List Proc
    proc : Proc
    after : List Proc
    place : ps ≡ front ++ proc ∷ after
    has : Has (footprint_read (procedure_at (with_params (with_module ms m.name (with_procedures footprint_read ms m e front)) m.params args)) proc) z

  entry_at : (ms : linked.Modules (List Var)) (m : Module) (e : Applied (List Var)) (ps : List Proc) (z : Var) → Has (of_all (with_procedures footprint_read ms m e ps args)) z →
      Has (of_all (e args)) z ⊎ EntryOf ms m e ps z
  entry_at ms m e [] z h = inl h
  entry_at ms m e (p ∷ ps) z h =
      either
      (λ k. either (λ j. inl j) (λ j. inr (record { front = []; proc = p; after = ps; place = refl; has = j }))
      (of_all_either (e args) p.name (footprint_read (procedure_at (with_params (with_module ms m.name e) m.params args)) p) z k))
      (λ x. inr (record { front = p ∷ x.front; proc = x.proc; after = x.after; place = ap (λ l. p ∷ l) x.place; has = x.has }))
      (entry_at ms m (with_procedure footprint_read ms m e p) ps z h)

  pub in_declared : (ms : linked.Modules (List Var)) (c : Context) (m : Module) → AreProcedures c m [] m.procs → (z : Var) → Has (of_all (module_read footprint_read ms m args)) z →
      HasSome (procedure_types m.procs) (module_read footprint_read ms m args) z
  in_declared ms c m w z h =
      either (λ n. absurd n)
      (λ x. let fresh = fresh_types [] x.front x.proc.name (fresh_at c m [] x.front x.proc x.after (subst (AreProcedures c m []) x.place w)) in (
        x.proc.name,
        (type_of_procedure x.proc, found_first m.procs x.proc.name x.proc (subst (λ ps. proc_of ps x.proc.name ≡ Some x.proc) (sym x.place) (first_is x.front x.proc x.after fresh))),
        subst (λ o. Has (of_callee o) z) (sym (in_module footprint_read ms m x.front x.after x.proc x.place fresh args)) x.has,
      ))
      (entry_at ms m no_module m.procs z h)

-- .. of an abstract module

in_signed : (D : Declarations) (a : Name) (t : ModuleType) (os : Oracle → Option (List Var)) (ms : Modules) (ss : List Signature) → AreSignatures ms t.params ss → (z : Var) →
    Has (of_all (signature_footprints D a t os ss)) z → HasSome (signature_types ss) (signature_footprints D a t os ss) z
in_signed D a t os ms [] w z h = absurd h
in_signed D a t os ms (s ∷ ss) w z h =
    either
    (λ k. (
      s.name,
      (record { params = s.params; result = s.result }, ap (λ (b : Bool). if b then Some (record { params = s.params; result = s.result }) else found (signature_types ss) s.name) itself),
      subst (λ (b : Bool). Has (of_callee (if b then Some here else found (signature_footprints D a t os ss) s.name)) z) (sym itself) k,
    ))
    (λ k. later (in_signed D a t os ms ss w.2 z k)) (has_either here (of_all (signature_footprints D a t os ss)) z h)
  where
    here : List Var
    here = Glob a ∷ oracle_footprints os (oracles_called D t s)

    itself : bytes_eq s.name s.name ≡ true
    itself = (bytes_eq-Decides s.name s.name).1 refl

    other : (f : Name) (u : ProcedureType) → found (signature_types ss) f ≡ Some u → (b : Bool) → bytes_eq f s.name ≡ b → b ≡ false
    other f u e true q =
        absurd (none-some u (sym (found_type ss s.name ∙ ap (option_map (λ x. record { params = x.params; result = x.result })) w.1)
        ∙ ap (found (signature_types ss)) (sym ((bytes_eq-Decides f s.name).0 q)) ∙ e))
    other f u e false q = refl

    later : HasSome (signature_types ss) (signature_footprints D a t os ss) z → HasSome (signature_types (s ∷ ss)) (signature_footprints D a t os (s ∷ ss)) z
    later x =
        let n = other x.0 x.1.0 x.1.1 (bytes_eq x.0 s.name) refl in (
          x.0,
          (x.1.0, ap (λ (b : Bool). if b then Some (record { params = s.params; result = s.result }) else found (signature_types ss) x.0) n ∙ x.1.1),
          subst (λ (b : Bool). Has (of_callee (if b then Some here else found (signature_footprints D a t os ss) x.0)) z) (sym n) x.2,
        )

-- What a name stands for.

module _ (ds : scope.Declarations) (scoped : IsTypedScope (declared ds)) (i : Interpretation) (chosen : IsChosenOver (declared ds) i) where
  abbrev D : Declarations
  D = declared ds

  abbrev fps : linked.Modules (List Var)
  fps = footprints D i.programs

  abbrev base : linked.Modules (List Var)
  base = with_abstract_footprints D i.programs (λ n. no_module)

  -- where nothing is given for what it lacks, and what its procedures have together
  pub record StandsWell (n : Name) (k : Interface) : Type 0 where
    pub extra : (fs : List (Functor (List Var))) (qs : List Param) → fps n (fs ++ empties qs) ≡ fps n fs
    pub together : (fs : List (Functor (List Var))) (z : Var) → Has (of_all (fps n fs)) z → HasSome k.procedures (fps n fs) z

  of_declared : (n : Name) (m : Module) → module_of ds n ≡ Some m → StandsWell n (of_module m)
  of_declared n m e =
      let l = stands ds n m e in
      let before = declared l.front in
      let after = declared l.after in
      let place : D ≡ before ++ (n, concrete_module m) ∷ after = module_place ds n m l in
      let whole : IsTypedScope (before ++ (n, concrete_module m) ∷ after) = subst IsTypedScope place scoped in
      let es = env before after n m whole footprint_read base in
      let is : fps n ≡ module_read footprint_read es m =
      touched_is D i.programs chosen.unchosen n ∙ ap (λ z. modules_of footprint_read base z n) place ∙ modules_here before after n m whole footprint_read base in
      record {
        extra = λ fs qs. (λ j. is j (fs ++ empties qs)) ∙ extra_procedures footprint_read es m fs qs no_module refl m.procs ∙ (λ j. sym is j fs);
        together = λ fs z h. subst (λ (a : Applied (List Var)). HasSome (procedure_types m.procs) (a fs) z) (sym is)
            (in_declared fs es (context_of before) m (let w = typed_here before after n m whole in w.procs) z (subst (λ (a : Applied (List Var)). Has (of_all (a fs)) z) is h));
      }

  of_abstract : (n : Name) (b : Bind) → entry_of ds n ≡ Some (entry.AbstractModule b) → (t : ModuleType) → scope.module_type_of ds b.ty ≡ Some t → StandsWell n (of_type t)
  of_abstract n b e t k = by_choice (chosen_under i.programs b.name) refl (chosen_for D i ds chosen.chosen n b e)
    where
      name : b.name ≡ n
      name = let y = abstract_in_scope ds scoped n b e in y.name

      by_choice : (o : Option Chosen) → chosen_under i.programs b.name ≡ o → IsChosenIf D i.programs (setting D i) i.world b o → StandsWell n (of_type t)
      by_choice None q w = absurd w
      by_choice (Some x) q w =
          let under : chosen_under i.programs n ≡ Some x = subst (λ z. chosen_under i.programs z ≡ Some x) name q in
          let is : fps n ≡ abstract_footprint D n t =
          touched_is D i.programs chosen.unchosen n ∙ chosen_kept footprint_read i.programs n x under D base chosen.unchosen
          ∙ chosen_footprint D i.programs (λ k. no_module) n x under
          ∙ (λ j. abstract_footprint D ((ap (λ (z : Bind). z.name) w.0 ∙ name) j) ((ap (λ (z : Bind). type_named D z.ty) w.0 ∙ ap or_none (declared_type ds b.ty ∙ k)) j)) in
          let s = type_in_scope ds scoped b.ty t k in
          record {
            extra = λ fs qs. (λ j. is j (fs ++ empties qs)) ∙ (λ j. signature_footprints D n t (fun_ext (extra_oracles t.params fs qs) j) t.signatures) ∙ (λ j. sym is j fs);
            together = λ fs z h. subst (λ (a : Applied (List Var)). HasSome (signature_types t.signatures) (a fs) z) (sym is)
                (in_signed D n t (oracle_of t.params (map (λ m. m []) fs)) (let c = s.before in c.modules) t.signatures (let y = s.typed in y.signatures) z
                (subst (λ (a : Applied (List Var)). Has (of_all (a fs)) z) is h));
          }

  pub of_name : (n : Name) (k : Interface) → interface_of ds None n ≡ Some k → StandsWell n k
  of_name n k e = by_found (entry_of ds n) refl e
    where
      by_type : (b : Bind) → entry_of ds n ≡ Some (entry.AbstractModule b) → (o : Option ModuleType) → scope.module_type_of ds b.ty ≡ o → option_map of_type o ≡ Some k → StandsWell n k
      by_type b h None q e = absurd (none-some k e)
      by_type b h (Some t) q e = subst (StandsWell n) (same_Some (of_type t) k e) (of_abstract n b h t q)

      by_entry : (x : Entry) → entry_of ds n ≡ Some x → of_entry ds (Some x) ≡ Some k → StandsWell n k
      by_entry (entry.Module m) h e = subst (StandsWell n) (same_Some (of_module m) k e) (of_declared n m (ap as_module h))
      by_entry (entry.AbstractModule b) h e = by_type b h (scope.module_type_of ds b.ty) refl e
      by_entry _ h e = absurd (none-some k e)

      by_found : (o : Option Entry) → entry_of ds n ≡ o → of_entry ds o ≡ Some k → StandsWell n k
      by_found None h e = absurd (none-some k e)
      by_found (Some x) h e = by_entry x h e
