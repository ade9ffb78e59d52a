-- An open program loses no weight but by its oracles, where no loss is found.
use Rattle.std.proofs.Common.{◌≡◌, ℕ, length, Bool, true, false, if◌then◌else◌, List, [], ◌∷◌, map, Option, Some, None, refl, sym, subst, bytes_eq}
use Rattle.std.proofs.Math.Path.{fun_ext}
use Rattle.std.proofs.lemmas.Bool.{false≢true}
use Rattle.std.proofs.lemmas.Option.{none-some}
use Rattle.gb_core.specs.declared.place.Place.{Place}
use Rattle.gb_terms.specs.declared.decl.Param.{Param}
use Rattle.gb_terms.specs.declared.module.Mexp.{Mexp}
use Rattle.gb_goal.specs.Answers.Answer.{given as is_given}
use Rattle.gb_goal.specs.Interfaces as known_as
use Rattle.gb_goal.specs.Interfaces.{has_type, interface_of, of_entry, of_module, signatures_of, takes}
use Rattle.gb_goal.specs.Scope as scope
use Rattle.gb_goal.specs.Scope.{as_module, entry_of, module_of, proc_of}
use Rattle.gb_meaning.specs.Names.{Name}
use Rattle.gb_meaning.specs.Program.{Routine}
use Rattle.gb_meaning.specs.Setting.{Setting}
use Rattle.gb_meaning.specs.Sound.{FullRoutine}
use Rattle.gb_meaning.specs.Adversary.{type_named}
use Rattle.gb_meaning.specs.Declared.{Declarations, ModuleType, Signature, declared}
use Rattle.gb_meaning.specs.Modules.{Procedures, found, module_at, modules_of}
use Rattle.gb_meaning.specs.Programs.{AreFull, IfThere}
use Rattle.gb_meaning.specs.Settings.{Interpretation, setting}
use Rattle.gb_laws.specs.Context as laws
use Rattle.gb_typing.specs.Alike.{NameSigned}
use Rattle.gb_typing.specs.Chosen.{IsChosenOver}
use Rattle.gb_typing.specs.Context.{erased}
use Rattle.gb_typing.specs.Modules.{ProcedureType}
use Rattle.gb_typing.specs.Scopes.{context_of, IsTypedScope}
use Rattle.gb_typing.specs.Sequents.{AreBinders}
use Rattle.gb_mods.specs.Footprint.{reference, signed as signed_names}
use Rattle.gb_mods.specs.Meets.{first_unmet, meets_named, open_name, type_of_signature}
use Rattle.gb_mods.specs.Reach.{all_from}
use Rattle.gb_full.specs.Loss.{Losses, Reached, known_of, losses, nowhere, oracles_loss, rounds}
use Rattle.gb_arguments.specs.Opened.{Callee, open_to, asked_in, asked_modules, open_modules, open_procedure, open_program, routines_in}
use Rattle.gb_arguments.proofs.Asked.{as_callee, expression_routines, found_routine}
use Rattle.gb_arguments.proofs.Chosen.{open_is}
use Rattle.gb_arguments.specs.Collect.{open_binders}
use Rattle.gb_instances.specs.Footprint.{opened, procedures_of}
use Rattle.gb_instances.specs.Lossless.{first_loss, meant_among}
use Rattle.gb_arguments.proofs.Bridge.{have_names, opened_typed, opened_value}
use Rattle.gb_arguments.proofs.Excluded.{any_form}
use Rattle.gb_arguments.proofs.FullStatements.{FullCallee, both_nowhere}
use Rattle.gb_arguments.proofs.OpenChosen.{bottom}
use Rattle.gb_arguments.proofs.OpenFit.{open_binders_are, open_fit}
use Rattle.gb_arguments.proofs.OpenGiven.{all_given, one_for, taken_many}
use Rattle.gb_arguments.proofs.Parts.{all_met}
use Rattle.gb_arguments.proofs.FullOpen.{AreMeant, all_are, full, known_full}

-- What open parameters are asked.

module _ (g : Setting) where
  asked_full : (p : Name) (ss : List Signature) (f : Name) → FullCallee g (found (asked_in p ss) f)
  asked_full p [] f = tt
  asked_full p (s ∷ ss) f = step (bytes_eq f s.name) (asked_full p ss f)
    where
      step : (b : Bool) → FullCallee g (found (asked_in p ss) f) → FullCallee g (if b then Some (open_to (record { parameter = p; name = s.name })) else found (asked_in p ss) f)
      step true h = tt
      step false h = h

  one_full : (all : Declarations) (qs ps : List Param) (q : Param) (f : Name) → FullCallee g (found (one_for qs (asked_modules all ps) q) f)
  one_full all [] ps q f = tt
  one_full all (p ∷ qs) [] q f = tt
  one_full all (p ∷ qs) (x ∷ ps) q f = step (bytes_eq (open_name q.name) (open_name p.name)) (one_full all qs ps q f)
    where
      step : (b : Bool) → FullCallee g (found (one_for qs (asked_modules all ps) q) f) →
          FullCallee g (found (if b then asked_in x.name (type_named all x.ty).signatures else one_for qs (asked_modules all ps) q) f)
      step true h = asked_full x.name (type_named all x.ty).signatures f
      step false h = h

module _ (ds : scope.Declarations) (scoped : IsTypedScope (declared ds)) (unspelt : (x : Name) → (context_of (declared ds)).modules.interfaces (open_name x) ≡ None)
    (signed : (n : Name) (t : ModuleType) → (context_of (declared ds)).modules.types n ≡ Some t → NameSigned (declared ds) t t.signatures)
    (i : Interpretation) (chosen : IsChosenOver (declared ds) i) (fits : laws.IsSettingOf (erased (context_of (declared ds))) (setting (declared ds) i))
    (m : Mexp) (k : known_as.Interface) (e : known_as.interface_at ds None m ≡ Some k) (t : ModuleType) (taken : takes ds k.lacks t.params ≡ true) where
  abbrev D : Declarations
  D = declared ds

  abbrev g : Setting
  g = setting D i

  abbrev w : AreBinders (context_of D) (open_binders k.lacks)
  w = open_binders_are ds scoped unspelt m k e

  abbrev v : Param → Procedures Callee
  v = one_for k.lacks (asked_modules D t.params)

  abbrev its : Procedures Callee
  its = module_at (open_modules D i.programs) m (asked_modules D t.params)

  ms_are : modules_of open_procedure (bottom D i) D ≡ open_modules D i.programs
  ms_are = sym (fun_ext (open_is D i.programs chosen.unchosen))

  xs_are : map v k.lacks ≡ asked_modules D t.params
  xs_are = all_given k.lacks (asked_modules D t.params) (have_names (context_of D) k.lacks w) (taken_many ds D k.lacks t.params taken)

  module _ (fs : Reached) (are : AreMeant ds fs) (n : ℕ) where
    abbrev ks : Losses
    ks = rounds ds (full ds) n fs

    one_found : (f : Name) (u : ProcedureType) → found k.procedures f ≡ Some u → known_of ks (reference (opened (m, k)) f) ≡ nowhere → FullCallee g (found its f)
    one_found f u h l =
        subst (FullCallee g) (λ j. found (module_at (ms_are j) m (xs_are j)) f)
        (subst (FullCallee g) (sym (opened_value ds scoped k.lacks any_form w v (modules_of open_procedure (bottom D i) D) m k e f))
        (known_full ds scoped k.lacks any_form w signed i chosen fits v (one_full g D k.lacks t.params) fs are n (reference (opened (m, k)) f)
        (opened_typed ds scoped k.lacks any_form w m k e (open_fit ds scoped unspelt m k e any_form) f u h) l))

    in_program : (o : Option Routine) → FullCallee g (as_callee o) → IfThere (FullRoutine g) o
    in_program None h = tt
    in_program (Some r) h = h

    there : (o : Option ProcedureType) (u : ProcedureType) → has_type o u ≡ true → (q : ProcedureType) × (o ≡ Some q)
    there None u h = absurd (false≢true h)
    there (Some q) u h = (q, refl)

    each_one : (ss : List Signature) → first_unmet k.procedures ss ≡ None → oracles_loss ks (signed_names (opened (m, k)) ss) ≡ nowhere → AreFull g (open_program D i t m) ss
    each_one [] h l = tt
    each_one (s ∷ ss) h l = step (has_type (found k.procedures s.name) (type_of_signature s)) refl h (each_one ss)
      where
        z : (known_of ks (reference (opened (m, k)) s.name) ≡ nowhere) × (oracles_loss ks (signed_names (opened (m, k)) ss) ≡ nowhere)
        z = both_nowhere (known_of ks (reference (opened (m, k)) s.name)) (oracles_loss ks (signed_names (opened (m, k)) ss)) l

        step : (b : Bool) → has_type (found k.procedures s.name) (type_of_signature s) ≡ b → (if b then first_unmet k.procedures ss else Some s.name) ≡ None →
            (first_unmet k.procedures ss ≡ None → oracles_loss ks (signed_names (opened (m, k)) ss) ≡ nowhere → AreFull g (open_program D i t m) ss) → AreFull g (open_program D i t m) (s ∷ ss)
        step false q h go = absurd (none-some s.name (sym h))
        step true q h go =
            let u = there (found k.procedures s.name) (type_of_signature s) q in (
              in_program (found (routines_in its) s.name)
                  (subst (FullCallee g) (found_routine its (expression_routines D i.programs m (asked_modules D t.params)) s.name) (one_found s.name u.0 u.1 z.0)),
              go h z.1,
            )

  pub all_full : (n : Name) → scope.module_type_of ds n ≡ Some t → first_unmet k.procedures t.signatures ≡ None → first_loss ds (m, k) n ≡ nowhere → AreFull g (open_program D i t m) t.signatures
  unfolding first_loss losses
  all_full n h met l =
      let o = all_from ds None (procedures_of (m, k)) in
      let fs = meant_among ds o in
      each_one fs (all_are ds o) (length fs) t.signatures met
      (subst (λ z. oracles_loss (rounds ds (full ds) (length fs) fs) (signed_names (opened (m, k)) (signatures_of z)) ≡ nowhere) h l)

-- .. of a module that meets the module type
pub program_full : (ds : scope.Declarations) (scoped : IsTypedScope (declared ds)) (unspelt : (x : Name) → (context_of (declared ds)).modules.interfaces (open_name x) ≡ None)
    (signed : (n : Name) (t : ModuleType) → (context_of (declared ds)).modules.types n ≡ Some t → NameSigned (declared ds) t t.signatures)
    (i : Interpretation) (chosen : IsChosenOver (declared ds) i) (fits : laws.IsSettingOf (erased (context_of (declared ds))) (setting (declared ds) i))
    (m : Mexp) (k : known_as.Interface) → known_as.interface_at ds None m ≡ Some k → (n : Name) (t : ModuleType) → scope.module_type_of ds n ≡ Some t → (p : Place) → meets_named ds None (m, k) n p ≡ is_given tt →
    first_loss ds (m, k) n ≡ nowhere → AreFull (setting (declared ds) i) (open_program (declared ds) i t m) t.signatures
program_full ds scoped unspelt signed i chosen fits m k e n t h p met l =
    let a = all_met ds (m, k) n t p h met in all_full ds scoped unspelt signed i chosen fits m k e t a.lacks n h a.signed l
