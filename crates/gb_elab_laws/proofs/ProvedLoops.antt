-- Loops that are proved are good in each model of a sound scope.
use Rattle.std.proofs.Common.{◌≡◌, Bool, true, false, ◌||◌, if◌then◌else◌, List, [], ◌∷◌, ◌++◌, Option, Some, None, bytes_eq, refl, ap, sym, ◌∙◌, subst}
use Rattle.std.proofs.lemmas.Bool.{and_parts, false≢true}
use Rattle.std.proofs.lemmas.List.{append_assoc, append-nil}
use Rattle.std.proofs.lemmas.Option.{same_Some}
use Rattle.std.proofs.lemmas.Slice.Eq.{bytes_eq-Decides}
use Rattle.gb_terms.specs.declared.decl.Module.{Module}
use Rattle.gb_terms.specs.declared.decl.Param.{Param}
use Rattle.gb_terms.specs.declared.decl.Proc.{Proc}
use Rattle.gb_goal.specs.declared.scope.Entry.{Entry}
use Rattle.gb_goal.specs.declared.scope.Entry.TheVariants as entry
use Rattle.gb_goal.specs.declared.scope.ProcName.{ProcName}
use Rattle.gb_goal.specs.Interfaces.{of_module as interface_from}
use Rattle.gb_goal.specs.Scope as scope
use Rattle.gb_goal.specs.Scope.{as_module, entry_of, is_proof_for, is_proved, is_the_same, module_of, path_of, proc_in, proc_of}
use Rattle.gb_goal.proofs.Interfaces.{declared_module}
use Rattle.gb_meaning.specs.Commands.{statements}
use Rattle.gb_meaning.specs.Names.{Name}
use Rattle.gb_meaning.specs.Declared.{Declarations, Declaration, ModuleType, declared, terminating}
use Rattle.gb_meaning.specs.Holds.{AreSoundAfter, EachArgument, InEachModel, IsSound, IsSoundAfter, IsTerminating, LoopsAreGood, ProcedureIsGood, ProcedureOfIsGood}
use Rattle.gb_meaning.specs.Settings.{Interpretation, setting}
use Rattle.gb_meaning.proofs.Lists.{declared-append}
use Rattle.gb_typing.specs.Naming.{NoName}
use Rattle.gb_typing.specs.Formulas.{IsKnown}
use Rattle.gb_typing.specs.Modules.{Interface}
use Rattle.gb_typing.specs.Scopes.{AreTypedAfter, HasProcedure, IsTypedScope, context_of, interface_with, is_declared, nothing, procedure_types}
use Rattle.gb_typing.proofs.Located.{known_in_scope}
use Rattle.gb_elab_laws.specs.Speaking.{IsFirmScope, ScopeSpeaks}
use Rattle.gb_elab_laws.proofs.LinkedNames.{none_some}
use Rattle.gb_elab_laws.proofs.Staying.{split}
use Rattle.gb_elab_laws.proofs.StayingLoops.{IsOf, found_named_of, loops_stay_by, module_there}
use Rattle.gb_elab_laws.proofs.StayingOn.{knows}

-- What is found by a name stands at a place.

pub record IsPlaced (ds : scope.Declarations) (n : Name) (e : Entry) : Type 0 where
  pub before : scope.Declarations
  pub after : scope.Declarations
  pub place : ds ≡ before ++ (n, e) ∷ after

pub placed : (ds : scope.Declarations) (n : Name) (e : Entry) → entry_of ds n ≡ Some e → IsPlaced ds n e
placed [] n e h = none_some e h
placed (d ∷ ds) n e h = step (bytes_eq n d.0) refl h (placed ds n e)
  where
    further : IsPlaced ds n e → IsPlaced (d ∷ ds) n e
    further x = record { before = d ∷ x.before; after = x.after; place = ap (λ z. d ∷ z) x.place }

    step : (b : Bool) → bytes_eq n d.0 ≡ b → (if b then Some d.1 else entry_of ds n) ≡ Some e → (entry_of ds n ≡ Some e → IsPlaced ds n e) → IsPlaced (d ∷ ds) n e
    step true q h go = record { before = []; after = ds; place = λ i. (sym ((bytes_eq-Decides n d.0).0 q) i, same_Some d.1 e h i) ∷ ds }
    step false q h go = further (go h)

-- what a sound scope promises of a declaration in its midst
promised : (ds es : Declarations) (d : Name × Declaration) (before : Declarations) → AreSoundAfter before (ds ++ d ∷ es) → IsSoundAfter (before ++ ds) d.0 d.1
promised [] es d before s = subst (λ z. IsSoundAfter z d.0 d.1) (sym (append-nil before)) s.0
promised (x ∷ ds) es d before s = subst (λ z. IsSoundAfter z d.0 d.1) (append_assoc before (x ∷ []) ds) (promised ds es d (before ++ x ∷ []) s.1)

the_same : (p q : ProcName) → is_the_same p q ≡ true → q ≡ p
the_same p q e =
    let k = and_parts (bytes_eq p.module q.module) (bytes_eq p.name q.name) e in
    λ i. record { «module» = sym ((bytes_eq-Decides p.module q.module).0 k.0) i; name = sym ((bytes_eq-Decides p.name q.name).0 k.1) i }

proof_is : (p : ProcName) (o : Option Entry) → is_proof_for p o ≡ true → o ≡ Some (entry.Terminating p)
proof_is p (Some (entry.Terminating q)) e = ap (λ z. Some (entry.Terminating z)) (the_same p q e)
proof_is p (Some (entry.Module m)) e = absurd (false≢true e)
proof_is p (Some (entry.Lemma q bs)) e = absurd (false≢true e)
proof_is p (Some (entry.Type t)) e = absurd (false≢true e)
proof_is p (Some entry.AbstractType) e = absurd (false≢true e)
proof_is p (Some (entry.ModuleType y)) e = absurd (false≢true e)
proof_is p (Some (entry.AbstractModule y)) e = absurd (false≢true e)
proof_is p (Some (entry.Constant k)) e = absurd (false≢true e)
proof_is p (Some (entry.Operator o)) e = absurd (false≢true e)
proof_is p (Some (entry.AbstractOperator o)) e = absurd (false≢true e)
proof_is p None e = absurd (false≢true e)

-- what a front declares is found there
pub found_front : (xs ys : scope.Declarations) (n : Name) → is_declared (declared xs) n ≡ true → entry_of (xs ++ ys) n ≡ entry_of xs n
found_front [] ys n e = absurd (false≢true e)
found_front (x ∷ xs) ys n e = step (bytes_eq n x.0) (found_front xs ys n) e
  where
    step : (b : Bool) → (is_declared (declared xs) n ≡ true → entry_of (xs ++ ys) n ≡ entry_of xs n) → (b || is_declared (declared xs) n) ≡ true →
        (if b then Some x.1 else entry_of (xs ++ ys) n) ≡ (if b then Some x.1 else entry_of xs n)
    step true k e = refl
    step false k e = k e

known_there : (o : Option Interface) (f : Name) → HasProcedure o f → IsKnown o
known_there None f h = absurd h
known_there (Some i) f h = tt

-- where it is said that the loops of a procedure are proved
module _ (ds : scope.Declarations) (scoped : IsTypedScope (declared ds)) (p : ProcName) (x : IsPlaced ds (path_of p) (entry.Terminating p)) where
  abbrev behind : scope.Declarations
  behind = (path_of p, entry.Terminating p) ∷ x.after

  same : declared ds ≡ declared x.before ++ (path_of p, terminating p) ∷ declared x.after
  same = ap declared x.place ∙ declared-append x.before behind

  parted : IsTypedScope (declared x.before) × AreTypedAfter (context_of (declared x.before)) (declared x.before) (declared behind)
  parted = split (declared x.before) (declared behind) [] nothing (subst IsTypedScope same scoped)

  stands : is_declared (declared x.before) p.module ≡ true
  stands = (knows (declared x.before) parted.0).0 p.module (known_there ((context_of (declared x.before)).modules.interfaces p.module) p.name parted.1.1)

  -- its module stands before
  found_before : module_of x.before p.module ≡ module_of ds p.module
  found_before = ap as_module (sym (found_front x.before behind p.module stands)) ∙ ap (λ z. module_of z p.module) (sym x.place)

  lacks_none : (types : Name → Option ModuleType) (ps : List Param) (fs : List Proc) (f : Name) → HasProcedure (Some (interface_with types ps (procedure_types fs))) f → ps ≡ []
  lacks_none types [] fs f h = refl
  lacks_none types (q ∷ ps) fs f h = absurd h

  -- and has no parameters
  plain_there : (m : Module) → module_of ds p.module ≡ Some m → m.params ≡ []
  plain_there m e =
      let c = context_of (declared x.before) in
      let known = known_in_scope x.before parted.0 p.module (interface_from m) (declared_module x.before p.module m (found_before ∙ e)) in
      lacks_none c.modules.types m.params m.procs p.name (subst (λ o. HasProcedure o p.name) known parted.1.1)

-- a procedure whose loops are proved is one of a module without parameters
pub proved_plain : (ds : scope.Declarations) → IsTypedScope (declared ds) → (p : ProcName) → is_proved ds p ≡ true → (m : Module) → module_of ds p.module ≡ Some m → m.params ≡ []
proved_plain ds scoped p e = plain_there ds scoped p (placed ds (path_of p) (entry.Terminating p) (proof_is p (entry_of ds (path_of p)) e))

-- the loops of a procedure are good in each model where they are said to be
module _ (ds : scope.Declarations) (n f : Name) (a : Proc) (there : proc_in (module_of ds n) f ≡ Some a) (h : IsTerminating (declared ds) n f) where
  abbrev IsGoodAt : Option Proc → Interpretation → Type 0
  IsGoodAt o k = ProcedureIsGood (setting (declared ds) k) o

  of_module : IsOf (module_of ds n) f a → InEachModel (declared ds) (IsGoodAt (Some a))
  of_module x =
      subst (λ o. InEachModel (declared ds) (IsGoodAt o)) x.procedure
      (subst (λ xs. InEachModel (declared ds) (λ i. EachArgument (declared ds) xs i (IsGoodAt (proc_of x.owner.procs f)))) x.plain
      (subst (λ o. ProcedureOfIsGood (declared ds) o f) (found_named_of ds n x.owner x.there) h))

  pub good_loops : InEachModel (declared ds) (λ i. LoopsAreGood (setting (declared ds) i) (statements (setting (declared ds) i) a.body.list))
  good_loops = of_module (module_there (module_of ds n) f a there)

module _ (ds : scope.Declarations) (scoped : IsTypedScope (declared ds)) (firm : IsFirmScope ds) (sound : IsSound (declared ds)) (spoken : ScopeSpeaks NoName (declared ds)) (p : ProcName) (a : Proc)
    (there : proc_in (module_of ds p.module) p.name ≡ Some a) where
  at_place : IsPlaced ds (path_of p) (entry.Terminating p) → IsTerminating (declared ds) p.module p.name
  at_place x =
      subst (λ z. IsTerminating (declared z) p.module p.name) (sym x.place)
      (loops_stay_by (behind ds scoped p x) x.before (subst (λ z. IsTypedScope (declared z)) x.place scoped) (subst IsFirmScope x.place firm)
      (subst (λ z. ScopeSpeaks NoName (declared z)) x.place spoken) p.module p.name a before_there proved)
    where
      proved : IsTerminating (declared x.before) p.module p.name
      proved = promised (declared x.before) (declared x.after) (path_of p, terminating p) [] (subst IsSound (same ds scoped p x) sound)

      before_there : proc_in (module_of x.before p.module) p.name ≡ Some a
      before_there = ap (λ o. proc_in o p.name) (found_before ds scoped p x) ∙ there

  pub proved_ends : is_proved ds p ≡ true → IsTerminating (declared ds) p.module p.name
  proved_ends e = at_place (placed ds (path_of p) (entry.Terminating p) (proof_is p (entry_of ds (path_of p)) e))

  -- the loops of a procedure that is proved are good in each model
  pub proved_good : is_proved ds p ≡ true → InEachModel (declared ds) (λ i. LoopsAreGood (setting (declared ds) i) (statements (setting (declared ds) i) a.body.list))
  proved_good e = good_loops ds p.module p.name a there (proved_ends e)
