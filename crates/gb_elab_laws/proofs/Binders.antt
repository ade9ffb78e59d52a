-- What holds, and loops that are proved, go on to be so with the abstract modules that a lemma binds.
use Rattle.std.proofs.Common.{◌≡◌, Bool, true, false, if◌then◌else◌, List, [], ◌∷◌, ◌++◌, Option, Some, None, bytes_eq, refl, ap, sym, ◌∙◌, subst}
use Rattle.gb_terms.specs.declared.decl.Module.{Module}
use Rattle.gb_terms.specs.declared.decl.Proc.{Proc}
use Rattle.gb_terms.specs.declared.module.Bind.{Bind}
use Rattle.gb_goal.specs.Binders.{binder_entries}
use Rattle.gb_goal.specs.declared.scope.Entry.{Entry}
use Rattle.gb_goal.specs.declared.scope.Entry.TheVariants as entry
use Rattle.gb_goal.specs.declared.scope.ProcName.{ProcName}
use Rattle.gb_goal.specs.declared.sequent.Sequent.{Sequent}
use Rattle.gb_goal.specs.Scope as scope
use Rattle.gb_goal.specs.Scope.{as_module, entry_of, is_proof_for, is_proved, module_of, path_of, proc_in}
use Rattle.gb_meaning.specs.Commands.{statements}
use Rattle.gb_meaning.specs.Names.{Name}
use Rattle.gb_meaning.specs.Declared.{Declarations, abstract_module, declared}
use Rattle.gb_meaning.specs.Holds.{Holds, InEachModel, IsSound, IsTerminating, LoopsAreGood}
use Rattle.gb_meaning.specs.Naming.{IsFresh}
use Rattle.gb_meaning.specs.Settings.{setting}
use Rattle.gb_meaning.proofs.Lists.{declared-append}
use Rattle.gb_typing.specs.Added.{AreBoundApart, ModulesName}
use Rattle.gb_typing.specs.Naming.{IsKept, NoName}
use Rattle.gb_typing.specs.Scopes.{AreTypedAfter, IsTypedScope, context_of, is_declared, nothing}
use Rattle.gb_typing.specs.Sequents.{IsTypedSequent}
use Rattle.gb_typing.proofs.Aligned.{GoesOn}
use Rattle.gb_typing.proofs.Known.{fresh_later}
use Rattle.gb_typing.proofs.LoopsAdded.{loops-along}
use Rattle.gb_typing.proofs.SectionsAdded.{goes-with-sections, sections}
use Rattle.gb_typing.proofs.SequentsAlike.{holds-along}
use Rattle.gb_elab_laws.specs.Speaking.{GoalSpeaks, IsFirmScope, IsWithoutModules, ScopeSpeaks}
use Rattle.gb_elab_laws.proofs.MoreNames.{more_goal, more_scope}
use Rattle.gb_elab_laws.proofs.NamedModules.{modules_name}
use Rattle.gb_elab_laws.proofs.ProvedLoops.{good_loops, proved_ends, proved_plain}
use Rattle.gb_elab_laws.proofs.Staying.{apart, no_section_in, scope_apart, split}
use Rattle.gb_elab_laws.proofs.StayingLoops.{loops_apart}

-- Abstract modules hide nothing that is declared: what is found under a name is found with them, unless they are what is looked for.

module _ {A : Type 0} (f : Option Entry → A) (none : (b : Bind) → f (Some (entry.AbstractModule b)) ≡ f None) where
  none_bound : (bs : List Bind) (n : Name) → f (entry_of (binder_entries bs) n) ≡ f None
  none_bound [] n = refl
  none_bound (b ∷ bs) n = step (bytes_eq n b.name) (none_bound bs n)
    where
      step : (c : Bool) → f (entry_of (binder_entries bs) n) ≡ f None → f (if c then Some (entry.AbstractModule b) else entry_of (binder_entries bs) n) ≡ f None
      step true h = none b
      step false h = h

  found_same : (ds : scope.Declarations) (bs : List Bind) (n : Name) → f (entry_of (ds ++ binder_entries bs) n) ≡ f (entry_of ds n)
  found_same [] bs n = none_bound bs n
  found_same (d ∷ ds) bs n = step (bytes_eq n d.0) (found_same ds bs n)
    where
      step : (c : Bool) → f (entry_of (ds ++ binder_entries bs) n) ≡ f (entry_of ds n) →
          f (if c then Some d.1 else entry_of (ds ++ binder_entries bs) n) ≡ f (if c then Some d.1 else entry_of ds n)
      step true h = refl
      step false h = h

pub module_same : (ds : scope.Declarations) (bs : List Bind) (n : Name) → module_of (ds ++ binder_entries bs) n ≡ module_of ds n
module_same ds bs n = found_same as_module (λ b. refl) ds bs n

pub proved_same : (ds : scope.Declarations) (bs : List Bind) (p : ProcName) → is_proved (ds ++ binder_entries bs) p ≡ is_proved ds p
proved_same ds bs p = found_same (is_proof_for p) (λ b. refl) ds bs (path_of p)

entries_are : (bs : List Bind) → declared (binder_entries bs) ≡ sections bs
entries_are [] = refl
entries_are (b ∷ bs) = ap (λ r. (b.name, abstract_module b) ∷ r) (entries_are bs)

module _ (ds : scope.Declarations) (bs : List Bind) (scoped : IsTypedScope (declared (ds ++ binder_entries bs))) where
  abbrev es : Declarations
  es = sections bs

  whole : declared (ds ++ binder_entries bs) ≡ declared ds ++ es
  whole = declared-append ds (binder_entries bs) ∙ ap (λ z. declared ds ++ z) (entries_are bs)

  parted : IsTypedScope (declared ds) × AreTypedAfter (context_of (declared ds)) (declared ds) es
  parted = split (declared ds) es [] nothing (subst IsTypedScope whole scoped)

  pub typed_front : IsTypedScope (declared ds)
  typed_front = parted.0

  module _ (firm : IsFirmScope ds) (spoken : ScopeSpeaks NoName (declared ds)) where
    fresh : (k : Name) → is_declared (declared ds) k ≡ true → IsFresh es k
    fresh k e = fresh_later es (declared ds) (context_of (declared ds)) parted.1 k e

    -- the modules of the scope don't name the abstract ones
    named : ModulesName (IsFresh es) (declared ds)
    named = modules_name (IsFresh es) (declared ds) [] nothing parted.0 (λ n i. absurd i) fresh (more_scope NoName (IsFresh es) (λ n f. absurd f) (declared ds) spoken)

    goes : GoesOn es (declared ds)
    goes = goes-with-sections (declared ds) bs named (subst (AreBoundApart es) (sym (no_section_in (declared ds) firm)) tt) (scope_apart es (declared ds) parted.0 firm)

    -- a typed goal over the scope that holds
    pub goal_stays_bound : (q : Sequent) → IsTypedSequent (context_of (declared ds)) q → IsWithoutModules q → GoalSpeaks NoName q → Holds (declared ds) q → Holds (declared (ds ++ binder_entries bs)) q
    goal_stays_bound q t without says h =
        subst (λ z. Holds z q) (sym whole)
        (holds-along es (declared ds) goes q
        (apart (declared ds) es parted.0 parted.1 firm q t without (more_scope NoName (IsKept es []) (λ n f. absurd f) (declared ds) spoken)
        (more_goal NoName (IsKept es []) (λ n f. absurd f) q says)) h)

    -- the proved loops of a procedure of the scope
    pub loops_stay_bound : (n f : Name) (a : Proc) → proc_in (module_of ds n) f ≡ Some a → IsTerminating (declared ds) n f → IsTerminating (declared (ds ++ binder_entries bs)) n f
    loops_stay_bound n f a e h =
        subst (λ z. IsTerminating z n f) (sym whole) (loops-along es (declared ds) goes n f (loops_apart ds parted.0 firm spoken n f a e es fresh) h)

    -- loops that are proved are good in each model with the abstract modules
    pub proved_good_bound : IsSound (declared ds) → (p : ProcName) (a : Proc) → proc_in (module_of (ds ++ binder_entries bs) p.module) p.name ≡ Some a → is_proved (ds ++ binder_entries bs) p ≡ true →
        InEachModel (declared (ds ++ binder_entries bs)) (λ i. LoopsAreGood (setting (declared (ds ++ binder_entries bs)) i) (statements (setting (declared (ds ++ binder_entries bs)) i) a.body.list))
    proved_good_bound sound p a there e =
        let own : proc_in (module_of ds p.module) p.name ≡ Some a = ap (λ o. proc_in o p.name) (sym (module_same ds bs p.module)) ∙ there in
        good_loops (ds ++ binder_entries bs) p.module p.name a there
        (loops_stay_bound p.module p.name a own (proved_ends ds parted.0 firm sound spoken p a own (sym (proved_same ds bs p) ∙ e)))

  -- and the procedure is one of a module without parameters
  pub proved_plain_bound : (p : ProcName) → is_proved (ds ++ binder_entries bs) p ≡ true → (m : Module) → module_of (ds ++ binder_entries bs) p.module ≡ Some m → m.params ≡ []
  proved_plain_bound p e m there = proved_plain ds parted.0 p (sym (proved_same ds bs p) ∙ e) m (sym (module_same ds bs p.module) ∙ there)
