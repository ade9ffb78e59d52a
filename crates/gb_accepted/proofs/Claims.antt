-- Claims: the first goal of an open proof may be worked on, and where none is left, what is claimed stands.
use Rattle.std.proofs.Common.{◌≡◌, ℕ, Bool, true, false, is_some, ◌||◌, bytes_eq, if◌then◌else◌, List, [], ◌∷◌, ◌++◌, append-nil, Option, Some, None, refl, ap, sym, ◌∙◌, subst}
use Rattle.std.specs.List.{AllByRecursion}
use Rattle.std.proofs.lemmas.Slice.Eq.{bytes_eq-Decides}
use Rattle.gb_terms.specs.declared.decl.Module.{Module}
use Rattle.gb_terms.specs.declared.decl.Proc.{Proc}
use Rattle.gb_goal.specs.Binders.{binder_entries}
use Rattle.gb_goal.specs.Scope.{Declarations, as_module, entry_of, path_of, proc_of, procedure_of, module_of}
use Rattle.gb_goal.specs.declared.scope.Binder.{Binder}
use Rattle.gb_goal.specs.declared.scope.Entry.{Entry}
use Rattle.gb_goal.specs.declared.scope.Entry.TheVariants as entry
use Rattle.gb_goal.specs.declared.scope.ProcName.{ProcName}
use Rattle.gb_goal.specs.declared.sequent.Sequent.{Sequent}
use Rattle.gb_meaning.specs.Commands.{statements}
use Rattle.gb_meaning.specs.Names.{Name}
use Rattle.gb_meaning.specs.Declared.{declared, terminating}
use Rattle.gb_meaning.specs.Holds.{EachArgument, Holds, InEachModel, IsTerminating, LoopsAreGood, ProcedureIsGood, ProcedureOfIsGood}
use Rattle.gb_meaning.specs.Settings.{Interpretation, setting}
use Rattle.gb_meaning.proofs.Lists.{declared-append}
use Rattle.gb_meaning.proofs.Scopes.{gained_lemma, gained_proof}
use Rattle.gb_elab_laws.proofs.StayingLoops.{found_named_of, module_there}
use Rattle.gb_typing.specs.Formulas.{IsKnown}
use Rattle.gb_typing.specs.Scopes.{nothing, context_of, is_declared, HasProcedure, IsTypedScope}
use Rattle.gb_typing.proofs.Located.{typed_in_scope}
use Rattle.gb_elab_laws.proofs.Scopes.{typed_after}
use Rattle.gb_smt_laws.proofs.Split.{each_left}
use Rattle.gb_smt_laws.proofs.Used.{each_together}
use Rattle.gb_elab_laws.proofs.Shown.{each_shown}
use Rattle.gb_elab_laws.specs.Speaking.{IsFirmScope}
use Rattle.gb_arguments.specs.Unblank.{AreUnblank}
use Rattle.gb_print.specs.Blank.{begins_blank}
use Rattle.gb_theory.specs.Built.{Session, seen_in, with_ended, with_proved}
use Rattle.gb_state.specs.Opened.{modules_of}
use Rattle.gb_state.specs.declared.state.Claim.{Claim}
use Rattle.gb_state.specs.declared.state.Claim.TheVariants as claim
use Rattle.gb_accepted.specs.Holding.{IsProved, lemmas_in, names_of}
use Rattle.gb_accepted.proofs.Grounds.{IsGoalThatEnds, Grounds, IsTyped, seen}
use Rattle.gb_accepted.proofs.Good.{IsGoodLemma, IsGoodTermination, IsGoodClaim, IsGood, StatesProcedures}
use Rattle.gb_accepted.proofs.Later.{each_with, firm_together, lemmas_append, name_added, proved_with, unblank_together}
use Rattle.gb_accepted.proofs.LoopProofs.{named, Continues, loops_continue, loops_proved}

-- what the steps of an open proof see is typed
pub claim_scope : (s : Session) → IsGood s → (c : Claim) (gs : List Sequent) → IsGoodClaim s.scope c gs → IsTyped (seen_in s.scope c)
claim_scope s g (claim.Lemma n q bs) gs h = h.scope
claim_scope s g (claim.Loops f) gs h = subst IsTyped (sym (append-nil s.scope)) g.typed

-- the modules of a claim have names that begin with no blank
pub claim_unblank : (ds : Declarations) (c : Claim) (gs : List Sequent) → IsGoodClaim ds c gs → AreUnblank (binder_entries (modules_of c))
claim_unblank ds (claim.Lemma n q bs) gs h = h.binders
claim_unblank ds (claim.Loops f) gs h = tt

-- the first goal may be worked on, where the modules of the claim are declared
pub claim_continues : Grounds → (ds : Declarations) → IsTyped ds → IsFirmScope ds → (c : Claim) (q : Sequent) (rest : List Sequent) → IsGoodClaim ds c (q ∷ rest) →
    Continues (seen_in ds c) (IsGoodClaim ds c) q rest
claim_continues o ds scoped firm (claim.Lemma n s bs) q rest h = record {
  goal = h.goals.0;
  next = λ qs lead. record {
    free = h.free;
    statement = h.statement;
    procedures = h.procedures;
    unblank = h.unblank;
    binders = h.binders;
    scope = h.scope;
    goals = each_together (IsGoalThatEnds (seen ds s.modules)) qs rest lead.typed h.goals.1;
    leads = λ hs. let r = each_left (Holds (declared (seen ds s.modules))) qs rest hs in h.leads ((lead.leads r.0).0, r.1);
  };
}
claim_continues o ds scoped firm (claim.Loops f) q rest h =
    let m = o.models.model ds scoped in
    let k = loops_continue ds h.procedure (each_shown ds scoped firm m.0 m.1 m.2 m.3 (named f) h.procedure h.there) q rest h.loops in
    let continues : Continues ds (IsGoodClaim ds (claim.Loops f)) q rest =
    record { goal = k.goal; next = λ qs lead. record { procedure = h.procedure; there = h.there; loops = k.next qs lead } } in
    subst (λ es. Continues es (IsGoodClaim ds (claim.Loops f)) q rest) (sym (append-nil ds)) continues

-- Loops that are proved.

undeclared : (ds : Declarations) (n : Name) → entry_of ds n ≡ None → is_declared (declared ds) n ≡ false
undeclared [] n e = refl
undeclared (d ∷ ds) n e = step (bytes_eq n d.0) (undeclared ds n) e
  where
    step : (b : Bool) → (entry_of ds n ≡ None → is_declared (declared ds) n ≡ false) → (if b then Some d.1 else entry_of ds n) ≡ None → (b || is_declared (declared ds) n) ≡ false
    step true k e = absurd (cc)
    step false k e = k e

module _ (ds : Declarations) (scoped : IsTypedScope (declared ds)) (f : ProcName) (a : Proc) (there : procedure_of ds (named f) ≡ Some a) where
  abbrev IsGoodAt : Option Proc → Interpretation → Type 0
  IsGoodAt o k = ProcedureIsGood (setting (declared ds) k) o

  terminates : InEachModel (declared ds) (λ i. LoopsAreGood (setting (declared ds) i) (statements (setting (declared ds) i) a.body.list)) → IsTerminating (declared ds) f.module f.name
  terminates h =
      let x = module_there (module_of ds f.module) f.name a there in
      subst (λ o. ProcedureOfIsGood (declared ds) o f.name) (sym (found_named_of ds f.module x.owner x.there))
      (subst (λ xs. InEachModel (declared ds) (λ i. EachArgument (declared ds) xs i (IsGoodAt (proc_of x.owner.procs f.name)))) (sym x.plain)
      (subst (λ o. InEachModel (declared ds) (IsGoodAt o)) (sym x.procedure) h))

  has : HasProcedure ((context_of (declared ds)).modules.interfaces f.module) f.name
  has = let k = typed_in_scope ds scoped (named f) a there in subst IsKnown (sym k.type) tt

  proof_typed : entry_of ds (path_of f) ≡ None → IsTypedScope (declared (ds ++ (path_of f, entry.Terminating f) ∷ []))
  proof_typed e =
      subst IsTypedScope (sym (declared-append ds ((path_of f, entry.Terminating f) ∷ [])))
      (typed_after nothing [] (declared ds) ((path_of f, terminating f) ∷ []) scoped (undeclared ds (path_of f) e, has, tt))

-- the path of a procedure begins with no blank where the name of its module doesn't
dotted_unblank : (m x : List ℕ) → begins_blank m ≡ false → begins_blank (m ++ 46 ∷ x) ≡ false
dotted_unblank [] x u = refl
dotted_unblank (b ∷ m) x u = u

entry_unblank : (ds : Declarations) → AreUnblank ds → (n : Name) (e : Entry) → entry_of ds n ≡ Some e → begins_blank n ≡ false
entry_unblank [] u n e k = cc
entry_unblank (d ∷ ds) u n e k = step (bytes_eq n d.0) refl (entry_unblank ds u.1 n e) k
  where
    step : (b : Bool) → bytes_eq n d.0 ≡ b → (entry_of ds n ≡ Some e → begins_blank n ≡ false) → (if b then Some d.1 else entry_of ds n) ≡ Some e → begins_blank n ≡ false
    step true h later k = ap begins_blank ((bytes_eq-Decides n d.0).0 h) ∙ u.0
    step false h later k = later k

module_unblank : (ds : Declarations) → AreUnblank ds → (n : Name) (m : Module) → module_of ds n ≡ Some m → begins_blank n ≡ false
module_unblank ds u n m k = step (entry_of ds n) refl k
  where
    step : (o : Option Entry) → entry_of ds n ≡ o → as_module o ≡ Some m → begins_blank n ≡ false
    step None h k = cc
    step (Some e) h k = entry_unblank ds u n e h

path_unblank : (ds : Declarations) → AreUnblank ds → (f : ProcName) (a : Proc) → procedure_of ds (named f) ≡ Some a → begins_blank (path_of f) ≡ false
path_unblank ds u f a there =
    let x = module_there (module_of ds f.module) f.name a there in dotted_unblank f.module f.name (module_unblank ds u f.module x.owner x.there)

-- no lemma is added
same_lemmas : (ds : Declarations) (n : Name) (f : ProcName) → lemmas_in [] (ds ++ (n, entry.Terminating f) ∷ []) ≡ lemmas_in [] ds
same_lemmas ds n f = lemmas_append [] ds ((n, entry.Terminating f) ∷ []) ∙ append-nil (lemmas_in [] ds)

-- the same session without its proof, in which it is declared that loops end
ended_good : Grounds → (s : Session) (f : ProcName) → IsGood s → IsGoodTermination s.scope f [] → IsGood (with_proved s (claim.Loops f))
ended_good o s f g h = step (entry_of s.scope (path_of f)) refl
  where
    Closed : Declarations → Type 0
    Closed ds = IsGood (let x : Session = record { scope = ds; proof = None; lemmas = s.lemmas } in x)

    step : (e : Option Entry) → entry_of s.scope (path_of f) ≡ e → Closed (with_ended s.scope f)
    step (Some e) k = subst Closed (sym (ap (λ x. if is_some x then s.scope else s.scope ++ (path_of f, entry.Terminating f) ∷ []) k)) (record {
      typed = g.typed;
      firm = g.firm;
      sound = g.sound;
      lemmas = record { names = g.lemmas.names; proved = g.lemmas.proved };
      speaks = g.speaks;
      statements = g.statements;
      unblank = g.unblank;
      proof = tt;
    })
    step None k =
        let same = same_lemmas s.scope (path_of f) f in
        subst Closed (sym (ap (λ x. if is_some x then s.scope else s.scope ++ (path_of f, entry.Terminating f) ∷ []) k)) (record {
          typed = proof_typed s.scope g.typed f h.procedure h.there k;
          firm = firm_together s.scope ((path_of f, entry.Terminating f) ∷ []) g.firm (tt, tt);
          sound = gained_proof s.scope (path_of f) f g.sound (terminates s.scope g.typed f h.procedure h.there (loops_proved s.scope h.procedure h.loops));
          lemmas = record {
            names = ap names_of same ∙ g.lemmas.names;
            proved = subst (AllByRecursion IsProved) (sym same) g.lemmas.proved;
          };
          speaks = (o.models.parts s.scope ((path_of f, entry.Terminating f) ∷ [])).1 (g.speaks, (tt, tt));
          statements = subst (AllByRecursion StatesProcedures) (sym same) g.statements;
          unblank = unblank_together s.scope ((path_of f, entry.Terminating f) ∷ []) g.unblank (path_unblank s.scope g.unblank f h.procedure h.there, tt);
          proof = tt;
        })

-- a lemma that holds is declared
lemma_good : Grounds → (s : Session) (n : List ℕ) (q : Sequent) (bs : List Binder) → IsGood s → IsGoodLemma s.scope n q [] → IsGood (with_proved s (claim.Lemma n q bs))
lemma_good o s n q bs g h =
    let holds = h.leads tt in
    record {
      typed = o.typing.lemma_added s.scope g.typed n h.free q bs h.statement;
      firm = firm_together s.scope ((n, entry.Lemma q bs) ∷ []) g.firm (tt, tt);
      sound = gained_lemma s.scope n q bs g.sound holds;
      lemmas = record {
        names = name_added s.scope n q bs ∙ ap (λ ns. ns ++ n ∷ []) g.lemmas.names;
        proved = proved_with s.scope n q bs g.lemmas.proved g.typed h.statement holds;
      };
      speaks = (o.models.parts s.scope ((n, entry.Lemma q bs) ∷ [])).1 (g.speaks, (tt, tt));
      statements = each_with s.scope n q bs StatesProcedures g.statements h.procedures;
      unblank = unblank_together s.scope ((n, entry.Lemma q bs) ∷ []) g.unblank (h.unblank, tt);
      proof = tt;
    }

-- where no goal is left, what is claimed is proved
pub claim_proved : Grounds → (s : Session) (c : Claim) → IsGood s → IsGoodClaim s.scope c [] → IsGood (with_proved s c)
claim_proved o s (claim.Lemma n q bs) g h = lemma_good o s n q bs g h
claim_proved o s (claim.Loops f) g h = ended_good o s f g h
