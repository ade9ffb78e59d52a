-- Lemmas go on to hold as a scope grows, also beside the abstract modules of an open lemma.
use Rattle.std.proofs.Common.{◌≡◌, ℕ, Bool, true, false, if◌then◌else◌, List, [], ◌∷◌, ◌++◌, Some, sym, subst}
use Rattle.std.specs.Prelude.{bytes_eq}
use Rattle.std.proofs.lemmas.List.{append_assoc}
use Rattle.std.specs.List.{AllByRecursion}
use Rattle.gb_core.specs.declared.place.Place.{Place}
use Rattle.gb_meaning.specs.Names.{Name}
use Rattle.gb_terms.specs.declared.module.Bind.{Bind}
use Rattle.gb_goal.specs.Binders.{binder_entries}
use Rattle.gb_goal.specs.Answers.Answer.{given}
use Rattle.gb_goal.specs.Scope.{Declarations, as_lemma, entry_of, lemma_of}
use Rattle.gb_goal.specs.declared.scope.Entry.{Entry}
use Rattle.gb_goal.specs.declared.scope.Entry.TheVariants as entry
use Rattle.gb_goal.specs.declared.sequent.Sequent.{Sequent}
use Rattle.gb_meaning.specs.Declared.{declared}
use Rattle.gb_meaning.specs.Holds.{Holds, IsSound}
use Rattle.gb_typing.specs.Naming.{NoName}
use Rattle.gb_elab_laws.specs.Speaking.{IsFirmScope, IsWithoutModules, ScopeSpeaks}
use Rattle.gb_arguments.specs.Instance.{AreModulesOf}
use Rattle.gb_arguments.specs.Facts.{IsFact}
use Rattle.gb_elab_laws.specs.Procedures.{AreStated, IsOfProcedures}
use Rattle.gb_instances.specs.Instance.{GivenModule, instance_of}
use Rattle.gb_arguments.specs.Unblank.{AreUnblank}
use Rattle.gb_elab_laws.proofs.Given.{same_some}
use Rattle.gb_elab_laws.proofs.MoreNames.{alone_speaks}
use Rattle.gb_theory.specs.Built.{Session}
use Rattle.gb_accepted.specs.Holding.{IsProved, Lemma, lemmas_in, with_entry}
use Rattle.gb_accepted.proofs.Good.{IsGood, StatesProcedures}
use Rattle.gb_accepted.proofs.Grounds.{Grounds, IsTyped, IsTypedGoalOf, seen}
use Rattle.gb_accepted.proofs.Later.{firm_front, unblank_together}

-- a lemma of a scope holds where it binds no modules, and so does what it says of modules
record IsKept (ds : Declarations) (l : Sequent) : Type 0 where
  plain : l.modules ≡ [] → IsFact ds l
  instances : (ks : List GivenModule) → AreModulesOf ds ks → (p : Place) (r : Sequent) → instance_of ds l ks p ≡ given r → (r.modules ≡ []) × IsFact ds r

-- What is known of the declarations of a script, behind which the steps of a proof see abstract modules.
pub record IsSeen (ds : Declarations) (bs : List Bind) : Type 0 where
  pub typed : IsTyped (seen ds bs)
  pub firm : IsFirmScope ds
  pub sound : IsSound (declared ds)
  pub speaks : ScopeSpeaks NoName (declared ds)
  pub stated : AreStated (seen ds bs)

-- abstract modules are no lemmas
no_lemma : (bs : List Bind) (x : Name) (l : Sequent) → lemma_of (binder_entries bs) x ≡ Some l → ⊥
no_lemma [] x l e = cc
no_lemma (b ∷ bs) x l e = by_name (bytes_eq x b.name) (no_lemma bs x l) e
  where
    by_name : (t : Bool) → (lemma_of (binder_entries bs) x ≡ Some l → ⊥) → as_lemma (if t then Some (entry.AbstractModule b) else entry_of (binder_entries bs) x) ≡ Some l → ⊥
    by_name true f e = cc
    by_name false f e = f e

-- nor do they speak of anything
binders_speak : (bs : List Bind) → ScopeSpeaks NoName (declared (binder_entries bs))
binders_speak [] = tt
binders_speak (b ∷ bs) = (tt, binders_speak bs)

-- what is known of lemmas is known of the later ones
later : (P : Lemma → Type 0) (before : Declarations) (n : Name) (d : Entry) (ls : List Lemma) → AllByRecursion P (with_entry before n d ls) → AllByRecursion P ls
later P before n (entry.Lemma q order) ls h = h.1
later P before n (entry.Module x) ls h = h
later P before n (entry.Type t) ls h = h
later P before n entry.AbstractType ls h = h
later P before n (entry.ModuleType y) ls h = h
later P before n (entry.AbstractModule y) ls h = h
later P before n (entry.Constant c) ls h = h
later P before n (entry.Operator x) ls h = h
later P before n (entry.AbstractOperator x) ls h = h
later P before n (entry.Terminating c) ls h = h

module _ (o : Grounds) (bs : List Bind) where
  -- the declarations of a script that go on to be typed beside these modules
  record IsWhole (ds : Declarations) : Type 0 where
    typed : IsTyped ds
    beside : IsTyped (seen ds bs)
    firm : IsFirmScope ds
    speaks : ScopeSpeaks NoName (declared ds)
    unblank : AreUnblank (seen ds bs)

  -- the lemmas of declarations behind others are kept
  abbrev AllKept : Declarations → Declarations → Type 0
  AllKept before ds = (x : Name) (l : Sequent) → lemma_of (seen ds bs) x ≡ Some l → IsKept (seen (before ++ ds) bs) l

  onwards : (before : Declarations) (d : List ℕ × Entry) (ds : Declarations) → AllKept (before ++ d ∷ []) ds → (x : Name) (l : Sequent) → lemma_of (seen ds bs) x ≡ Some l → IsKept (seen (before ++ d ∷ ds) bs) l
  onwards before d ds f x l e = subst (λ z. IsKept (seen z bs) l) (append_assoc before (d ∷ []) ds) (f x l e)

  back : (before : Declarations) (d : List ℕ × Entry) (ds : Declarations) → IsWhole (before ++ d ∷ ds) → IsWhole ((before ++ d ∷ []) ++ ds)
  back before d ds w = subst IsWhole (sym (append_assoc before (d ∷ []) ds)) w

  -- a lemma that binds no modules goes on to hold in what is declared behind it, and beside these modules
  plain_kept : (before ds : Declarations) (q : Sequent) → IsWhole (before ++ ds) → IsTypedGoalOf before q → IsOfProcedures q → Holds (declared before) q → q.modules ≡ [] → IsFact (seen (before ++ ds) bs) q
  plain_kept before ds q w t p h plain =
      let without : IsWithoutModules q = record { modules = plain; conclusion = p.front } in
      let there = o.models.stay_typed before ds w.typed q t without in
      let speaks = alone_speaks q plain p.speaks in
      let holds = o.models.stay before ds w.typed w.firm q t without w.speaks speaks h in
      record {
        typed = o.models.stay_typed (before ++ ds) (binder_entries bs) w.beside q there without;
        hyps = p.hyps;
        bodies = p.bodies;
        front = p.front;
        holds = o.models.stay_seen (before ++ ds) bs w.beside w.firm q there without w.speaks speaks holds;
      }

  -- .. and so does what a lemma says of modules
  instances_kept : (before ds : Declarations) (q : Sequent) → IsWhole (before ++ ds) → IsTypedGoalOf before q → IsOfProcedures q → Holds (declared before) q → (ks : List GivenModule) →
      AreModulesOf (seen (before ++ ds) bs) ks → (p : Place) (r : Sequent) → instance_of (seen (before ++ ds) bs) q ks p ≡ given r → (r.modules ≡ []) × IsFact (seen (before ++ ds) bs) r
  instances_kept before ds q w t p h ks known place r e =
      let same : seen (before ++ ds) bs ≡ before ++ (ds ++ binder_entries bs) = append_assoc before ds (binder_entries bs) in
      subst (λ z. IsTyped z → ScopeSpeaks NoName (declared z) → AreUnblank z → AreModulesOf z ks → instance_of z q ks place ≡ given r → (r.modules ≡ []) × IsFact z r) (sym same)
      (λ scoped speaks unblank known e. o.models.instances before (ds ++ binder_entries bs) scoped (firm_front before ds w.firm) speaks unblank q t p h ks known place r e)
      w.beside ((o.models.parts (before ++ ds) (binder_entries bs)).1 (w.speaks, binders_speak bs)) w.unblank known e

  -- a lemma at its place
  here : (before ds : Declarations) (n : Name) (d : Entry) (ls : List Lemma) → IsWhole (before ++ (n, d) ∷ ds) → AllByRecursion IsProved (with_entry before n d ls) → AllByRecursion StatesProcedures (with_entry before n d ls) →
      (l : Sequent) → as_lemma (Some d) ≡ Some l → IsKept (seen (before ++ (n, d) ∷ ds) bs) l
  here before ds n (entry.Lemma q order) ls w h p l e =
      let at : Declarations = (n, entry.Lemma q order) ∷ ds in
      subst (IsKept (seen (before ++ at) bs)) (same_some q l e)
      (record { plain = λ plain. plain_kept before at q w h.0.typed p.0 h.0.holds plain; instances = λ ks k place r e. instances_kept before at q w h.0.typed p.0 h.0.holds ks k place r e })
  here before ds n _ ls w h p l e = cc

  kept : (ds before : Declarations) → IsWhole (before ++ ds) → AllByRecursion IsProved (lemmas_in before ds) → AllByRecursion StatesProcedures (lemmas_in before ds) → AllKept before ds
  kept [] before w h p x l e = absurd (no_lemma bs x l e)
  kept ((n, d) ∷ ds) before w h p x l e =
      by_name (bytes_eq x n) (kept ds (before ++ (n, d) ∷ []) (back before (n, d) ds w) (later IsProved before n d ls h) (later StatesProcedures before n d ls p)) e
    where
      ls : List Lemma
      ls = lemmas_in (before ++ (n, d) ∷ []) ds

      by_name : (t : Bool) → AllKept (before ++ (n, d) ∷ []) ds → as_lemma (if t then Some d else entry_of (seen ds bs) x) ≡ Some l → IsKept (seen (before ++ (n, d) ∷ ds) bs) l
      by_name true rest e = here before ds n d ls w h p l e
      by_name false rest e = onwards before (n, d) ds rest x l e

  pub each_kept : (s : Session) → IsGood s → AreUnblank (binder_entries bs) → IsTyped (seen s.scope bs) → IsSeen s.scope bs
  each_kept s g unblank typed =
      let each =
      kept s.scope [] (record { typed = g.typed; beside = typed; firm = g.firm; speaks = g.speaks; unblank = unblank_together s.scope (binder_entries bs) g.unblank unblank })
      g.lemmas.proved g.statements in
      record {
        typed = typed;
        firm = g.firm;
        sound = g.sound;
        speaks = g.speaks;
        stated = record { plain = λ x l e. (each x l e).plain; instances = λ x l e. (each x l e).instances };
      }
