-- Sound scopes that gain a declaration.
use Rattle.std.proofs.Common.{◌≡◌, ◌↔◌, List, [], ◌∷◌, ◌++◌, false, sym, subst}
use Rattle.std.proofs.lemmas.List.{append_assoc, append-nil}
use Rattle.gb_meaning.specs.Names.{Name}
use Rattle.gb_goal.specs.Scope as scope
use Rattle.gb_goal.specs.Scope.{is_claim, ClaimNothing}
use Rattle.gb_goal.specs.declared.scope.Binder.{Binder}
use Rattle.gb_goal.specs.declared.scope.Entry.{Entry}
use Rattle.gb_goal.specs.declared.scope.Entry.TheVariants as entry
use Rattle.gb_goal.specs.declared.scope.ProcName.{ProcName}
use Rattle.gb_goal.specs.declared.sequent.Sequent.{Sequent}
use Rattle.gb_meaning.specs.Declared.{Declarations, Declaration, lemma, terminating, declaration_of, declared}
use Rattle.gb_meaning.specs.Holds.{Holds, IsTerminating, IsSoundAfter, AreSoundAfter, IsSound}
use Rattle.gb_meaning.proofs.Lists.{declared-append}

module _ (n : Name) (d : Declaration) where
  split : (before ds : Declarations) → AreSoundAfter before (ds ++ (n, d) ∷ []) → AreSoundAfter before ds × IsSoundAfter (before ++ ds) n d
  split before [] s = (tt, subst (λ z. IsSoundAfter z n d) (sym (append-nil before)) s.0)
  split before (e ∷ ds) s =
      let r : AreSoundAfter (before ++ e ∷ []) ds × IsSoundAfter ((before ++ e ∷ []) ++ ds) n d = split (before ++ e ∷ []) ds s.1 in
      ((s.0, r.0), subst (λ z. IsSoundAfter z n d) (append_assoc before (e ∷ []) ds) r.1)

  joined : (before ds : Declarations) → AreSoundAfter before ds → IsSoundAfter (before ++ ds) n d → AreSoundAfter before (ds ++ (n, d) ∷ [])
  joined before [] s h = (subst (λ z. IsSoundAfter z n d) (append-nil before) h, tt)
  joined before (e ∷ ds) s h =
      (s.0, joined (before ++ e ∷ []) ds s.1 (subst (λ z. IsSoundAfter z n d) (sym (append_assoc before (e ∷ []) ds)) h))

pub one_more : (ds : Declarations) (n : Name) (d : Declaration) → IsSound (ds ++ (n, d) ∷ []) ↔ (IsSound ds × IsSoundAfter ds n d)
one_more ds n d = (split n d [] ds, λ s. joined n d [] ds s.0 s.1)

pub gained_lemma : (ds : scope.Declarations) (n : Name) (q : Sequent) (bs : List Binder) → IsSound (declared ds) → Holds (declared ds) q →
    IsSound (declared (ds ++ (n, entry.Lemma q bs) ∷ []))
gained_lemma ds n q bs s h =
    subst IsSound (sym (declared-append ds ((n, entry.Lemma q bs) ∷ []))) ((one_more (declared ds) n (lemma q)).1 (s, h))

pub gained_proof : (ds : scope.Declarations) (n : Name) (p : ProcName) → IsSound (declared ds) → IsTerminating (declared ds) p.module p.name →
    IsSound (declared (ds ++ (n, entry.Terminating p) ∷ []))
gained_proof ds n p s h =
    subst IsSound (sym (declared-append ds ((n, entry.Terminating p) ∷ []))) ((one_more (declared ds) n (terminating p)).1 (s, h))

-- of what claims nothing a sound scope promises nothing
promises_nothing : (before : Declarations) (n : Name) (e : Entry) → is_claim e ≡ false → IsSoundAfter before n (declaration_of e)
promises_nothing before n (entry.ModuleType t) h = tt
promises_nothing before n (entry.AbstractModule t) h = tt
promises_nothing before n (entry.Module m) h = tt
promises_nothing before n (entry.Lemma q order) h = absurd (cc)
promises_nothing before n (entry.Type t) h = tt
promises_nothing before n entry.AbstractType h = tt
promises_nothing before n (entry.Constant c) h = tt
promises_nothing before n (entry.Operator o) h = tt
promises_nothing before n (entry.AbstractOperator o) h = tt
promises_nothing before n (entry.Terminating p) h = absurd (cc)

others_sound : (before : Declarations) (added : scope.Declarations) → ClaimNothing added → AreSoundAfter before (declared added)
others_sound before [] k = tt
others_sound before (d ∷ added) k = (promises_nothing before d.0 d.1 k.0, others_sound (before ++ (d.0, declaration_of d.1) ∷ []) added k.1)

both_sound : (before ds es : Declarations) → AreSoundAfter before ds → AreSoundAfter (before ++ ds) es → AreSoundAfter before (ds ++ es)
both_sound before [] es s k = subst (λ z. AreSoundAfter z es) (append-nil before) k
both_sound before (d ∷ ds) es s k =
    (s.0, both_sound (before ++ d ∷ []) ds es s.1 (subst (λ z. AreSoundAfter z es) (sym (append_assoc before (d ∷ []) ds)) k))

pub gained_others : (ds added : scope.Declarations) → ClaimNothing added → IsSound (declared ds) → IsSound (declared (ds ++ added))
gained_others ds added k s =
    subst IsSound (sym (declared-append ds added)) (both_sound [] (declared ds) (declared added) s (others_sound (declared ds) added k))
