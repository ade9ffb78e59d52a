-- Programs are within a binder alike in settings with the same sizes of types and the same operators.
use Rattle.std.proofs.Common.{◌≡◌, ℕ, ◌≤◌, Bool, true, false, ◌||◌, if◌then◌else◌, not, List, [], ◌∷◌, Option, Some, None, bytes_eq, refl, sym, ◌∙◌, subst}
use Rattle.std.specs.List.{list_any}
use Rattle.std.proofs.lemmas.Option.{none-some, cond_some}
use Rattle.std.proofs.lemmas.Bool.{false≢true}
use Rattle.std.proofs.lemmas.Slice.Eq.{bytes_eq-Decides}
use Rattle.gb_core.specs.declared.ty.Ty.{Ty}
use Rattle.gb_terms.specs.declared.module.Bound.{Bound}
use Rattle.gb_terms.specs.declared.term.Term.{Term}
use Rattle.gb_dist.specs.WeightedList.{total, Every}
use Rattle.gb_meaning.specs.Names.{Name}
use Rattle.gb_meaning.specs.Values.{Global, World}
use Rattle.gb_meaning.specs.Memory.{Memory}
use Rattle.gb_meaning.specs.Program.{Program, Routine, Oracle}
use Rattle.gb_meaning.specs.Program.Program.{done, assign, sample, branch, loop, call, ask}
use Rattle.gb_meaning.specs.Program.Routine.{routine}
use Rattle.gb_meaning.specs.Setting.{Setting}
use Rattle.gb_meaning.specs.Sound.{IsFull, Full, FullRoutine}
use Rattle.gb_meaning.specs.Declared.{Declarations, ModuleType, Signature}
use Rattle.gb_meaning.specs.Modules.{found}
use Rattle.gb_meaning.specs.Linking.{Oracles, link_routine}
use Rattle.gb_meaning.specs.Typing.{Names, IsPlain, global_type, IsTyped, IsTypedRoutine}
use Rattle.gb_meaning.specs.Adversary.{Adversary, may_call, oracle_signature, callable}
use Rattle.gb_meaning.specs.Programs.{AreIn, IfThere, IsProcedureFor, HasProcedures, IsProgramFor, AreFull}
use Rattle.gb_meaning.specs.Bounds.{counted_if_there, IsAnswer, AreOracles, oracle_in, counted_run, EachCallsAtMost, GroupCall, IsEntry, without, Agree, IsGroupRun, IsBounded}
use Rattle.gb_meaning.proofs.Links.{link_routine-linked}
use Rattle.gb_typing.specs.Agreement.{SameTerm}
use Rattle.gb_meaning.specs.Naming.{AnyName}
use Rattle.gb_typing.specs.Naming.{NoName, RoutineNames, NamesIfThere}
use Rattle.gb_typing.specs.Formed.{IsSigned, AreSigned, AreSignedBounds}
use Rattle.gb_typing.proofs.SameTerms.{denominator_same, globals_same}
use Rattle.gb_typing.proofs.SamePrograms.{distribution_same}
use Rattle.gb_typing.proofs.PlainGlobals.{EachPlain, plain-globals}
use Rattle.gb_typing.proofs.TypedAlike.{SameBasis, turned-basis, over-alike, typed-routine-to}
use Rattle.gb_typing.proofs.Agreeing.{routine_agrees}
use Rattle.gb_typing.proofs.TypedNames.{linked-routine-names}
use Rattle.gb_typing.proofs.CountedAlike.{run_counted_same}

none-open : Oracles
none-open o = None

-- globals of a world of types of variables have such types

plain-if : (b : Bool) (y t : Ty) (o : Option Ty) → IsPlain y → (o ≡ Some t → IsPlain t) → (if b then Some y else o) ≡ Some t → IsPlain t
plain-if true y t o p q e = subst IsPlain (cond_some true y t e).1 p
plain-if false y t o p q e = q e

plain-global : (w : World) → EachPlain w → (m x : Name) (t : Ty) → global_type w m x ≡ Some t → IsPlain t
plain-global [] p m x t e = absurd (none-some t e)
plain-global (y ∷ w) p m x t e = plain-if _ y.ty t (global_type w m x) p.0 (plain-global w p.1 m x t) e

pub plain-in : (w : World) → EachPlain w → (gs : List Global) → AreIn w gs → EachPlain gs
plain-in w p [] k = tt
plain-in w p (x ∷ gs) k = (plain-global w p x.parent x.name x.ty k.0, plain-in w p gs k.1)

-- signed names

signed-of : (ss : List Signature) (f n : Name) → bytes_eq n f ≡ true → IsSigned ss f → IsSigned ss n
signed-of ss f n e k = subst (IsSigned ss) (sym ((bytes_eq-Decides n f).0 e)) k

among-if : (b c : Bool) (A : Type 0) → (b ≡ true → A) → (c ≡ true → A) → (b || c) ≡ true → A
among-if true c A f g e = f refl
among-if false c A f g e = g e

signed-among : (ss : List Signature) (fs : List Name) → AreSigned ss fs → (n : Name) → list_any (bytes_eq n) fs ≡ true → IsSigned ss n
signed-among ss [] k n e = absurd (false≢true e)
signed-among ss (f ∷ fs) k n e =
    among-if (bytes_eq n f) (list_any (bytes_eq n) fs) (IsSigned ss n) (λ z. signed-of ss f n z k.0) (signed-among ss fs k.1 n) e

signed-if : (b : Bool) (ss : List Signature) (f : Name) (fs : List Name) → IsSigned ss f → AreSigned ss fs → AreSigned ss (if b then f ∷ fs else fs)
signed-if true ss f fs k l = (k, l)
signed-if false ss f fs k l = l

signed-without : (ss : List Signature) (n : Name) (fs : List Name) → AreSigned ss fs → AreSigned ss (without n fs)
signed-without ss n [] k = tt
signed-without ss n (f ∷ fs) k = signed-if (not (bytes_eq n f)) ss f (without n fs) k.0 (signed-without ss n fs k.1)

module _ (g h : Setting) (a : SameBasis g h) where
  full-term-to : (d : Term) → SameTerm g h d → IsFull g d → IsFull h d
  full-term-to d e k s = subst (λ z. z) (λ i. total (distribution_same g h d e s i) ≡ denominator_same g h d e i) (k s)

  module _ (ss : Oracle → Option Signature) where
    mutual
      full-to : (n : Names) (c : Program) → IsTyped g ss n c → Full g c → Full h c
      full-to n done t k = tt
      full-to n (assign xs e c) t k = full-to n c t.2 k
      full-to n (sample x d c) t k = (full-term-to d (over-alike g h a n _ d t.0) k.0, full-to n c t.1 k.1)
      full-to n (branch e b d c) t k = (full-to n b t.1 k.0, full-to n d t.2 k.1, full-to n c t.3 k.2)
      full-to n (loop e v b c) t k = (full-to n b t.2 k.0, full-to n c t.3 k.1)
      full-to n (call xs r es c) t k = (full-routine-to n.globals r t.0 k.0, full-to n c t.3 k.1)
      full-to n (ask xs o es c) t k = full-to n c t.1 k

      full-routine-to : (gs : List Global) (r : Routine) → IsTypedRoutine g ss gs r → FullRoutine g r → FullRoutine h r
      full-routine-to gs (routine ps ls c r) t k = full-to _ c t.1 k

  module _ (w : World) (p : EachPlain w) where
    answer-to : (s : Option Signature) (r : Option Routine) → IsAnswer g w s r → IsAnswer h w s r
    answer-to None r k = tt
    answer-to (Some s) None k = absurd k
    answer-to (Some s) (Some r) k = (k.0, k.1, typed-routine-to g h a (λ o. None) w p r k.2)

    answer-names : (s : Signature) (r : Option Routine) → IsAnswer g w (Some s) r → NamesIfThere NoName AnyName r
    answer-names s None k = absurd k
    answer-names s (Some r) k =
        subst (RoutineNames NoName AnyName) (link_routine-linked none-open r k.1)
        (linked-routine-names NoName g (λ o. None) none-open (λ o s e. absurd (none-some s e)) w r k.2)

    module _ (ds : Declarations) (t : ModuleType) where
      oracles-alike : (os : Oracles) → AreOracles ds g w t os → AreOracles ds h w t os
      oracles-alike os k o = answer-to (oracle_signature ds t.params o) (os o) (k o)

      called-if : (b : Bool) (o : Option Signature) (s : Signature) → (if b then o else None) ≡ Some s → o ≡ Some s
      called-if true o s e = e
      called-if false o s e = absurd (none-some s e)

      asked-names : (os : Oracles) → AreOracles ds g w t os → (s : Signature) (o : Oracle) (r : Signature) → callable ds t s o ≡ Some r →
          NamesIfThere NoName AnyName (os o)
      asked-names os k s o r e =
          answer-names r (os o)
          (subst (λ z. IsAnswer g w z (os o)) (called-if (may_call s.oracles o) (oracle_signature ds t.params o) r e) (k o))

      module _ (v : Adversary) (inside : EachPlain v.footprint) where
        procedure-to : (s : Signature) (r : Option Routine) → IsProcedureFor g (callable ds t s) v.footprint s r → IsProcedureFor h (callable ds t s) v.footprint s r
        procedure-to s None k = absurd k
        procedure-to s (Some r) k = (k.0, typed-routine-to g h a (callable ds t s) v.footprint inside r k.1)

        procedures-alike : (ss : List Signature) → HasProcedures ds g t v ss → HasProcedures ds h t v ss
        procedures-alike [] k = tt
        procedures-alike (s ∷ ss) k = (procedure-to s (found v.procedures s.name) k.0, procedures-alike ss k.1)

        full-there : (s : Signature) (r : Option Routine) → IsProcedureFor g (callable ds t s) v.footprint s r → IfThere (FullRoutine g) r → IfThere (FullRoutine h) r
        full-there s None k f = tt
        full-there s (Some r) k f = full-routine-to (callable ds t s) v.footprint r k.1 f

        pub all-full : (ss : List Signature) → HasProcedures ds g t v ss → AreFull g v ss → AreFull h v ss
        all-full [] k f = tt
        all-full (s ∷ ss) k f = (full-there s (found v.procedures s.name) k.0 f.0, all-full ss k.1 f.1)

        module _ (os : Oracles) (good : AreOracles ds g w t os) (o : Oracle) where
          run-of : (s : Signature) (r : Option Routine) → IsProcedureFor g (callable ds t s) v.footprint s r → (m : Memory) →
              counted_if_there g os o r m ≡ counted_if_there h os o r m
          run-of s None k m = absurd k
          run-of s (Some r) k m =
              run_counted_same g h os o r
              (routine_agrees NoName AnyName g h a (link_routine os r)
              (linked-routine-names NoName g (callable ds t s) os (asked-names os good s) v.footprint r k.1)) m

          run-if : (b : Bool) (s : Signature) (f : Name) (ss : List Signature) → bytes_eq f s.name ≡ b →
              IsProcedureFor g (callable ds t s) v.footprint s (found v.procedures s.name) →
              (IsSigned ss f → (m : Memory) → counted_run g v os o f m ≡ counted_run h v os o f m) →
              (b || list_any (λ (r : Signature). bytes_eq f r.name) ss) ≡ true → (m : Memory) → counted_run g v os o f m ≡ counted_run h v os o f m
          run-if true s f ss e k rest z m =
              subst (λ n. counted_run g v os o n m ≡ counted_run h v os o n m) (sym ((bytes_eq-Decides f s.name).0 e)) (run-of s (found v.procedures s.name) k m)
          run-if false s f ss e k rest z m = rest z m

          run-alike : (ss : List Signature) → HasProcedures ds g t v ss → (f : Name) → IsSigned ss f → (m : Memory) →
              counted_run g v os o f m ≡ counted_run h v os o f m
          run-alike [] k f z m = absurd (false≢true z)
          run-alike (s ∷ ss) k f z m = run-if (bytes_eq f s.name) s f ss refl k.0 (run-alike ss k.1 f) z m

module _ (g h : Setting) (a : SameBasis g h) (w : World) (p : EachPlain w) (ds : Declarations) (t : ModuleType) (v : Adversary) (x : IsProgramFor ds g w t v) where
  inside : EachPlain v.footprint
  inside = plain-in w p v.footprint x.known

  pub program-alike : IsProgramFor ds h w t v
  program-alike = record { ordered = x.ordered; known = x.known; procedures = procedures-alike g h a w p ds t v inside t.signatures x.procedures }

  oracles-back : (os : Oracles) → AreOracles ds h w t os → AreOracles ds g w t os
  oracles-back os k = oracles-alike h g (turned-basis g h a) w p ds t os k

  counted-alike : (os : Oracles) → AreOracles ds g w t os → (o : Oracle) (f : Name) → IsSigned t.signatures f → (m : Memory) →
      counted_run g v os o f m ≡ counted_run h v os o f m
  counted-alike os good o f z m = run-alike g h a w p ds t v inside os good o t.signatures x.procedures f z m

  each-calls : (o : Oracle) (q : ℕ) (fs : List Name) → AreSigned t.signatures fs → EachCallsAtMost ds g w t v o q fs → EachCallsAtMost ds h w t v o q fs
  each-calls o q [] z k = tt
  each-calls o q (f ∷ fs) z k = (
    λ os good m. subst (Every (λ r. r.1 ≤ q)) (counted-alike os (oracles-back os good) o f z.0 m) (k.0 os (oracles-back os good) m),
    each-calls o q fs z.1 k.1,
  )

  agree-back : (m n : Memory) → Agree h v.footprint m n → Agree g v.footprint m n
  agree-back m n e =
      let same = plain-globals g.types h.types a.sizes v.footprint inside in
      globals_same g.types h.types m v.footprint v.footprint refl same ∙ e ∙ sym (globals_same g.types h.types n v.footprint v.footprint refl same)

  group-back : (o : Oracle) (fs : List Name) → AreSigned t.signatures fs → (m : Memory) (cs : List GroupCall) →
      IsGroupRun ds h w t v o fs m cs → IsGroupRun ds g w t v o fs m cs
  group-back o fs z m [] k = tt
  group-back o fs z m (c ∷ cs) k =
      let good = oracles-back c.oracles k.1.0 in (
        k.0,
        (good, k.1.1),
        agree-back m c.before k.2,
        subst (IsEntry (c.after, c.tally)) (sym (counted-alike c.oracles good o c.name (signed-among t.signatures fs z c.name k.0) c.before)) k.3,
        group-back o (without c.name fs) (signed-without t.signatures c.name fs z) c.after cs k.4,
      )

  pub bounded-alike : (bs : List Bound) → AreSignedBounds t.signatures bs → IsBounded ds g w t v bs → IsBounded ds h w t v bs
  bounded-alike [] z k = tt
  bounded-alike (b ∷ bs) z k = (
    each-calls (oracle_in b.oracle) b.most b.procs z.0 k.0,
    (λ m cs r. k.1 m cs (group-back (oracle_in b.oracle) b.procs z.0 m cs r)),
    bounded-alike bs z.1 k.2,
  )

  pub full-alike : AreFull g v t.signatures → AreFull h v t.signatures
  full-alike f = all-full g h a w p ds t v inside t.signatures x.procedures f
