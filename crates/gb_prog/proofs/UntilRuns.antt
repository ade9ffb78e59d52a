-- Open programs, linked with oracles on two sides that are alike until an event has come about, are coupled until it has.
use Rattle.std.proofs.Common.{◌≡◌, Bool, true, false, List, [], ◌∷◌, ◌++◌, map, Option, Some, None, refl, ap, sym, ◌∙◌, subst}
use Rattle.std.proofs.lemmas.Bool.{false≢true}
use Rattle.gb_core.specs.declared.ty.Ty.{Ty}
use Rattle.gb_core.specs.declared.value.Value.{Value}
use Rattle.gb_core.specs.declared.var.Var.{Var}
use Rattle.gb_dist.specs.Coupling.{Coupling}
use Rattle.gb_dist.specs.WeightedList.{On, Every}
use Rattle.gb_dist.proofs.Basic.{coupling_dmap, coupling_weakening}
use Rattle.gb_dist.proofs.Entries.{On_of_Every}
use Rattle.gb_dist.proofs.Facts.{coupling_facts}
use Rattle.gb_terms.specs.declared.decl.TypedName.{TypedName}
use Rattle.gb_terms.specs.declared.term.Term.{Term}
use Rattle.gb_meaning.specs.Memory.{Memory, assigned, outcome, result_in}
use Rattle.gb_meaning.specs.Names.{Map}
use Rattle.gb_meaning.specs.Program.{Program, Routine, Oracle}
use Rattle.gb_meaning.specs.Program.Program.{done, assign, sample, branch, loop, call, ask}
use Rattle.gb_meaning.specs.Program.Routine.{routine}
use Rattle.gb_meaning.specs.Runs.{is_true, new_frame, out, outcomes, returned, routine_denominator, run_denominator, valued}
use Rattle.gb_meaning.specs.Setting.{Setting}
use Rattle.gb_meaning.specs.Sound.{Full, FullRoutine, IsSoundRoutine}
use Rattle.gb_meaning.specs.State.{State, closed}
use Rattle.gb_meaning.specs.Values.{Global}
use Rattle.gb_meaning.specs.Written.{params_of, result_type, type_of as written_type}
use Rattle.gb_meaning.proofs.Runs.{routine_entries, routine_positive}
use Rattle.gb_laws.specs.Programs.{AreValuesOf}
use Rattle.gb_laws.proofs.Fair.{memory_discrete}
use Rattle.gb_meaning.specs.Declared.{Signature}
use Rattle.gb_meaning.specs.Linking.{Oracles, answered, link, link_routine}
use Rattle.gb_meaning.specs.Programs.{IfThere}
use Rattle.gb_meaning.specs.Typing.{Names, type_of, Takes, IsExpression, AreArguments, FitsSignature, IsTyped, IsTypedRoutine}
use Rattle.gb_prog.specs.Coupled.{values_of, Alike, IsKept, Leaves, SameResult}
use Rattle.gb_prog.specs.KeptProperty.{IsApartFrom, Keeps, OraclesKeep}
use Rattle.gb_prog.specs.Until.{AnswerUntil, AreCoupledUntil, OraclesUntil, Until}
use Rattle.gb_prog.proofs.Answering.{Held, held, reads_held}
use Rattle.gb_prog.proofs.Expressions.{same_draws, same_test, same_turns, same_values, values_have}
use Rattle.gb_prog.proofs.KeptRuns.{program_keeps, taken}
use Rattle.gb_prog.proofs.Pairs.{AreBoth, AreFrom, both_assign, both_branch, both_call, both_done, both_loop, both_sample}
use Rattle.gb_prog.proofs.Related.{alike_reads, alike_returned, alike_writes, each_same, same_each}
use Rattle.gb_prog.proofs.Runs.{Draws, assigned_both, draws, ended_both}
use Rattle.gb_prog.proofs.UntilPairs.{Before, either, turns_until}
use Rattle.gb_prog.proofs.Whole.{IsWhole, linked_sound, whole_run}

-- Procedures that answer for an oracle are coupled on alike outcomes, as long as the event hasn't come about: they leave globals that they
-- don't write.
pub answers_until : (g : Setting) (gs : List Global) (B : Map → Bool) (R : Map → Map → Bool) (s : Signature) (r q : Routine) → Leaves g gs r → Leaves g gs q → AreCoupledUntil g gs B R s r q →
    (vs : List Value) → AreValuesOf g.types s.params vs → (G H : Map) → values_of g.types gs G ≡ values_of g.types gs H → B H ≡ false → R G H ≡ true →
    Coupling (Until B (Alike g.types gs R)) (outcomes g r vs G) (routine_denominator g r) (outcomes g q vs H) (routine_denominator g q)
answers_until g gs B R s r q l k c vs w G H e b i =
    coupling_weakening {Q = λ x y. Until B (SameResult R) x y × Held G gs x × Held H gs y} {R = Until B (Alike g.types gs R)}
    (λ x y z f. let t = z.0 f in record {
      frames = t.0;
      own = same_each g.types x.globals y.globals gs (reads_held g G H x y gs (each_same g.types G H gs e) z.1 z.2);
      related = t.1;
    })
    (coupling_facts memory_discrete memory_discrete {Q = Until B (SameResult R)} {l1 = outcomes g r vs G} {k1 = routine_denominator g r} {l2 = outcomes g q vs H} {k2 = routine_denominator g q}
    (Held G gs) (Held H gs) (routine_positive g r l.0) (routine_positive g q k.0)
    (On_of_Every (Held G gs) (outcomes g r vs G) (routine_entries g r l.0 vs G) (held g r vs G gs l.1))
    (On_of_Every (Held H gs) (outcomes g q vs H) (routine_entries g q k.0 vs H) (held g q vs H gs k.1))
    (c vs w G H e b i))

module _ (g : Setting) (ss : Oracle → Option Signature) (B : Map → Bool) (R : Map → Map → Bool) (os qs : Oracles) where
  -- what answers on the right keeps the event, and draws from distributions, as what answers on the left does
  keeping : (gs : List Global) → OraclesUntil g ss gs B R os qs → OraclesKeep g ss B qs
  keeping gs all o s e = one (os o) (qs o) (all o s e)
    where
      one : (p q : Option Routine) → AnswerUntil g gs B R s p q → IfThere (Keeps g B s) q
      one None None w = tt
      one None (Some q) w = absurd w
      one (Some p) None w = absurd w
      one (Some p) (Some q) w = w.2

  left_draws : (gs : List Global) → OraclesUntil g ss gs B R os qs → (o : Oracle) (s : Signature) → ss o ≡ Some s → IfThere (IsSoundRoutine g) (os o)
  left_draws gs all o s e = one (os o) (qs o) (all o s e)
    where
      one : (p q : Option Routine) → AnswerUntil g gs B R s p q → IfThere (IsSoundRoutine g) p
      one None None w = tt
      one None (Some q) w = absurd w
      one (Some p) None w = absurd w
      one (Some p) (Some q) w = w.0.0.0

  right_draws : (gs : List Global) → OraclesUntil g ss gs B R os qs → (o : Oracle) (s : Signature) → ss o ≡ Some s → IfThere (IsSoundRoutine g) (qs o)
  right_draws gs all o s e = one (os o) (qs o) (all o s e)
    where
      one : (p q : Option Routine) → AnswerUntil g gs B R s p q → IfThere (IsSoundRoutine g) q
      one None None w = tt
      one None (Some q) w = absurd w
      one (Some p) None w = absurd w
      one (Some p) (Some q) w = w.0.1.0

  module _ (names : Names) (kept : IsKept names.globals R) (apart : IsApartFrom names.globals B) (all : OraclesUntil g ss names.globals B R os qs) (s : State) where
    abbrev A : Memory → Memory → Type 0
    A = Alike g.types names.globals R

    abbrev U : Memory → Memory → Type 0
    U = Until B A

    abbrev S : Memory → Memory → Type 0
    S = Before B A

    -- both programs, run from memories that are alike, unless the event has come about
    abbrev Both : Program → Program → Type 0
    Both a b = AreBoth g U s a b

    -- .. run before it has
    abbrev From : Program → Program → Type 0
    From a b = AreFrom g S U s a b

    left_whole : (c : Program) → IsTyped g ss names c → Full g (link os c) → IsWhole (out g s (link os c)) (run_denominator g (link os c))
    left_whole c w f = whole_run g s (link os c) (linked_sound g ss os (left_draws names.globals all) names c w) f

    right_whole : (c : Program) → IsTyped g ss names c → Full g (link qs c) → IsWhole (out g s (link qs c)) (run_denominator g (link qs c))
    right_whole c w f = whole_run g s (link qs c) (linked_sound g ss qs (right_draws names.globals all) names c w) f

    -- it is enough that they are coupled where they run before the event
    from_before : (c : Program) → IsTyped g ss names c → Full g (link os c) → Full g (link qs c) → From (link os c) (link qs c) → Both (link os c) (link qs c)
    from_before c w f h k m n u =
        either B A (out g s (link os c)) (run_denominator g (link os c)) (out g s (link qs c)) (run_denominator g (link qs c)) (left_whole c w f) (right_whole c w h)
        (λ n e. program_keeps g ss B qs (keeping names.globals all) names apart c w s n e) k m n u

    -- where both programs run in any case
    before : (a b : Program) → Both a b → From a b
    before a b k m n r = k m n (λ e. r.1)

    sampled_until : (x : Var) (d : Term) (a b : Program) → Draws g names x d → Both a b → From (sample x d a) (sample x d b)
    sampled_until x d a b w k =
        both_sample g S U s x d a b w.distribution (λ m n r. same_draws g names m n (alike_reads g names R kept m n r.1) s d w.expression)
        (λ v m n r e. alike_writes g names R kept x w.ty w.typed v m n r.1) k

    -- a callee that ended with the event leads the caller to it
    before_return : (xs : List Var) (u : Ty) → Takes names xs u → (n z : Memory) → B (let o = returned g xs n z in o.globals) ≡ false → B z.globals ≡ false
    before_return xs u w n z e = step (B z.globals) refl
      where
        step : (b : Bool) → B z.globals ≡ b → B z.globals ≡ false
        step true h = absurd (false≢true (sym e ∙ taken g ss B qs (keeping names.globals all) names apart s xs u w (result_in z) (record { globals = z.globals; frame = n.frame }) h))
        step false h = h

    called_until : (xs : List Var) (p q : Routine) (es : List Term) (a b : Program) (ps : List TypedName) (u : Ty) → AreArguments g names es ps → Takes names xs u →
        ((vs : List Value) → AreValuesOf g.types ps vs → (G H : Map) → values_of g.types names.globals G ≡ values_of g.types names.globals H → B H ≡ false → R G H ≡ true →
        Coupling U (outcomes g p vs G) (routine_denominator g p) (outcomes g q vs H) (routine_denominator g q)) →
        Both a b → From (call xs p es a) (call xs q es b)
    called_until xs p q es a b ps u w k ends l =
        both_call g S U s U xs p q es a b
        (λ m n r. subst (λ vs. Coupling U (outcomes g p (map (λ e. valued g s e m) es) m.globals) (routine_denominator g p) (outcomes g q vs n.globals) (routine_denominator g q))
        (same_values g names m n (alike_reads g names R kept m n r.1) s es ps w)
        (ends (map (λ e. valued g s e m) es) (values_have g names s m es ps w) m.globals n.globals (let y = r.1 in y.own) r.0 (let y = r.1 in y.related)))
        (λ m n r o z h e. alike_returned g names R kept xs u k m n r.1 o z (h (before_return xs u k n z e))) l

    answered_until : (xs : List Var) (o : Oracle) (es : List Term) (a b : Program) (u : Signature) → FitsSignature g names (Some u) xs es → Both a b →
        (p q : Option Routine) → AnswerUntil g names.globals B R u p q → From (answered p xs o es a) (answered q xs o es b)
    answered_until xs o es a b u w k None None h m n r = k m n (λ e. r.1)
    answered_until xs o es a b u w k None (Some q) h m n r = absurd h
    answered_until xs o es a b u w k (Some p) None h m n r = absurd h
    answered_until xs o es a b u w k (Some p) (Some q) h m n r =
        called_until xs p q es a b u.params u.result w.0 w.1 (answers_until g names.globals B R u p q h.0.0 h.0.1 h.1) k m n r

    asked_until : (xs : List Var) (o : Oracle) (es : List Term) (a b : Program) (u : Option Signature) → ss o ≡ u → FitsSignature g names u xs es →
        Both a b → From (answered (os o) xs o es a) (answered (qs o) xs o es b)
    asked_until xs o es a b None e w k = absurd w
    asked_until xs o es a b (Some u) e w k = answered_until xs o es a b u w k (os o) (qs o) (all o u e)

  full_rest : (p : Option Routine) (xs : List Var) (o : Oracle) (es : List Term) (c : Program) → Full g (answered p xs o es c) → Full g c
  full_rest None xs o es c f = f
  full_rest (Some r) xs o es c f = f.1

  mutual
    pub program_until : (names : Names) → IsKept names.globals R → IsApartFrom names.globals B → OraclesUntil g ss names.globals B R os qs → (c : Program) → IsTyped g ss names c →
        Full g (link os c) → Full g (link qs c) → (s : State) → AreBoth g (Until B (Alike g.types names.globals R)) s (link os c) (link qs c)
    program_until names kept apart all done w f h s = both_done g (U names kept apart all s) s
    program_until names kept apart all (assign xs e c) w f h s =
        from_before names kept apart all s (assign xs e c) w f h
        (both_assign g (S names kept apart all s) (U names kept apart all s) s xs e (link os c) (link qs c) (λ m n r z. assigned_both g ss R os qs names kept s xs e w.0.0 w.1 m n r.1)
        (program_until names kept apart all c w.2 f h s))
    program_until names kept apart all (sample x d c) w f h s =
        from_before names kept apart all s (sample x d c) w f h
        (sampled_until names kept apart all s x d (link os c) (link qs c) (draws g names x d (type_of names x) refl w.0) (program_until names kept apart all c w.1 f.1 h.1 s))
    program_until names kept apart all (branch e a b c) w f h s =
        from_before names kept apart all s (branch e a b c) w f h
        (both_branch g (S names kept apart all s) (U names kept apart all s) s e (link os a) (link os b) (link os c) (link qs a) (link qs b) (link qs c)
        (λ m n r. same_test g names m n (alike_reads g names R kept m n r.1) s e w.0.0.0)
        (before names kept apart all s (link os a) (link qs a) (program_until names kept apart all a w.1 f.0 h.0 s))
        (before names kept apart all s (link os b) (link qs b) (program_until names kept apart all b w.2 f.1 h.1 s))
        (program_until names kept apart all c w.3 f.2 h.2 s))
    program_until names kept apart all (loop e v a c) w f h s =
        from_before names kept apart all s (loop e v a c) w f h
        (both_loop g (S names kept apart all s) (U names kept apart all s) s e v (link os a) (link os c) (link qs a) (link qs c)
        (λ m n r. same_turns g names m n (alike_reads g names R kept m n r.1) s v w.1.0.0)
        (λ j m n r. turns_until B (A names kept apart all s) (is_true g s e) (is_true g s e) (λ o. out g s (link os a) o) (λ o. out g s (link qs a) o) (run_denominator g (link os a)) (run_denominator g (link qs a))
        (left_whole names kept apart all s a w.2 f.0) (right_whole names kept apart all s a w.2 h.0)
        (λ n e. program_keeps g ss B qs (keeping names.globals all) names apart a w.2 s n e)
        (λ m n r. same_test g names m n (alike_reads g names R kept m n r.1) s e w.0.0.0)
        (program_until names kept apart all a w.2 f.0 h.0 s) j m n (λ e. r.1))
        (program_until names kept apart all c w.3 f.1 h.1 s))
    program_until names kept apart all (call xs r es c) w f h s =
        from_before names kept apart all s (call xs r es c) w f h
        (called_until names kept apart all s xs (link_routine os r) (link_routine qs r) es (link os c) (link qs c) (params_of r) (result_type r) w.1 w.2
        (λ vs k G H e b i. routine_until names.globals kept apart all r w.0 f.0 h.0 vs vs G H (λ z. (refl, e, i))) (program_until names kept apart all c w.3 f.1 h.1 s))
    program_until names kept apart all (ask xs o es c) w f h s =
        from_before names kept apart all s (ask xs o es c) w f h
        (asked_until names kept apart all s xs o es (link os c) (link qs c) (ss o) refl w.0
        (program_until names kept apart all c w.1 (full_rest (os o) xs o es (link os c) f) (full_rest (qs o) xs o es (link qs c) h) s))

    pub routine_until : (gs : List Global) → IsKept gs R → IsApartFrom gs B → OraclesUntil g ss gs B R os qs → (r : Routine) → IsTypedRoutine g ss gs r →
        FullRoutine g (link_routine os r) → FullRoutine g (link_routine qs r) →
        (vs us : List Value) (G H : Map) → (B H ≡ false → (vs ≡ us) × (values_of g.types gs G ≡ values_of g.types gs H) × (R G H ≡ true)) →
        Coupling (Until B (Alike g.types gs R)) (outcomes g (link_routine os r) vs G) (routine_denominator g (link_routine os r)) (outcomes g (link_routine qs r) us H) (routine_denominator g (link_routine qs r))
    routine_until gs kept apart all (routine ps ls c r) w f h vs us G H start =
        let inner : Names = record { globals = gs; locals = ps ++ ls } in
        coupling_dmap {Q = Until B (Alike g.types gs R)} (Until B (Alike g.types gs R)) (λ n. outcome n.globals (valued g closed r n)) (λ n. outcome n.globals (valued g closed r n))
        (λ m n k e. ended_both g ss R os qs inner kept closed r w.2.0 m n (k e))
        (program_until inner kept apart all c w.1 f h closed (record { globals = G; frame = new_frame g ps ls vs }) (record { globals = H; frame = new_frame g ps ls us })
        (λ e. let z = start e in record { frames = ap (new_frame g ps ls) z.0; own = z.1; related = z.2 }))
