-- Open programs, linked with oracles on two sides that are alike, are coupled.
use Rattle.std.proofs.Common.{◌≡◌, Bool, true, List, [], ◌∷◌, ◌++◌, map, Option, Some, None, refl, ap, subst}
use Rattle.gb_core.specs.declared.ty.Ty.{Ty}
use Rattle.gb_core.specs.declared.value.Value.{Value}
use Rattle.gb_core.specs.declared.var.Var.{Var}
use Rattle.gb_dist.specs.Coupling.{Coupling}
use Rattle.gb_dist.proofs.Basic.{coupling_dmap}
use Rattle.gb_terms.specs.declared.decl.TypedName.{TypedName}
use Rattle.gb_terms.specs.declared.term.Term.{Term}
use Rattle.gb_meaning.specs.Memory.{Memory, assigned, outcome, result_name}
use Rattle.gb_meaning.specs.Names.{Map, empty, set}
use Rattle.gb_meaning.specs.Program.{Program, Routine, Oracle}
use Rattle.gb_meaning.specs.Program.Program.{done, assign, sample, branch, loop, call, ask}
use Rattle.gb_meaning.specs.Program.Routine.{routine}
use Rattle.gb_meaning.specs.Runs.{is_true, new_frame, out, outcomes, routine_denominator, run_denominator, valued}
use Rattle.gb_meaning.specs.Setting.{Setting}
use Rattle.gb_meaning.specs.Sound.{IsDistribution}
use Rattle.gb_meaning.specs.State.{State, closed}
use Rattle.gb_meaning.specs.Values.{Global}
use Rattle.gb_meaning.specs.Written.{params_of, result_type, type_of as written_type}
use Rattle.gb_laws.specs.Programs.{AreValuesOf}
use Rattle.gb_meaning.specs.Declared.{Signature}
use Rattle.gb_meaning.specs.Linking.{Oracles, answered, link, link_routine}
use Rattle.gb_meaning.specs.Typing.{Names, type_of, Takes, IsExpression, IsDistributionOver, AreArguments, FitsSignature, IsTyped, IsTypedRoutine}
use Rattle.gb_prog.specs.Coupled.{values_of, IsKept, Alike, AnswerAlike, OraclesAlike}
use Rattle.gb_prog.proofs.Answering.{answers_coupled}
use Rattle.gb_prog.proofs.Expressions.{same_value, same_test, same_turns, same_draws, same_values, values_have}
use Rattle.gb_prog.proofs.Pairs.{AreBoth, both_done, both_assign, both_sample, both_branch, both_loop, both_call}
use Rattle.gb_prog.proofs.Related.{alike_reads, alike_writes, alike_assigned, alike_returned}
use Rattle.gb_prog.proofs.Turns.{turns_coupled}

-- what a distribution over a variable's values is
pub record Draws (g : Setting) (names : Names) (x : Var) (d : Term) : Type 0 where
  pub ty : Ty
  pub typed : type_of names x ≡ Some ty
  pub expression : IsExpression names d
  pub distribution : IsDistribution g d

pub draws : (g : Setting) (names : Names) (x : Var) (d : Term) (o : Option Ty) → type_of names x ≡ o → IsDistributionOver g names o d → Draws g names x d
draws g names x d None e w = absurd w
draws g names x d (Some u) e w = record { ty = u; typed = e; expression = w.0; distribution = w.1 }

module _ (g : Setting) (ss : Oracle → Option Signature) (R : Map → Map → Bool) (os qs : Oracles) where
  module _ (names : Names) (kept : IsKept names.globals R) (s : State) where
    abbrev A : Memory → Memory → Type 0
    A = Alike g.types names.globals R

    -- both programs, run from memories that are alike
    abbrev Both : Program → Program → Type 0
    Both a b = AreBoth g A s a b

    pub assigned_both : (xs : List Var) (e : Term) → IsExpression names e → Takes names xs (written_type e) → (m n : Memory) → A m n →
        A (assigned g.types m xs (valued g s e m)) (assigned g.types n xs (valued g s e n))
    assigned_both xs e w k m n r =
        subst (λ v. A (assigned g.types m xs (valued g s e m)) (assigned g.types n xs v)) (same_value g names m n (alike_reads g names R kept m n r) s e w)
        (alike_assigned g names R kept xs (written_type e) k (valued g s e m) m n r)

    sampled_both : (x : Var) (d : Term) (a b : Program) → Draws g names x d → Both a b → Both (sample x d a) (sample x d b)
    sampled_both x d a b w k =
        both_sample g A A s x d a b w.distribution (λ m n r. same_draws g names m n (alike_reads g names R kept m n r) s d w.expression)
        (λ v m n r. alike_writes g names R kept x w.ty w.typed v m n r) k

    -- calls with the same arguments, of procedures that are coupled from such
    called_both : (xs : List Var) (p q : Routine) (es : List Term) (a b : Program) (ps : List TypedName) (u : Ty) → AreArguments g names es ps → Takes names xs u →
        ((vs : List Value) → AreValuesOf g.types ps vs → (G H : Map) → values_of g.types names.globals G ≡ values_of g.types names.globals H → R G H ≡ true →
        Coupling A (outcomes g p vs G) (routine_denominator g p) (outcomes g q vs H) (routine_denominator g q)) →
        Both a b → Both (call xs p es a) (call xs q es b)
    called_both xs p q es a b ps u w k ends l =
        both_call g A A s A xs p q es a b
        (λ m n r. subst (λ vs. Coupling A (outcomes g p (map (λ e. valued g s e m) es) m.globals) (routine_denominator g p) (outcomes g q vs n.globals) (routine_denominator g q))
        (same_values g names m n (alike_reads g names R kept m n r) s es ps w)
        (ends (map (λ e. valued g s e m) es) (values_have g names s m es ps w) m.globals n.globals r.own r.related))
        (λ m n r o z h. alike_returned g names R kept xs u k m n r o z h) l

    answered_both : (xs : List Var) (o : Oracle) (es : List Term) (a b : Program) (u : Signature) → FitsSignature g names (Some u) xs es → Both a b →
        (p q : Option Routine) → AnswerAlike g names.globals R u p q → Both (answered p xs o es a) (answered q xs o es b)
    answered_both xs o es a b u w k None None h = k
    answered_both xs o es a b u w k None (Some q) h = absurd h
    answered_both xs o es a b u w k (Some p) None h = absurd h
    answered_both xs o es a b u w k (Some p) (Some q) h =
        called_both xs p q es a b u.params u.result w.0 w.1 (answers_coupled g names.globals R u p q h.0 h.1 h.2) k

    asked_both : OraclesAlike g ss names.globals R os qs → (xs : List Var) (o : Oracle) (es : List Term) (a b : Program) (u : Option Signature) → ss o ≡ u → FitsSignature g names u xs es →
        Both a b → Both (answered (os o) xs o es a) (answered (qs o) xs o es b)
    asked_both alike xs o es a b None e w k = absurd w
    asked_both alike xs o es a b (Some u) e w k = answered_both xs o es a b u w k (os o) (qs o) (alike o u e)

    -- outcomes with the same result
    pub ended_both : (e : Term) → IsExpression names e → (m n : Memory) → A m n → A (outcome m.globals (valued g s e m)) (outcome n.globals (valued g s e n))
    ended_both e w m n r = record {
      frames = ap (λ v. set empty (result_name ∷ []) v) (same_value g names m n (alike_reads g names R kept m n r) s e w);
      own = r.own;
      related = r.related;
    }

  mutual
    pub program_coupled : (names : Names) → IsKept names.globals R → OraclesAlike g ss names.globals R os qs → (c : Program) → IsTyped g ss names c → (s : State) →
        AreBoth g (Alike g.types names.globals R) s (link os c) (link qs c)
    program_coupled names kept alike done w s = both_done g (A names kept s) s
    program_coupled names kept alike (assign xs e c) w s =
        both_assign g (A names kept s) (A names kept s) s xs e (link os c) (link qs c) (assigned_both names kept s xs e w.0.0 w.1) (program_coupled names kept alike c w.2 s)
    program_coupled names kept alike (sample x d c) w s =
        sampled_both names kept s x d (link os c) (link qs c) (draws g names x d (type_of names x) refl w.0) (program_coupled names kept alike c w.1 s)
    program_coupled names kept alike (branch e a b c) w s =
        both_branch g (A names kept s) (A names kept s) s e (link os a) (link os b) (link os c) (link qs a) (link qs b) (link qs c)
        (λ m n r. same_test g names m n (alike_reads g names R kept m n r) s e w.0.0.0)
        (program_coupled names kept alike a w.1 s) (program_coupled names kept alike b w.2 s) (program_coupled names kept alike c w.3 s)
    program_coupled names kept alike (loop e v a c) w s =
        both_loop g (A names kept s) (A names kept s) s e v (link os a) (link os c) (link qs a) (link qs c)
        (λ m n r. same_turns g names m n (alike_reads g names R kept m n r) s v w.1.0.0)
        (turns_coupled (is_true g s e) (is_true g s e) (λ o. out g s (link os a) o) (λ o. out g s (link qs a) o) (run_denominator g (link os a)) (run_denominator g (link qs a)) (A names kept s)
        (λ m n r. same_test g names m n (alike_reads g names R kept m n r) s e w.0.0.0) (λ m n r t. program_coupled names kept alike a w.2 s m n r))
        (program_coupled names kept alike c w.3 s)
    program_coupled names kept alike (call xs r es c) w s =
        called_both names kept s xs (link_routine os r) (link_routine qs r) es (link os c) (link qs c) (params_of r) (result_type r) w.1 w.2
        (λ vs k. routine_coupled names.globals kept alike r w.0 vs) (program_coupled names kept alike c w.3 s)
    program_coupled names kept alike (ask xs o es c) w s =
        asked_both names kept s alike xs o es (link os c) (link qs c) (ss o) refl w.0 (program_coupled names kept alike c w.1 s)

    pub routine_coupled : (gs : List Global) → IsKept gs R → OraclesAlike g ss gs R os qs → (r : Routine) → IsTypedRoutine g ss gs r →
        (vs : List Value) (G H : Map) → values_of g.types gs G ≡ values_of g.types gs H → R G H ≡ true →
        Coupling (Alike g.types gs R) (outcomes g (link_routine os r) vs G) (routine_denominator g (link_routine os r)) (outcomes g (link_routine qs r) vs H) (routine_denominator g (link_routine qs r))
    routine_coupled gs kept alike (routine ps ls c r) w vs G H e i =
        let inner : Names = record { globals = gs; locals = ps ++ ls } in
        coupling_dmap {Q = Alike g.types gs R} (Alike g.types gs R) (λ n. outcome n.globals (valued g closed r n)) (λ n. outcome n.globals (valued g closed r n))
        (ended_both inner kept closed r w.2.0)
        (program_coupled inner kept alike c w.1 closed (record { globals = G; frame = new_frame g ps ls vs }) (record { globals = H; frame = new_frame g ps ls vs }) (record { frames = refl; own = e; related = i }))
