-- `while` on two bodies is sound.
use Rattle.std.proofs.Common.{◌≡◌, true, false, List, [], ◌∷◌, Option, Some, None, ◌&&◌, refl, ap, sym, ◌∙◌, subst}
use Rattle.std.proofs.lemmas.Bool.{and_parts}
use Rattle.gb_core.specs.declared.refusal.Why.TheVariants.{Shape, SideCondition}
use Rattle.gb_core.specs.declared.var.Var.{Var}
use Rattle.gb_dist.specs.Coupling.{Coupling}
use Rattle.gb_dist.proofs.Basic.{coupling_weakening}
use Rattle.gb_terms.specs.declared.decl.TypedName.{TypedName}
use Rattle.gb_terms.specs.declared.op.Side.{Side}
use Rattle.gb_terms.specs.declared.op.Side.TheVariants as side
use Rattle.gb_terms.specs.declared.term.Instr.{Instr}
use Rattle.gb_terms.specs.declared.term.Term.{Term}
use Rattle.gb_meaning.proofs.Truths.{true_equal}
use Rattle.gb_meaning.specs.Commands.{statements}
use Rattle.gb_meaning.specs.Judgments.{Judge, IsFair, IsTrueUnder, den, speaking}
use Rattle.gb_meaning.specs.Meanings.{truth, value_in}
use Rattle.gb_meaning.specs.Memory.{Memory}
use Rattle.gb_meaning.specs.Runs.{is_true}
use Rattle.gb_meaning.specs.Setting.{Setting}
use Rattle.gb_meaning.specs.Setting.Meaning.{finite}
use Rattle.gb_meaning.specs.State.{State, between, inside}
use Rattle.gb_meaning.specs.Terms.{quiet, val}
use Rattle.gb_laws.specs.Uses.{Uses, IsWithin}
use Rattle.gb_laws.specs.Finite.{IsFinite}
use Rattle.gb_goal.specs.Answers.Answer.{given}
use Rattle.gb_goal.specs.Goal.{Goal}
use Rattle.gb_goal.specs.Goal.Code.{body}
use Rattle.gb_goal.specs.Goal.Goal.{equiv}
use Rattle.gb_goal.specs.Scope.{Declarations}
use Rattle.gb_goal.specs.declared.sequent.Sequent.{Sequent}
use Rattle.gb_meaning.specs.Declared.{declared}
use Rattle.gb_typing.specs.Context.{Context}
use Rattle.gb_typing.specs.Fits.{IsSettingOf, IsStateOf}
use Rattle.gb_mods.specs.Exclusions.{exclusions}
use Rattle.gb_prog.proofs.KeptOff.{kept_off}
use Rattle.gb_typing.specs.Forms.{IsKeptOff, and_form, equal_form, located, not_form}
use Rattle.gb_typing.specs.Goals.{IsGoalOver}
use Rattle.gb_typing.specs.Meaning.{run, denominator}
use Rattle.gb_typing.specs.Programs.{HaveVariableTypes, IsBody}
use Rattle.gb_typing.specs.Puts.{Readable, reading}
use Rattle.gb_typing.specs.Rules.{IsSettingOver, outermost}
use Rattle.gb_typing.specs.Scopes.{context_of, IsTypedScope}
use Rattle.gb_typing.specs.Sequents.{of_sequent, IsTypedSequent, two}
use Rattle.gb_typing.specs.Typing.{IsForm}
use Rattle.gb_typing.proofs.Both.{within_both}
use Rattle.gb_typing.proofs.Fitting.{state_between}
use Rattle.gb_typing.proofs.Forms.{and_make, and_typed, and_use, equal_typed, implies_typed, implies_use, not_make, not_typed}
use Rattle.gb_typing.proofs.Given.{refused_given, same_given}
use Rattle.gb_typing.proofs.InMemory.{expression_value, located_value, test_typed}
use Rattle.gb_typing.proofs.Runs.{coupled_in_turn}
use Rattle.gb_prog.specs.AllValues.{AreAlone, AreLocated, Located, all_values}
use Rattle.gb_prog.specs.Writes.{Covers, DifferIn}
use Rattle.gb_prog.proofs.AllValues.{all_values_typed, ends_in_two}
use Rattle.gb_prog.proofs.Couplings.{runs_facts}
use Rattle.gb_prog.proofs.LoopStatements.{statements_coupled}
use Rattle.gb_prog.proofs.AssignedForms.{in_both}
use Rattle.gb_call.specs.Call.{unless_clash}
use Rattle.gb_call.proofs.After.{all_append}
use Rattle.gb_prog.specs.Ends.{IsSoundOnLoops, LoopsEnd}
use Rattle.gb_forms.specs.Loops.{written}
use Rattle.gb_loops.specs.LastLoop.{LastLoop, last_loop}
use Rattle.gb_loops.specs.Read.{read_among, read_in}
use Rattle.gb_loops.specs.While.{at_both_ends, before_both, both_goals, both_written, by_both, clashing_both, in_step, read_both, turning_both}
use Rattle.gb_loops.proofs.Conditions.{IsCovered, are_alone, covered, covers, none_clashing_both}
use Rattle.gb_loops.proofs.Finite.{finite_in}
use Rattle.gb_loops.proofs.LastLoops.{IsTypedLoop, ends_with, loop_typed, statement_of}
use Rattle.gb_loops.proofs.LoopRuns.{front_ends, loop_differs, loop_good, loop_sound, turn_ends, turn_sound}
use Rattle.gb_loops.proofs.TypesRead.{read_located}

locals_of : {c : Context} {ls : List TypedName} {is : List Instr} → IsBody c ls is → HaveVariableTypes ls
locals_of w = w.locals

-- fewer variables may be read
fewer_read : (g : Setting) (P Q : Readable) → ((s : Side) (y : Var) → P s y ≡ true → Q s y ≡ true) → (W : List Located) → AreAlone g Q W → AreAlone g P W
fewer_read g P Q h [] a = tt
fewer_read g P Q h (w ∷ W) a = ((λ y p n. a.0 y (h w.0 y p) n), fewer_read g P Q h W a.1)

module _ (ds : Declarations) (scoped : IsTypedScope (declared ds)) (t : Sequent) (typed : IsTypedSequent (context_of (declared ds)) t) (v : Term) where
  abbrev c : Context
  c = of_sequent (context_of (declared ds)) t typed.frames

  module _ (outer : c ≡ outermost c) (ls rs : List TypedName) (is js : List Instr) (p q : Term) (w : IsGoalOver c ls rs (equiv (body is) (body js) p q)) (y : IsForm (two c ls rs) v) where
    abbrev d : Context
    d = two c ls rs

    abbrev Sound : List Goal → Type 0
    Sound Gs = IsSoundOnLoops (declared ds) c Gs (equiv (body is) (body js) p q)

    module _ (k l : LastLoop) (last : last_loop is ≡ Some k) (next : last_loop js ≡ Some l) where
      abbrev e1 : Term
      e1 = located side.Left k.guard

      abbrev e2 : Term
      e2 = located side.Right l.guard

      abbrev f : Term
      f = at_both_ends v k l q

      a : IsTypedLoop c ls k
      a = loop_typed c ls is k w.1 last

      b : IsTypedLoop c rs l
      b = loop_typed c rs js l w.2 next

      left_guard : IsForm d e1
      left_guard = let z = a in test_typed c ls k.guard z.guard c.own (Some ls) (Some rs) side.Left tt refl z.test

      right_guard : IsForm d e2
      right_guard = let z = b in test_typed c rs l.guard z.guard c.own (Some ls) (Some rs) side.Right tt refl z.test

      in_step_form : IsForm d (in_step v k l)
      in_step_form = and_typed d v (equal_form e1 e2) y (equal_typed d e1 e2 left_guard right_guard)

      turning_form : IsForm d (turning_both v k l)
      turning_form = and_typed d (and_form v e1) e2 (and_typed d v e1 y left_guard) right_guard

      end_form : IsForm d f
      end_form =
          implies_typed d (and_form (and_form v (not_form e1)) (not_form e2)) q
          (and_typed d (and_form v (not_form e1)) (not_form e2) (and_typed d v (not_form e1) y (not_typed d e1 left_guard)) (not_typed d e2 right_guard)) w.4

      located_both : (T U : List Var) → AreLocated d (read_both f T U)
      located_both T U =
          let z = end_form in
          all_append _ (read_in side.Left f T) (read_in side.Right f U)
          (read_located d side.Left tt (finite_in ds scoped t typed.frames c.own (Some ls) (Some rs) ls (locals_of w.1)) f z.typed T)
          (read_located d side.Right tt (finite_in ds scoped t typed.frames c.own (Some ls) (Some rs) rs (locals_of w.2)) f z.typed U)

      before_form : (T U : List Var) → IsForm d (before_both v k l q T U)
      before_form T U =
          and_typed d (in_step v k l) (all_values (read_both f T U) f) in_step_form (all_values_typed c outer c.own (Some ls) (Some rs) f end_form (read_both f T U) (located_both T U))

      module _ (g : Setting) (fits : IsSettingOf c g) (j : Judge) (s : State) (m n : Memory) where
        left_is : den g j e1 (between s m n) ≡ is_true g s k.guard m
        left_is = let z = a in ap truth (located_value c ls k.guard z.guard g (speaking g j) (between s m n) side.Left tt)

        right_is : den g j e2 (between s m n) ≡ is_true g s l.guard n
        right_is = let z = b in ap truth (located_value c rs l.guard z.guard g (speaking g j) (between s m n) side.Right tt)

        left_value : val g quiet k.guard (inside s m) ≡ finite (value_in (val g quiet k.guard (inside s m)))
        left_value = let z = a in expression_value c ls k.guard z.guard g fits (subst IsFinite (sym z.test) tt) s m

        right_value : val g quiet l.guard (inside s n) ≡ finite (value_in (val g quiet l.guard (inside s n)))
        right_value = let z = b in expression_value c rs l.guard z.guard g fits (subst IsFinite (sym z.test) tt) s n

        -- guards that are equal are true together
        together : den g j (equal_form e1 e2) (between s m n) ≡ true → is_true g s k.guard m ≡ is_true g s l.guard n
        together h =
            let x = a in
            let z = b in
            let i = (true_equal g j e1 e2 _ _ (between s m n) (located_value c ls k.guard x.guard g (speaking g j) (between s m n) side.Left tt ∙ left_value)
            (located_value c rs l.guard z.guard g (speaking g j) (between s m n) side.Right tt ∙ right_value)).0 h in
            ap truth left_value ∙ ap (λ u. truth (finite u)) i ∙ sym (ap truth right_value)

      module _ (T U : List Var) (known : written ds k.body.list ≡ Some T) (found : written ds l.body.list ≡ Some U) (clear : clashing_both (exclusions ds) T U f ≡ None) where
        left_covered : IsCovered (exclusions ds) side.Left f T
        left_covered = let z = end_form in covered (exclusions ds) d side.Left tt f z.typed T (none_clashing_both (exclusions ds) f T U clear).0

        right_covered : IsCovered (exclusions ds) side.Right f U
        right_covered = let z = end_form in covered (exclusions ds) d side.Right tt f z.typed U (none_clashing_both (exclusions ds) f T U clear).1

        abbrev P : Readable
        P r x = (let S = left_covered in S.readable r x) && (let S = right_covered in S.readable r x)

        reads_within : IsWithin (reading P) f
        reads_within =
            let S = left_covered in
            let R = right_covered in
            subst (λ (K : Uses). IsWithin K f) (λ i u. in_both S.readable R.readable u i) (within_both (reading S.readable) (reading R.readable) f S.within R.within)

        module _ (g : Setting) (off : IsKeptOff (exclusions ds) g) where
          covers_left : Covers g (P side.Left) T (read_among side.Left f T)
          covers_left x z = covers g (exclusions ds) off side.Left f T left_covered x (and_parts _ _ z).0

          covers_right : Covers g (P side.Right) U (read_among side.Right f U)
          covers_right x z = covers g (exclusions ds) off side.Right f U right_covered x (and_parts _ _ z).1

          alone_both : AreAlone g P (read_both f T U)
          alone_both =
              all_append _ (read_in side.Left f T) (read_in side.Right f U)
              (fewer_read g P (let S = left_covered in S.readable) (λ r x z. (and_parts _ _ z).0) (read_in side.Left f T) (are_alone g (exclusions ds) off side.Left f T left_covered))
              (fewer_read g P (let S = right_covered in S.readable) (λ r x z. (and_parts _ _ z).1) (read_in side.Right f U) (are_alone g (exclusions ds) off side.Right f U right_covered))

        behind : (g : Setting) (fits : IsSettingOf c g) (over : IsSettingOver (declared ds) g) → LoopsEnd g (equiv (body is) (body js) p q) → (j : Judge) (fair : IsFair g j) (s : State) (fit : IsStateOf c g s) →
            ((m n : Memory) → IsTrueUnder g j (turning_both v k l) (between s m n) →
            Coupling (λ x z. IsTrueUnder g j (in_step v k l) (between s x z)) (run g s k.body.list m) (denominator g k.body.list) (run g s l.body.list n) (denominator g l.body.list)) →
            (x z : Memory) → IsTrueUnder g j (before_both v k l q T U) (between s x z) →
            Coupling (λ x z. IsTrueUnder g j q (between s x z)) (run g s (statement_of k ∷ []) x) (denominator g (statement_of k ∷ [])) (run g s (statement_of l ∷ []) z) (denominator g (statement_of l ∷ []))
        behind g fits over ends j fair s fit turn x z h =
            let off = kept_off ds scoped g over in
            let start = and_use g j (in_step v k l) (all_values (read_both f T U) f) (between s x z) h in
            coupling_weakening
            {Q = λ m n. (IsTrueUnder g j (in_step v k l) (between s m n) × (is_true g s k.guard m ≡ false) × (is_true g s l.guard n ≡ false)) × DifferIn g.types T x m × DifferIn g.types U z n}
            {R = λ m n. IsTrueUnder g j q (between s m n)}
            (λ m n i.
            implies_use g j (and_form (and_form v (not_form e1)) (not_form e2)) q (between s m n)
            (ends_in_two c outer c.own (Some ls) (Some rs) f end_form g fits j fair P reads_within (between s x z) (state_between c g s fit c.own (Some ls) (Some rs) x z) T U (read_among side.Left f T) (read_among side.Right f U)
            (covers_left g off) (covers_right g off) (located_both T U) (alone_both g off) start.1 m n i.1 i.2)
            (and_make g j (and_form v (not_form e1)) (not_form e2) (between s m n)
            (and_make g j v (not_form e1) (between s m n) (and_use g j v (equal_form e1 e2) (between s m n) i.0.0).0 (not_make g j e1 (between s m n) (left_is g fits j s m n ∙ i.0.1)))
            (not_make g j e2 (between s m n) (right_is g fits j s m n ∙ i.0.2))))
            (runs_facts g s (statements g (statement_of k ∷ [])) (statements g (statement_of l ∷ [])) (loop_sound g c ls k a fits) (loop_sound g c rs l b fits) (DifferIn g.types T x) (DifferIn g.types U z)
            (λ m n. IsTrueUnder g j (in_step v k l) (between s m n) × (is_true g s k.guard m ≡ false) × (is_true g s l.guard n ≡ false)) x z
            (loop_differs ds scoped g over k T known s x) (loop_differs ds scoped g over l U found s z)
            (statements_coupled g s k.guard k.variant l.guard l.variant k.body l.body
            (loop_good g is k last ends.0 c ls a s) (turn_sound g c ls k a fits) (loop_good g js l next ends.1 c rs b s) (turn_sound g c rs l b fits)
            (λ m n. IsTrueUnder g j (in_step v k l) (between s m n))
            (λ m n i. together g fits j s m n (and_use g j v (equal_form e1 e2) (between s m n) i).1)
            (λ m n i o. (let u = and_use g j v (equal_form e1 e2) (between s m n) i in
            turn m n (and_make g j (and_form v e1) e2 (between s m n) (and_make g j v e1 (between s m n) u.0 (left_is g fits j s m n ∙ o)) (right_is g fits j s m n ∙ sym (together g fits j s m n u.1) ∙ o))))
            x z start.0))

        goals_sound : Sound (both_goals v p q k l T U)
        goals_sound =
            let m = a in
            let n = b in
            record {
              typed = ((ls, rs, (tt, m.body, n.body, turning_form, in_step_form)), ((ls, rs, (tt, m.before, n.before, w.3, before_form T U)), tt));
              implies = λ g fits over ends j fair s fit h x z i.
                  coupled_in_turn g s (λ x z. IsTrueUnder g j q (between s x z)) (λ x z. IsTrueUnder g j (before_both v k l q T U) (between s x z)) is js k.before (statement_of k ∷ []) l.before (statement_of l ∷ [])
                  (ends_with is k last) (ends_with js l next) x z (h.1.0 x z i) (λ x z i. behind g fits over ends j fair s fit h.0 x z i);
              ends = λ g over e. ((turn_ends g is k last e.0, turn_ends g js l next e.1), ((front_ends g is k last e.0, front_ends g js l next e.1), tt));
            }

      by_clash : (Gs : List Goal) (T U : List Var) → written ds k.body.list ≡ Some T → written ds l.body.list ≡ Some U → (r : Option Var) → clashing_both (exclusions ds) T U f ≡ r → unless_clash r (given (both_goals v p q k l T U)) ≡ given Gs → Sound Gs
      by_clash Gs T U known found (Some x) z e = refused_given (SideCondition x) Gs e
      by_clash Gs T U known found None z e = subst Sound (same_given (both_goals v p q k l T U) Gs e) (goals_sound T U known found z)

      by_found : (Gs : List Goal) (x z : Option (List Var)) → written ds k.body.list ≡ x → written ds l.body.list ≡ z → both_written (exclusions ds) v p q k l x z ≡ given Gs → Sound Gs
      by_found Gs (Some T) (Some U) known found e = by_clash Gs T U known found (clashing_both (exclusions ds) T U f) refl e
      by_found Gs None z known found e = refused_given Shape Gs e
      by_found Gs (Some T) None known found e = refused_given Shape Gs e

    by_loops : (Gs : List Goal) (x z : Option LastLoop) → last_loop is ≡ x → last_loop js ≡ z → by_both ds v p q x z ≡ given Gs → Sound Gs
    by_loops Gs (Some k) (Some l) last next e = by_found k l last next Gs (written ds k.body.list) (written ds l.body.list) refl refl e
    by_loops Gs None z last next e = refused_given Shape Gs e
    by_loops Gs (Some k) None last next e = refused_given Shape Gs e

    pub both_sound : (Gs : List Goal) → by_both ds v p q (last_loop is) (last_loop js) ≡ given Gs → Sound Gs
    both_sound Gs e = by_loops Gs (last_loop is) (last_loop js) refl refl e
