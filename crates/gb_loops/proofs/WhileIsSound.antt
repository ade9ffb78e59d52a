-- `while` is sound.
use Rattle.std.proofs.Common.{◌≡◌, ◌≤◌, ◌<◌, ◌*◌, suc, zero, pos, negsuc, ℤ, Bool, true, false, not, ◌&&◌, List, [], ◌∷◌, append-nil, Option, Some, None, refl, ap, sym, ◌∙◌, subst, arith}
use Rattle.std.proofs.lemmas.Bool.{false≢true, and_parts}
use Rattle.gb_core.specs.declared.refusal.Why.TheVariants.{NotLossless, Shape, SideCondition}
use Rattle.gb_core.specs.declared.var.Var.{Var}
use Rattle.gb_dist.specs.Coupling.{Coupling}
use Rattle.gb_dist.specs.WeightedList.{WeightedList, Every, bind, total, weight}
use Rattle.gb_dist.proofs.Basic.{coupling_weakening}
use Rattle.gb_dist.proofs.Entries.{Every-bind, Every-weaken}
use Rattle.gb_dist.proofs.Weights.{weight-le_every}
use Rattle.gb_terms.specs.declared.decl.TypedName.{TypedName}
use Rattle.gb_terms.specs.declared.op.Rel.{Rel}
use Rattle.gb_terms.specs.declared.op.Rel.TheVariants as rel
use Rattle.gb_terms.specs.declared.op.Side.TheVariants as side
use Rattle.gb_terms.specs.declared.term.Instr.{Instr}
use Rattle.gb_terms.specs.declared.term.Term.{Term}
use Rattle.gb_meaning.specs.Commands.{statements}
use Rattle.gb_meaning.specs.Judgments.{Judge, IsFair, IsTrueUnder, chance, compares, den, speaking}
use Rattle.gb_meaning.specs.Meanings.{fraction_in}
use Rattle.gb_meaning.specs.Memory.{Memory}
use Rattle.gb_meaning.specs.Program.Program.{done}
use Rattle.gb_meaning.specs.Runs.{is_true}
use Rattle.gb_meaning.specs.Setting.{Setting}
use Rattle.gb_meaning.specs.State.{State, at, between}
use Rattle.gb_meaning.specs.Terms.{val}
use Rattle.gb_meaning.proofs.Runs.{run_entries, run_positive}
use Rattle.gb_meaning.proofs.Totals.{run_bounded}
use Rattle.gb_goal.specs.Answers.{Answer, ◌>>=◌}
use Rattle.gb_goal.specs.Answers.Answer.{given, refused}
use Rattle.gb_goal.specs.Goal.{Goal}
use Rattle.gb_goal.specs.Goal.Code.{body, procedure}
use Rattle.gb_goal.specs.Goal.Goal.{hoare, phoare, equiv, ambient}
use Rattle.gb_goal.specs.Scope.{Declarations}
use Rattle.gb_goal.specs.declared.sequent.Sequent.{Sequent}
use Rattle.gb_meaning.specs.Declared.{declared}
use Rattle.gb_steps.specs.declared.step.Acts.{Acts}
use Rattle.gb_steps.specs.declared.step.Acts.TheVariants as on
use Rattle.gb_typing.specs.Context.{Context}
use Rattle.gb_typing.specs.Fits.{IsSettingOf, IsStateOf}
use Rattle.gb_typing.specs.Goals.{IsGoalOver}
use Rattle.gb_mods.specs.Exclusions.{exclusions}
use Rattle.gb_prog.proofs.KeptOff.{kept_off}
use Rattle.gb_typing.specs.Meaning.{run, denominator}
use Rattle.gb_typing.specs.Programs.{HaveVariableTypes, IsBody}
use Rattle.gb_typing.specs.Rules.{IsSettingOver, outermost}
use Rattle.gb_typing.specs.Scopes.{context_of, IsTypedScope}
use Rattle.gb_typing.specs.Sequents.{of_sequent, IsTypedSequent, one, two}
use Rattle.gb_typing.specs.Typing.{IsForm}
use Rattle.gb_typing.proofs.Drawing.{body_sound}
use Rattle.gb_typing.proofs.Fitting.{state_at, state_between}
use Rattle.gb_typing.proofs.Given.{refused_at, refused_given, same_given}
use Rattle.gb_typing.proofs.Runs.{coupled_in_turn, denominator_append, run_append}
use Rattle.gb_prog.specs.Compared.{literal}
use Rattle.gb_full.specs.Loss.{Loss, nowhere, sampled, called, first_loss}
use Rattle.gb_prog.proofs.Comparing.{literal_value}
use Rattle.gb_full.proofs.Full.{total_full}
use Rattle.gb_full.specs.Lossless.{full}
use Rattle.gb_prog.proofs.Certain.{certain_everywhere}
use Rattle.gb_prog.proofs.Couplings.{runs_facts}
use Rattle.gb_prog.proofs.LoopStatements.{statement_certain, statement_invariant, statement_left, statement_right}
use Rattle.gb_prog.proofs.Turns.{every_both}
use Rattle.gb_prog.specs.Writes.{DifferIn}
use Rattle.gb_prog.specs.Assigned.{clashing}
use Rattle.gb_prog.specs.OneBody.{OneBody}
use Rattle.gb_call.specs.Call.{unless_clash}
use Rattle.gb_prog.specs.Ends.{IsSoundLoopRule, IsSoundOnLoops, LoopsEnd}
use Rattle.gb_forms.specs.Loops.{written}
use Rattle.gb_loops.specs.LastLoop.{LastLoop, last_loop}
use Rattle.gb_loops.specs.While.{IsTypedInvariant, at_end, before_loop, by_loop, by_written, is_certain, is_one, kept_weight, loop_goals, turning, where_certain, while_row}
use Rattle.gb_loops.proofs.BothLoops.{both_sound}
use Rattle.gb_loops.proofs.Finite.{finite_in}
use Rattle.gb_loops.proofs.LastLoops.{IsTypedLoop, ends_with, loop_typed, statement_of}
use Rattle.gb_loops.proofs.Likely.{at_least_behind, certain_behind}
use Rattle.gb_loops.proofs.LoopRuns.{front_ends, loop_differs, loop_good, loop_sound, turn_ends, turn_sound}
use Rattle.gb_loops.proofs.OneLoop.{before_form, holds_before, holds_behind, turning_form, turns_from}

-- What a given answer tells of a body and its loop.
record IsTaken (ds : Declarations) (b : Bool) (o : OneBody) (v : Term) (Gs : List Goal) : Type 0 where
  loop : LastLoop
  last : last_loop o.list ≡ Some loop
  found : List Var
  known : written ds loop.body.list ≡ Some found
  clear : clashing (exclusions ds) o.side found (at_end o.side v loop o.post) ≡ None
  weight : kept_weight ds b loop ≡ given tt
  goals : loop_goals o v loop found ≡ Gs

module _ (ds : Declarations) (b : Bool) (o : OneBody) (v : Term) (Gs : List Goal) where
  by_weight : (k : LastLoop) → last_loop o.list ≡ Some k → (U : List Var) → written ds k.body.list ≡ Some U → clashing (exclusions ds) o.side U (at_end o.side v k o.post) ≡ None → (a : Answer (Unit {0})) → kept_weight ds b k ≡ a →
      (a >>= λ _. given (loop_goals o v k U)) ≡ given Gs → IsTaken ds b o v Gs
  by_weight k l U u c (given tt) w e = record { loop = k; last = l; found = U; known = u; clear = c; weight = w; goals = same_given (loop_goals o v k U) Gs e }
  by_weight k l U u c (refused why p) w e = refused_at why p Gs e

  by_clash : (k : LastLoop) → last_loop o.list ≡ Some k → (U : List Var) → written ds k.body.list ≡ Some U → (r : Option Var) → clashing (exclusions ds) o.side U (at_end o.side v k o.post) ≡ r →
      unless_clash r (kept_weight ds b k >>= λ _. given (loop_goals o v k U)) ≡ given Gs → IsTaken ds b o v Gs
  by_clash k l U u (Some x) c e = refused_given (SideCondition x) Gs e
  by_clash k l U u None c e = by_weight k l U u c (kept_weight ds b k) refl e

  by_found : (k : LastLoop) → last_loop o.list ≡ Some k → (r : Option (List Var)) → written ds k.body.list ≡ r → by_written ds b o v k r ≡ given Gs → IsTaken ds b o v Gs
  by_found k l None u e = refused_given Shape Gs e
  by_found k l (Some U) u e = by_clash k l U u (clashing (exclusions ds) o.side U (at_end o.side v k o.post)) refl e

  by_last : (r : Option LastLoop) → last_loop o.list ≡ r → by_loop ds b o v r ≡ given Gs → IsTaken ds b o v Gs
  by_last None l e = refused_given Shape Gs e
  by_last (Some k) l e = by_found k l (written ds k.body.list) refl e

  taken : by_loop ds b o v (last_loop o.list) ≡ given Gs → IsTaken ds b o v Gs
  taken e = by_last (last_loop o.list) refl e

nothing_lost : (l : Loss) → full l ≡ given tt → l ≡ nowhere
nothing_lost nowhere e = refl
nothing_lost (sampled x) e = refused_given (NotLossless x) tt e
nothing_lost called e = refused_given Shape tt e

is_literal : (o : Option ℤ) → is_one o ≡ true → o ≡ Some (pos 1)
is_literal (Some (pos (suc zero))) e = refl
is_literal (Some (pos (suc (suc n)))) e = absurd (false≢true e)
is_literal (Some (pos zero)) e = absurd (false≢true e)
is_literal (Some (negsuc n)) e = absurd (false≢true e)
is_literal None e = absurd (false≢true e)

-- a relation to a bound that what is certain meets
abbrev IsCertain : Rel → Term → Type 0
IsCertain rel.AtMost b = ⊥
IsCertain rel.AtLeast b = Unit {0}
IsCertain rel.Equal b = literal b ≡ Some (pos 1)

for_each : {P : Memory → Type 0} → ((m : Memory) → P m) → (l : WeightedList Memory) → Every P l
for_each f [] = tt
for_each f (e ∷ l) = (f e.0, for_each f l)

locals_of : {c : Context} {ls : List TypedName} {is : List Instr} → IsBody c ls is → HaveVariableTypes ls
locals_of w = w.locals

module _ (ds : Declarations) (scoped : IsTypedScope (declared ds)) (t : Sequent) (typed : IsTypedSequent (context_of (declared ds)) t) (v : Term) where
  abbrev c : Context
  c = of_sequent (context_of (declared ds)) t typed.frames

  abbrev Sound : Goal → List Goal → Type 0
  Sound G Gs = IsSoundOnLoops (declared ds) c Gs G

  module _ (outer : c ≡ outermost c) (ls rs : List TypedName) where
    -- What runs of a loop tell, in the own memory.
    module _ (is : List Instr) (q : Term) (body_typed : IsBody c ls is) (invariant : IsForm (one c ls) v) (post : IsForm (one c ls) q) (k : LastLoop) (last : last_loop is ≡ Some k) (U : List Var)
        (known : written ds k.body.list ≡ Some U) (clear : clashing (exclusions ds) side.Own U (at_end side.Own v k q) ≡ None) where
      loop : IsTypedLoop c ls k
      loop = loop_typed c ls is k body_typed last

      own_turning : IsForm (one c ls) (turning side.Own v k)
      own_turning = turning_form c outer ls (Some ls) c.left c.right side.Own tt refl (finite_in ds scoped t typed.frames (Some ls) c.left c.right ls body_typed.locals) v q invariant post k loop

      own_before : IsForm (one c ls) (before_loop side.Own v k q U)
      own_before = before_form c outer ls (Some ls) c.left c.right side.Own tt refl (finite_in ds scoped t typed.frames (Some ls) c.left c.right ls body_typed.locals) v q invariant post k loop U

      module _ (g : Setting) (fits : IsSettingOf c g) (over : IsSettingOver (declared ds) g) (ends : LoopsEnd g (hoare (body is) v q)) (j : Judge) (fair : IsFair g j) (s : State) (fit : IsStateOf c g s)
          (turn : (m : Memory) → IsTrueUnder g j (turning side.Own v k) (at s m) → Every (λ n. IsTrueUnder g j v (at s n)) (run g s k.body.list m)) where
        keeps : (m : Memory) → IsTrueUnder g j v (at s m) → is_true g s k.guard m ≡ true → Every (λ n. IsTrueUnder g j v (at s n)) (run g s k.body.list m)
        keeps m h e =
            turn m (turns_from c outer ls (Some ls) c.left c.right side.Own tt refl (finite_in ds scoped t typed.frames (Some ls) c.left c.right ls body_typed.locals) v q invariant post k loop g j s m h e)

        module _ (n : Memory) (h : IsTrueUnder g j (before_loop side.Own v k q U) (at s n)) where
          fit_here : IsStateOf (one c ls) g (at s n)
          fit_here = state_at c g s fit (Some ls) c.left c.right n

          start : IsTrueUnder g j v (at s n)
          start =
              holds_before c outer ls (Some ls) c.left c.right side.Own tt refl (finite_in ds scoped t typed.frames (Some ls) c.left c.right ls body_typed.locals) v q invariant post k loop g j U (exclusions ds) (kept_off ds scoped g over) clear fits fair (at s n) fit_here h

          behind : (z : Memory) → DifferIn g.types U n z → IsTrueUnder g j v (at s z) → is_true g s k.guard z ≡ false → IsTrueUnder g j q (at s z)
          behind z d a b =
              holds_behind c outer ls (Some ls) c.left c.right side.Own tt refl (finite_in ds scoped t typed.frames (Some ls) c.left c.right ls body_typed.locals) v q invariant post k loop g j U (exclusions ds) (kept_off ds scoped g over) clear fits fair (at s n) fit_here h z d a b

          -- where the loop ends
          all_end : Every (λ z. IsTrueUnder g j q (at s z)) (run g s (statement_of k ∷ []) n)
          all_end =
              Every-weaken {P = λ z. DifferIn g.types U n z × (IsTrueUnder g j v (at s z) × (is_true g s k.guard z ≡ false))} (run g s (statement_of k ∷ []) n) (λ z x. behind z x.0 x.1.0 x.1.1)
              (every_both (DifferIn g.types U n) (λ z. IsTrueUnder g j v (at s z) × (is_true g s k.guard z ≡ false)) (run g s (statement_of k ∷ []) n)
              (loop_differs ds scoped g over k U known s n)
              (statement_invariant g s k.guard k.variant k.body (loop_good g is k last ends c ls loop s) (turn_sound g c ls k loop fits) (λ z. IsTrueUnder g j v (at s z)) keeps n start))

          -- with certainty, where no weight is lost
          surely_ends : first_loss ds k.body.list ≡ nowhere → denominator g (statement_of k ∷ []) ≤ weight (run g s (statement_of k ∷ []) n) (λ z. den g j q (at s z))
          surely_ends full_turn =
              let b = loop.body in
              let sound = turn_sound g c ls k loop fits in
              let I : Memory → Bool = λ z. den g j v (at s z) in
              let certain = statement_certain g s k.guard k.variant k.body (loop_good g is k last ends c ls loop s) sound I
              (λ m a e. (certain_everywhere (run g s k.body.list m) (denominator g k.body.list) I (run_entries g s (statements g k.body.list) sound m) (run_bounded g s (statements g k.body.list) sound m)).1 (total_full ds scoped t typed g fits over ls k.body.list b full_turn s m, keeps m a e)) n start in
              let less = weight-le_every (run g s (statement_of k ∷ []) n) (λ z. I z && not (is_true g s k.guard z)) (λ z. den g j q (at s z))
              (Every-weaken {P = DifferIn g.types U n} (run g s (statement_of k ∷ []) n) (λ z d x. (let y = and_parts (I z) (not (is_true g s k.guard z)) x in behind z d y.0 (not_false (is_true g s k.guard z) y.1))) (loop_differs ds scoped g over k U known s n)) in
              omega (arith, certain, less)
            where
              not_false : (b : Bool) → not b ≡ true → b ≡ false
              not_false true e = absurd (false≢true e)
              not_false false e = refl

    -- One memory.
    module _ (is : List Instr) (p q : Term) where
      abbrev alone : OneBody
      alone = record { side = side.Own; list = is; pre = p; post = q; goal = λ is p q. hoare (body is) p q }

      hoare_sound : IsGoalOver c ls rs (hoare (body is) p q) → IsForm (one c ls) v → (Gs : List Goal) → IsTaken ds false alone v Gs → Sound (hoare (body is) p q) Gs
      hoare_sound w y Gs x =
          let k = x.loop in
          let U = x.found in
          let l = loop is q w.0 y w.2 k x.last U x.known x.clear in
          subst (Sound (hoare (body is) p q)) x.goals (record {
            typed = ((ls, rs, (l.body, own_turning is q w.0 y w.2 k x.last U x.known x.clear, y)), ((ls, rs, (l.before, w.1, own_before is q w.0 y w.2 k x.last U x.known x.clear)), tt));
            implies = λ g fits over ends j fair s fit h m z.
                subst (λ b. Every (λ n. IsTrueUnder g j q (at s n)) (run g s b m)) (sym (ends_with is k x.last))
                (subst (Every (λ n. IsTrueUnder g j q (at s n))) (sym (run_append g s k.before (statement_of k ∷ []) m))
                (Every-bind (λ n. IsTrueUnder g j (before_loop side.Own v k q U) (at s n)) (λ n. IsTrueUnder g j q (at s n)) (run g s k.before m) (λ n. run g s (statement_of k ∷ []) n) (h.1.0 m z)
                (λ n b. all_end is q w.0 y w.2 k x.last U x.known x.clear g fits over ends j fair s fit h.0 n b)));
            ends = λ g over e. (turn_ends g is k x.last e, (front_ends g is k x.last e, tt));
          })

      module _ (r : Rel) (b : Term) where
        abbrev bounded : OneBody
        bounded = record { side = side.Own; list = is; pre = p; post = q; goal = λ is p q. phoare (body is) r p q b }

        -- how likely the loop is behind what stands before it
        likely : (g : Setting) (j : Judge) (s : State) (k : LastLoop) → last_loop is ≡ Some k → (U : List Var) → IsCertain r b → (m : Memory) →
            0 < denominator g k.before → 0 < denominator g (statement_of k ∷ []) → total (run g s is m) ≤ denominator g is →
            ((n : Memory) → den g j (before_loop side.Own v k q U) (at s n) ≡ true → denominator g (statement_of k ∷ []) ≤ weight (run g s (statement_of k ∷ []) n) (λ z. den g j q (at s z))) →
            compares r (chance (run g s k.before m) (denominator g k.before) (λ n. den g j (before_loop side.Own v k q U) (at s n))) (fraction_in (val g (speaking g j) b s)) ≡ true →
            compares r (chance (run g s is m) (denominator g is) (λ n. den g j q (at s n))) (fraction_in (val g (speaking g j) b s)) ≡ true
        likely g j s k last U sure m x y t f h =
            let e = ends_with is k last in
            let E = ap (λ i. run g s i m) e ∙ run_append g s k.before (statement_of k ∷ []) m in
            let D = ap (denominator g) e ∙ denominator_append g k.before (statement_of k ∷ []) in
            subst (λ z. z) (λ i. compares r (chance (sym E i) (sym D i) (λ n. den g j q (at s n))) (fraction_in (val g (speaking g j) b s)) ≡ true)
            (by_relation r sure (subst (λ z. z) (λ i. total (E i) ≤ D i) t) h)
          where
            each : Every (λ n. den g j (before_loop side.Own v k q U) (at s n) ≡ true → denominator g (statement_of k ∷ []) ≤ weight (run g s (statement_of k ∷ []) n) (λ z. den g j q (at s z))) (run g s k.before m)
            each = for_each (λ n. f n) (run g s k.before m)

            by_relation : (o : Rel) → IsCertain o b → total (bind (run g s k.before m) (λ n. run g s (statement_of k ∷ []) n)) ≤ denominator g k.before * denominator g (statement_of k ∷ []) →
                compares o (chance (run g s k.before m) (denominator g k.before) (λ n. den g j (before_loop side.Own v k q U) (at s n))) (fraction_in (val g (speaking g j) b s)) ≡ true →
                compares o (chance (bind (run g s k.before m) (λ n. run g s (statement_of k ∷ []) n)) (denominator g k.before * denominator g (statement_of k ∷ [])) (λ n. den g j q (at s n))) (fraction_in (val g (speaking g j) b s)) ≡ true
            by_relation rel.AtMost c t h = absurd c
            by_relation rel.AtLeast c t h =
                at_least_behind (run g s k.before m) (λ n. run g s (statement_of k ∷ []) n) (λ n. den g j (before_loop side.Own v k q U) (at s n)) (λ n. den g j q (at s n)) (denominator g k.before) (denominator g (statement_of k ∷ [])) each x y
                (fraction_in (val g (speaking g j) b s)) h
            by_relation rel.Equal c t h =
                let one_is : fraction_in (val g (speaking g j) b s) ≡ (pos 1, 1) = ap fraction_in (literal_value g j b (pos 1) c s) in
                subst (λ z. compares rel.Equal (chance (bind (run g s k.before m) (λ n. run g s (statement_of k ∷ []) n)) (denominator g k.before * denominator g (statement_of k ∷ [])) (λ n. den g j q (at s n))) z ≡ true) (sym one_is)
                (certain_behind (run g s k.before m) (λ n. run g s (statement_of k ∷ []) n) (λ n. den g j (before_loop side.Own v k q U) (at s n)) (λ n. den g j q (at s n)) (denominator g k.before) (denominator g (statement_of k ∷ [])) each t
                (subst (λ z. compares rel.Equal (chance (run g s k.before m) (denominator g k.before) (λ n. den g j (before_loop side.Own v k q U) (at s n))) z ≡ true) one_is h))

        phoare_sound : IsGoalOver c ls rs (phoare (body is) r p q b) → IsForm (one c ls) v → IsCertain r b → (Gs : List Goal) → IsTaken ds true bounded v Gs → Sound (phoare (body is) r p q b) Gs
        phoare_sound w y sure Gs x =
            let k = x.loop in
            let U = x.found in
            let l = loop is q w.0 y w.2 k x.last U x.known x.clear in
            let o = l.before in
            subst (Sound (phoare (body is) r p q b)) x.goals (record {
              typed = ((ls, rs, (l.body, own_turning is q w.0 y w.2 k x.last U x.known x.clear, y)), ((ls, rs, (l.before, w.1, own_before is q w.0 y w.2 k x.last U x.known x.clear, w.3, w.4)), tt));
              implies = λ g fits over ends j fair s fit h m z.
                  let u = w.0 in
                  likely g j s k x.last U sure m
                  (run_positive g (statements g k.before) (body_sound c g fits ls k.before o.statements)) (run_positive g (statements g (statement_of k ∷ [])) (loop_sound g c ls k l fits))
                  (run_bounded g s (statements g is) (body_sound c g fits ls is u.statements) m)
                  (λ n a. surely_ends is q w.0 y w.2 k x.last U x.known x.clear g fits over ends j fair s fit h.0 n a (nothing_lost (first_loss ds (let b = k.body in b.list)) x.weight)) (h.1.0 m z);
              ends = λ g over e. (turn_ends g is k x.last e, (front_ends g is k x.last e, tt));
            })

    -- One of two memories.
    module _ (is js : List Instr) (p q : Term) (w : IsGoalOver c ls rs (equiv (body is) (body js) p q)) (y : IsForm (two c ls rs) v) where
      abbrev on_left : OneBody
      on_left = record { side = side.Left; list = is; pre = p; post = q; goal = λ is p q. equiv (body is) (body js) p q }

      abbrev on_right : OneBody
      on_right = record { side = side.Right; list = js; pre = p; post = q; goal = λ js p q. equiv (body is) (body js) p q }

      module _ (k : LastLoop) (last : last_loop is ≡ Some k) (U : List Var) (known : written ds k.body.list ≡ Some U) (clear : clashing (exclusions ds) side.Left U (at_end side.Left v k q) ≡ None) where
        left_loop : IsTypedLoop c ls k
        left_loop = loop_typed c ls is k w.1 last

        left_turning : IsForm (two c ls rs) (turning side.Left v k)
        left_turning = turning_form c outer ls c.own (Some ls) (Some rs) side.Left tt refl (finite_in ds scoped t typed.frames c.own (Some ls) (Some rs) ls (locals_of w.1)) v q y w.4 k left_loop

        left_before : IsForm (two c ls rs) (before_loop side.Left v k q U)
        left_before = before_form c outer ls c.own (Some ls) (Some rs) side.Left tt refl (finite_in ds scoped t typed.frames c.own (Some ls) (Some rs) ls (locals_of w.1)) v q y w.4 k left_loop U

        left_behind : (g : Setting) (fits : IsSettingOf c g) (over : IsSettingOver (declared ds) g) → LoopsEnd g (hoare (body is) v q) → (j : Judge) (fair : IsFair g j) (s : State) (fit : IsStateOf c g s) →
            ((m n : Memory) → IsTrueUnder g j (turning side.Left v k) (between s m n) → Coupling (λ a b. IsTrueUnder g j v (between s a b)) (run g s k.body.list m) (denominator g k.body.list) (run g s [] n) (denominator g [])) →
            (a b : Memory) → IsTrueUnder g j (before_loop side.Left v k q U) (between s a b) →
            Coupling (λ a b. IsTrueUnder g j q (between s a b)) (run g s (statement_of k ∷ []) a) (denominator g (statement_of k ∷ [])) (run g s [] b) (denominator g [])
        left_behind g fits over ends j fair s fit turn a b d =
            let l = left_loop in
            let here = state_between c g s fit c.own (Some ls) (Some rs) a b in
            coupling_weakening {Q = λ m n. (IsTrueUnder g j v (between s m n) × (is_true g s k.guard m ≡ false)) × DifferIn g.types U a m × (n ≡ b)} {R = λ m n. IsTrueUnder g j q (between s m n)}
            (λ m n f. subst (λ n. IsTrueUnder g j q (between s m n)) (sym f.2)
            (holds_behind c outer ls c.own (Some ls) (Some rs) side.Left tt refl (finite_in ds scoped t typed.frames c.own (Some ls) (Some rs) ls (locals_of w.1)) v q y w.4 k l g j U (exclusions ds) (kept_off ds scoped g over) clear fits fair (between s a b) here d m f.1
            (subst (λ n. IsTrueUnder g j v (between s m n)) f.2 f.0.0) f.0.1))
            (runs_facts g s (statements g (statement_of k ∷ [])) done (loop_sound g c ls k l fits) tt (DifferIn g.types U a) (λ n. n ≡ b) (λ m n. IsTrueUnder g j v (between s m n) × (is_true g s k.guard m ≡ false)) a b
            (loop_differs ds scoped g over k U known s a) (refl, tt)
            (statement_left g s k.guard k.variant k.body (loop_good g is k last ends c ls l s) (turn_sound g c ls k l fits) (λ m n. IsTrueUnder g j v (between s m n)) b
            (λ m f e. turn m b (turns_from c outer ls c.own (Some ls) (Some rs) side.Left tt refl (finite_in ds scoped t typed.frames c.own (Some ls) (Some rs) ls (locals_of w.1)) v q y w.4 k l g j (between s a b) m f e)) a
            (holds_before c outer ls c.own (Some ls) (Some rs) side.Left tt refl (finite_in ds scoped t typed.frames c.own (Some ls) (Some rs) ls (locals_of w.1)) v q y w.4 k l g j U (exclusions ds) (kept_off ds scoped g over) clear fits fair (between s a b) here d)))

      left_sound : (Gs : List Goal) → IsTaken ds false on_left v Gs → Sound (equiv (body is) (body js) p q) Gs
      left_sound Gs x =
          let k = x.loop in
          let U = x.found in
          let l = left_loop k x.last U x.known x.clear in
          subst (Sound (equiv (body is) (body js) p q)) x.goals (record {
            typed = ((ls, rs, (tt, l.body, record { locals = locals_of w.2; statements = tt }, left_turning k x.last U x.known x.clear, y)), ((ls, rs, (tt, l.before, w.2, w.3, left_before k x.last U x.known x.clear)), tt));
            implies = λ g fits over ends j fair s fit h m n z.
                coupled_in_turn g s (λ a b. IsTrueUnder g j q (between s a b)) (λ a b. IsTrueUnder g j (before_loop side.Left v k q U) (between s a b)) is js k.before (statement_of k ∷ []) js [] (ends_with is k x.last) (sym (append-nil js)) m n
                (h.1.0 m n z) (λ a b d. left_behind k x.last U x.known x.clear g fits over ends.0 j fair s fit h.0 a b d);
            ends = λ g over e. ((turn_ends g is k x.last e.0, tt), ((front_ends g is k x.last e.0, e.1), tt));
          })

      module _ (k : LastLoop) (last : last_loop js ≡ Some k) (U : List Var) (known : written ds k.body.list ≡ Some U) (clear : clashing (exclusions ds) side.Right U (at_end side.Right v k q) ≡ None) where
        right_loop : IsTypedLoop c rs k
        right_loop = loop_typed c rs js k w.2 last

        right_turning : IsForm (two c ls rs) (turning side.Right v k)
        right_turning = turning_form c outer rs c.own (Some ls) (Some rs) side.Right tt refl (finite_in ds scoped t typed.frames c.own (Some ls) (Some rs) rs (locals_of w.2)) v q y w.4 k right_loop

        right_before : IsForm (two c ls rs) (before_loop side.Right v k q U)
        right_before = before_form c outer rs c.own (Some ls) (Some rs) side.Right tt refl (finite_in ds scoped t typed.frames c.own (Some ls) (Some rs) rs (locals_of w.2)) v q y w.4 k right_loop U

        right_behind : (g : Setting) (fits : IsSettingOf c g) (over : IsSettingOver (declared ds) g) → LoopsEnd g (hoare (body js) v q) → (j : Judge) (fair : IsFair g j) (s : State) (fit : IsStateOf c g s) →
            ((m n : Memory) → IsTrueUnder g j (turning side.Right v k) (between s m n) → Coupling (λ a b. IsTrueUnder g j v (between s a b)) (run g s [] m) (denominator g []) (run g s k.body.list n) (denominator g k.body.list)) →
            (a b : Memory) → IsTrueUnder g j (before_loop side.Right v k q U) (between s a b) →
            Coupling (λ a b. IsTrueUnder g j q (between s a b)) (run g s [] a) (denominator g []) (run g s (statement_of k ∷ []) b) (denominator g (statement_of k ∷ []))
        right_behind g fits over ends j fair s fit turn a b d =
            let l = right_loop in
            let here = state_between c g s fit c.own (Some ls) (Some rs) a b in
            coupling_weakening {Q = λ m n. (IsTrueUnder g j v (between s m n) × (is_true g s k.guard n ≡ false)) × (m ≡ a) × DifferIn g.types U b n} {R = λ m n. IsTrueUnder g j q (between s m n)}
            (λ m n f. subst (λ m. IsTrueUnder g j q (between s m n)) (sym f.1)
            (holds_behind c outer rs c.own (Some ls) (Some rs) side.Right tt refl (finite_in ds scoped t typed.frames c.own (Some ls) (Some rs) rs (locals_of w.2)) v q y w.4 k l g j U (exclusions ds) (kept_off ds scoped g over) clear fits fair (between s a b) here d n f.2
            (subst (λ m. IsTrueUnder g j v (between s m n)) f.1 f.0.0) f.0.1))
            (runs_facts g s done (statements g (statement_of k ∷ [])) tt (loop_sound g c rs k l fits) (λ m. m ≡ a) (DifferIn g.types U b) (λ m n. IsTrueUnder g j v (between s m n) × (is_true g s k.guard n ≡ false)) a b
            (refl, tt) (loop_differs ds scoped g over k U known s b)
            (statement_right g s k.guard k.variant k.body (loop_good g js k last ends c rs l s) (turn_sound g c rs k l fits) (λ m n. IsTrueUnder g j v (between s m n)) a
            (λ n f e. turn a n (turns_from c outer rs c.own (Some ls) (Some rs) side.Right tt refl (finite_in ds scoped t typed.frames c.own (Some ls) (Some rs) rs (locals_of w.2)) v q y w.4 k l g j (between s a b) n f e)) b
            (holds_before c outer rs c.own (Some ls) (Some rs) side.Right tt refl (finite_in ds scoped t typed.frames c.own (Some ls) (Some rs) rs (locals_of w.2)) v q y w.4 k l g j U (exclusions ds) (kept_off ds scoped g over) clear fits fair (between s a b) here d)))

      right_sound : (Gs : List Goal) → IsTaken ds false on_right v Gs → Sound (equiv (body is) (body js) p q) Gs
      right_sound Gs x =
          let k = x.loop in
          let U = x.found in
          let l = right_loop k x.last U x.known x.clear in
          subst (Sound (equiv (body is) (body js) p q)) x.goals (record {
            typed = ((ls, rs, (tt, record { locals = locals_of w.1; statements = tt }, l.body, right_turning k x.last U x.known x.clear, y)), ((ls, rs, (tt, w.1, l.before, w.3, right_before k x.last U x.known x.clear)), tt));
            implies = λ g fits over ends j fair s fit h m n z.
                coupled_in_turn g s (λ a b. IsTrueUnder g j q (between s a b)) (λ a b. IsTrueUnder g j (before_loop side.Right v k q U) (between s a b)) is js is [] k.before (statement_of k ∷ []) (sym (append-nil is)) (ends_with js k x.last) m n
                (h.1.0 m n z) (λ a b d. right_behind k x.last U x.known x.clear g fits over ends.1 j fair s fit h.0 a b d);
            ends = λ g over e. ((tt, turn_ends g js k x.last e.1), ((e.0, front_ends g js k x.last e.1), tt));
          })

  -- where a bound is met by what is certain
  certain_is : (r : Rel) (b : Term) → is_certain r b ≡ true → IsCertain r b
  certain_is rel.AtLeast b e = tt
  certain_is rel.Equal b e = is_literal (literal b) e
  certain_is rel.AtMost b e = absurd (false≢true e)

  by_certain : (outer : c ≡ outermost c) (ls rs : List TypedName) (is : List Instr) (r : Rel) (p q b : Term) → IsGoalOver c ls rs (phoare (body is) r p q b) → IsForm (one c ls) v → (Gs : List Goal) → (s : Bool) → is_certain r b ≡ s →
      where_certain s (by_loop ds true (bounded outer ls rs is p q r b) v (last_loop is)) ≡ given Gs → Sound (phoare (body is) r p q b) Gs
  by_certain outer ls rs is r p q b w y Gs true k e = phoare_sound outer ls rs is p q r b w y (certain_is r b k) Gs (taken ds true (bounded outer ls rs is p q r b) v Gs e)
  by_certain outer ls rs is r p q b w y Gs false k e = refused_given Shape Gs e

  pub sound : (a : Acts) → IsSoundLoopRule (declared ds) c (while_row ds a v) (IsTypedInvariant c v)
  sound on.All outer ls rs (hoare (body is) p q) w y Gs e = hoare_sound outer ls rs is p q w y Gs (taken ds false (alone outer ls rs is p q) v Gs e)
  sound on.All outer ls rs (phoare (body is) r p q b) w y Gs e = by_certain outer ls rs is r p q b w y Gs (is_certain r b) refl e
  sound on.Left outer ls rs (equiv (body is) (body js) p q) w y Gs e = left_sound outer ls rs is js p q w y Gs (taken ds false (on_left outer ls rs is js p q w y) v Gs e)
  sound on.Right outer ls rs (equiv (body is) (body js) p q) w y Gs e = right_sound outer ls rs is js p q w y Gs (taken ds false (on_right outer ls rs is js p q w y) v Gs e)
  sound on.All outer ls rs (equiv (body is) (body js) p q) w y Gs e = both_sound ds scoped t typed v outer ls rs is js p q w y Gs e
  sound on.All outer ls rs (hoare (procedure a) p q) w y Gs e = refused_given Shape Gs e
  sound on.Left outer ls rs (hoare a p q) w y Gs e = refused_given Shape Gs e
  sound on.Right outer ls rs (hoare a p q) w y Gs e = refused_given Shape Gs e
  sound on.All outer ls rs (phoare (procedure a) r p q b) w y Gs e = refused_given Shape Gs e
  sound on.Left outer ls rs (phoare a r p q b) w y Gs e = refused_given Shape Gs e
  sound on.Right outer ls rs (phoare a r p q b) w y Gs e = refused_given Shape Gs e
  sound on.All outer ls rs (equiv (procedure a) b p q) w y Gs e = refused_given Shape Gs e
  sound on.Left outer ls rs (equiv (procedure a) b p q) w y Gs e = refused_given Shape Gs e
  sound on.Right outer ls rs (equiv (procedure a) b p q) w y Gs e = refused_given Shape Gs e
  sound on.All outer ls rs (equiv (body is) (procedure b) p q) w y Gs e = refused_given Shape Gs e
  sound on.Left outer ls rs (equiv (body is) (procedure b) p q) w y Gs e = refused_given Shape Gs e
  sound on.Right outer ls rs (equiv (body is) (procedure b) p q) w y Gs e = refused_given Shape Gs e
  sound on.All outer ls rs (ambient f) w y Gs e = refused_given Shape Gs e
  sound on.Left outer ls rs (ambient f) w y Gs e = refused_given Shape Gs e
  sound on.Right outer ls rs (ambient f) w y Gs e = refused_given Shape Gs e
