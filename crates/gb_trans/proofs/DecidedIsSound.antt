-- `rcondt` and `rcondf` are sound where loops end.
use Rattle.std.proofs.Common.{◌≡◌, ℕ, ◌*◌, ◌<◌, Bool, true, false, not, if◌then◌else◌, List, [], ◌∷◌, ◌++◌, Option, Some, None, refl, ap, sym, ◌∙◌, subst, arith}
use Rattle.std.proofs.Math.Nat.{eq_of_mul-eq-mul_right}
use Rattle.std.proofs.lemmas.Bool.{false≢true}
use Rattle.std.specs.List.{AllByRecursion}
use Rattle.gb_core.specs.declared.refusal.Why.TheVariants.{Shape}
use Rattle.gb_core.specs.declared.ty.Ty.TheVariants as ty
use Rattle.gb_dist.specs.WeightedList.{WeightedList, mass, weight, bit, bind, Every, SameDistribution}
use Rattle.gb_dist.proofs.Distributions.{same_bind, same_reflexive}
use Rattle.gb_dist.proofs.Entries.{Every-weaken}
use Rattle.gb_dist.proofs.Masses.{mass-bind, mass-bind_every, mass-times}
use Rattle.gb_dist.proofs.Weights.{weight-every, weight-false}
use Rattle.gb_terms.specs.declared.decl.TypedName.{TypedName}
use Rattle.gb_terms.specs.declared.op.Rel.{Rel}
use Rattle.gb_terms.specs.declared.op.Side.TheVariants as side
use Rattle.gb_terms.specs.declared.term.Instr.{Instr, out-Instr}
use Rattle.gb_terms.specs.declared.term.Term.{Term}
use Rattle.gb_meaning.specs.Commands.{statements}
use Rattle.gb_meaning.specs.Judgments.{Judge, den, speaking}
use Rattle.gb_meaning.specs.Meanings.{fraction_in, truth}
use Rattle.gb_meaning.specs.Memory.{Memory}
use Rattle.gb_meaning.specs.Program.{Program}
use Rattle.gb_meaning.specs.Runs.{out, run_denominator, is_true}
use Rattle.gb_meaning.specs.Setting.{Setting}
use Rattle.gb_meaning.specs.Sound.{IsSound}
use Rattle.gb_meaning.specs.State.{State, at}
use Rattle.gb_meaning.specs.Terms.{val}
use Rattle.gb_meaning.specs.Written.{type_of}
use Rattle.gb_meaning.proofs.Runs.{run_positive, run_entries}
use Rattle.gb_meaning.specs.Declared.{Declarations}
use Rattle.gb_goal.specs.Answers.Answer.{given}
use Rattle.gb_goal.specs.Goal.{Goal}
use Rattle.gb_goal.specs.Goal.Code.{body, procedure}
use Rattle.gb_goal.specs.Goal.Goal.{hoare, phoare, equiv, ambient}
use Rattle.gb_steps.specs.declared.step.Acts.{Acts}
use Rattle.gb_steps.specs.declared.step.Acts.TheVariants as on
use Rattle.gb_typing.specs.Context.{Context, with_own}
use Rattle.gb_typing.specs.Fits.{IsSettingOf}
use Rattle.gb_typing.specs.Forms.{not_form}
use Rattle.gb_typing.specs.Goals.{IsGoalOver}
use Rattle.gb_typing.specs.Meaning.{run, denominator}
use Rattle.gb_typing.specs.Programs.{EachStatement, IsBody, IsExpression}
use Rattle.gb_typing.specs.Rules.{no_arguments}
use Rattle.gb_typing.specs.Typing.{IsForm}
use Rattle.gb_typing.proofs.Drawing.{body_sound}
use Rattle.gb_meaning.proofs.Truths.{true_not}
use Rattle.gb_typing.proofs.Forms.{not_typed}
use Rattle.gb_typing.proofs.Given.{refused_given, same_given}
use Rattle.gb_typing.proofs.InMemory.{located_value, test_typed}
use Rattle.gb_typing.proofs.Lists.{typed_append}
use Rattle.gb_typing.proofs.Runs.{denominator_append, run_append}
use Rattle.gb_prog.specs.Ends.{IsSoundLoopRule, IsSoundOnLoops}
use Rattle.gb_prog.proofs.Couplings.{chance_same}
use Rattle.gb_prog.proofs.Loops.{weightless}
use Rattle.gb_prog.proofs.Own.{Good, good_append}
use Rattle.gb_prog.specs.OneBody.{OneBody}
use Rattle.gb_trans.specs.Places.{At, statement_at}
use Rattle.gb_trans.proofs.Placed.{place_given, placed, whole}
use Rattle.gb_forms.specs.Decided.{deciding}
use Rattle.gb_trans.specs.Decided.{Decision, decided, decided_row, decision, decision_goals}
use Rattle.gb_trans.proofs.Deciding.{RunAlikeFrom, Decides, decided_by}
use Rattle.gb_trans.proofs.Shapes.{split_typed}

-- programs that run alike from a memory have the same ends
ends_alike : (g : Setting) (s : State) (a b : Program) → IsSound g a → IsSound g b → (m : Memory) → RunAlikeFrom g s m a b → (I : Memory → Bool) →
    Every (λ n. I n ≡ true) (out g s a m) → Every (λ n. I n ≡ true) (out g s b m)
ends_alike g s a b h k m same I x = Every-weaken {P = λ n. not (I n) ≡ false} (out g s b m) (λ n e. truth_of (I n) e) (weightless (out g s b m) (λ n. not (I n)) (run_entries g s b k m) none)
  where
    truth_of : (t : Bool) → not t ≡ false → t ≡ true
    truth_of true e = refl
    truth_of false e = absurd (false≢true (sym e))

    first : weight (out g s a m) (λ n. not (I n)) ≡ 0
    first = weight-every (out g s a m) (λ n. not (I n)) (λ n. false) (Every-weaken {P = λ n. I n ≡ true} (out g s a m) (λ n e. ap not e) x) ∙ weight-false (out g s a m)

    none : weight (out g s b m) (λ n. not (I n)) ≡ 0
    none = eq_of_mul-eq-mul_right (run_denominator g a) (run_positive g a h) _ _ (omega (arith, same (λ n. bit (not (I n))), ap (λ z. z * run_denominator g b) first))

-- What runs alike where other statements end may stand behind these.
module _ (g : Setting) (s : State) (xs is js ls : List Instr) (m : Memory) where
  one_alike : (n : Memory) → RunAlikeFrom g s n (statements g is) (statements g js) → RunAlikeFrom g s n (statements g (is ++ ls)) (statements g (js ++ ls))
  one_alike n h =
      subst (λ z. z) (λ i. SameDistribution (sym (run_append g s is ls n) i) (sym (denominator_append g is ls) i) (sym (run_append g s js ls n) i) (sym (denominator_append g js ls) i))
      (same_bind (run g s is n) (denominator g is) (run g s js n) (denominator g js) (λ o. run g s ls o) (denominator g ls) (λ o. run g s ls o) (denominator g ls) h (λ o. same_reflexive (run g s ls o) (denominator g ls)))

  pub behind_alike : Every (λ n. RunAlikeFrom g s n (statements g is) (statements g js)) (run g s xs m) → RunAlikeFrom g s m (statements g (xs ++ (is ++ ls))) (statements g (xs ++ (js ++ ls)))
  behind_alike h f =
      let one : mass (bind (run g s xs m) (λ n. run g s (is ++ ls) n)) f * denominator g (js ++ ls) ≡ mass (run g s xs m) (λ n. denominator g (is ++ ls) * mass (run g s (js ++ ls) n) f) =
      mass-bind_every {P = λ n. RunAlikeFrom g s n (statements g is) (statements g js)} (run g s xs m) (λ n. run g s (is ++ ls) n) f (λ n. denominator g (is ++ ls) * mass (run g s (js ++ ls) n) f)
      (denominator g (js ++ ls)) h (λ n k. omega (arith, one_alike n k f)) in
      let two : mass (run g s xs m) (λ n. denominator g (is ++ ls) * mass (run g s (js ++ ls) n) f) ≡ denominator g (is ++ ls) * mass (bind (run g s xs m) (λ n. run g s (js ++ ls) n)) f =
      mass-times (denominator g (is ++ ls)) (run g s xs m) (λ n. mass (run g s (js ++ ls) n) f) ∙ ap (λ z. denominator g (is ++ ls) * z) (sym (mass-bind (run g s xs m) (λ n. run g s (js ++ ls) n) f)) in
      let same : mass (bind (run g s xs m) (λ n. run g s (is ++ ls) n)) f * (denominator g xs * denominator g (js ++ ls)) ≡ mass (bind (run g s xs m) (λ n. run g s (js ++ ls) n)) f * (denominator g xs * denominator g (is ++ ls)) =
      omega (arith, ap (λ z. z * denominator g xs) (one ∙ two)) in
      subst (λ z. z) (λ i. mass (sym (run_append g s xs (is ++ ls) m) i) f * sym (denominator_append g xs (js ++ ls)) i ≡ mass (sym (run_append g s xs (js ++ ls) m) i) f * sym (denominator_append g xs (is ++ ls)) i) same

module _ (ds : Declarations) (c : Context) (t : Bool) where
  abbrev form : Decision → Term
  form d = deciding t d.guard

  -- the guard as a form
  module _ (ls : List TypedName) (e : Term) (x : IsExpression c ls e) (b : type_of e ≡ ty.Bool) where
    guard_typed : IsForm (with_own c (Some ls)) e
    guard_typed = test_typed c ls e x (Some ls) c.left c.right side.Own tt refl b

    pub deciding_typed : (u : Bool) → IsForm (with_own c (Some ls)) (deciding u e)
    deciding_typed true = guard_typed
    deciding_typed false = not_typed (with_own c (Some ls)) e guard_typed

    guard_is : (g : Setting) (j : Judge) (s : State) (n : Memory) → den g j e (at s n) ≡ is_true g s e n
    guard_is g j s n = ap truth (located_value c ls e x g (speaking g j) (at s n) side.Own tt)

    pub decided_is : (u : Bool) (g : Setting) (j : Judge) (s : State) (n : Memory) → den g j (deciding u e) (at s n) ≡ true → is_true g s e n ≡ u
    decided_is true g j s n h = sym (guard_is g j s n) ∙ h
    decided_is false g j s n h = sym (guard_is g j s n) ∙ negated (den g j e (at s n)) (sym (true_not g j e (at s n)) ∙ h)
      where
        negated : (z : Bool) → not z ≡ true → z ≡ false
        negated true k = absurd (false≢true k)
        negated false k = refl

  module _ (k : At) (d : Decision) (known : Decides c t k.statement d) (ls : List TypedName) where
    abbrev now : List Instr
    now = k.before ++ (d.left ++ k.rest)

    parts : EachStatement c ls (whole k) → EachStatement c ls k.before × EachStatement c ls (k.statement ∷ k.rest)
    parts w = split_typed c ls k.before (k.statement ∷ k.rest) w

    now_typed : EachStatement c ls (whole k) → EachStatement c ls now
    now_typed w = let x = parts w in typed_append c ls k.before (d.left ++ k.rest) x.0 (typed_append c ls d.left k.rest (known.typed ls x.1.0).1 x.1.1)

    loops : (g : Setting) → Good g (whole k) → Good g k.before × Good g now
    loops g h =
        let x = (good_append g k.before (k.statement ∷ k.rest)).0 h in
        let y = (good_append g (k.statement ∷ []) k.rest).0 x.1 in
        (x.0, (good_append g k.before (d.left ++ k.rest)).1 (x.0, (good_append g d.left k.rest).1 (known.ends g y.0, y.1)))

    module _ (w : EachStatement c ls (whole k)) (g : Setting) (fits : IsSettingOf c g) (h : Good g (whole k)) (j : Judge) (s : State) (m : Memory)
        (guard : Every (λ n. den g j (form d) (at s n) ≡ true) (run g s k.before m)) where
      sound_now : IsSound g (statements g now)
      sound_now = body_sound c g fits ls now (now_typed w)

      sound_whole : IsSound g (statements g (whole k))
      sound_whole = body_sound c g fits ls (whole k) w

      -- from here both bodies run alike
      alike : RunAlikeFrom g s m (statements g now) (statements g (whole k))
      alike =
          let x = parts w in
          let y = known.typed ls x.1.0 in
          let z = (good_append g (k.statement ∷ []) k.rest).0 ((good_append g k.before (k.statement ∷ k.rest)).0 h).1 in
          behind_alike g s k.before d.left (k.statement ∷ []) k.rest m
          (Every-weaken {P = λ n. den g j (form d) (at s n) ≡ true} (run g s k.before m)
          (λ n e f. sym (known.alike ls x.1.0 g fits z.0 s n (decided_is ls d.guard y.0.0 y.0.1 t g j s n e) f)) guard)

  -- the subgoals of a body with such a statement
  of_hoare : (ls rs : List TypedName) (is : List Instr) (p q : Term) → IsBody c ls is → IsForm (with_own c (Some ls)) p → IsForm (with_own c (Some ls)) q → (k : At) → whole k ≡ is → (d : Decision) → Decides c t k.statement d →
      IsSoundOnLoops ds c (hoare (body k.before) p (form d) ∷ hoare (body (k.before ++ (d.left ++ k.rest))) p q ∷ []) (hoare (body is) p q)
  of_hoare ls rs is p q w pre post k there d known = subst (λ is. IsSoundOnLoops ds c (hoare (body k.before) p (form d) ∷ hoare (body (k.before ++ (d.left ++ k.rest))) p q ∷ []) (hoare (body is) p q)) there (
      let u : EachStatement c ls (whole k) = subst (EachStatement c ls) (sym there) w.statements in
      let x = known.typed ls (parts k d known ls u).1.0 in
      record {
        typed = (
          (ls, rs, (record { locals = w.locals; statements = (parts k d known ls u).0 }, pre, deciding_typed ls d.guard x.0.0 x.0.1 t)),
          ((ls, rs, (record { locals = w.locals; statements = now_typed k d known ls u }, pre, post)), tt),
        );
        implies = λ g fits over h j fair s fit y m e.
            ends_alike g s (statements g (k.before ++ (d.left ++ k.rest))) (statements g (whole k)) (sound_now k d known ls u g fits h j s m (y.0 m e)) (sound_whole k d known ls u g fits h j s m (y.0 m e)) m
            (alike k d known ls u g fits h j s m (y.0 m e)) (λ n. den g j q (at s n)) (y.1.0 m e);
        ends = λ g over h. (let z = loops k d known ls g h in (z.0, (z.1, tt)));
      })

  of_phoare : (ls rs : List TypedName) (is : List Instr) (r : Rel) (p q b : Term) → IsGoalOver c ls rs (phoare (body is) r p q b) → (k : At) → whole k ≡ is → (d : Decision) → Decides c t k.statement d →
      IsSoundOnLoops ds c (hoare (body k.before) p (form d) ∷ phoare (body (k.before ++ (d.left ++ k.rest))) r p q b ∷ []) (phoare (body is) r p q b)
  of_phoare ls rs is r p q b w k there d known = subst (λ is. IsSoundOnLoops ds c (hoare (body k.before) p (form d) ∷ phoare (body (k.before ++ (d.left ++ k.rest))) r p q b ∷ []) (phoare (body is) r p q b)) there (
      let v : IsBody c ls is = w.0 in
      let u : EachStatement c ls (whole k) = subst (EachStatement c ls) (sym there) v.statements in
      let x = known.typed ls (parts k d known ls u).1.0 in
      record {
        typed = (
          (ls, rs, (record { locals = v.locals; statements = (parts k d known ls u).0 }, w.1, deciding_typed ls d.guard x.0.0 x.0.1 t)),
          ((ls, rs, (record { locals = v.locals; statements = now_typed k d known ls u }, w.1, w.2, w.3, w.4)), tt),
        );
        implies = λ g fits over h j fair s fit y m e.
            sym (chance_same (run g s (k.before ++ (d.left ++ k.rest)) m) (denominator g (k.before ++ (d.left ++ k.rest))) (run g s (whole k) m) (denominator g (whole k))
            (run_positive g (statements g (k.before ++ (d.left ++ k.rest))) (sound_now k d known ls u g fits h j s m (y.0 m e))) (run_positive g (statements g (whole k)) (sound_whole k d known ls u g fits h j s m (y.0 m e)))
            (alike k d known ls u g fits h j s m (y.0 m e)) (λ n. den g j q (at s n)) r (fraction_in (val g (speaking g j) b s))) ∙ y.1.0 m e;
        ends = λ g over h. (let z = loops k d known ls g h in (z.0, (z.1, tt)));
      })

  -- what a row gives
  given_at : (n : ℕ) (o : OneBody) (G : Goal) → ((k : At) → whole k ≡ o.list → (d : Decision) → Decides c t k.statement d →
      IsSoundOnLoops ds c (hoare (body k.before) o.pre (form d) ∷ o.goal (k.before ++ (d.left ++ k.rest)) o.pre o.post ∷ []) G) → (Gs : List Goal) → decided n t o ≡ given Gs → IsSoundOnLoops ds c Gs G
  given_at n o G make Gs e =
      let z = place_given (λ k. decision_goals t o k (decision t k.statement (out-Instr k.statement))) (statement_at n o.list) Gs e in
      by_decision z.0 (placed n o.list z.0 z.1) (decision t (let k = z.0 in k.statement) (out-Instr (let k = z.0 in k.statement))) refl z.2
    where
      by_decision : (k : At) → whole k ≡ o.list → (r : Option Decision) → decision t k.statement (out-Instr k.statement) ≡ r → decision_goals t o k r ≡ given Gs → IsSoundOnLoops ds c Gs G
      by_decision k p None h e = refused_given Shape Gs e
      by_decision k p (Some d) h e = subst (λ Gs. IsSoundOnLoops ds c Gs G) (same_given _ Gs e) (make k p d (decided_by c k.statement t d h))

  pub decided_sound : (n : ℕ) (a : Acts) → IsSoundLoopRule ds c (decided_row n t a) no_arguments
  decided_sound n on.All outer ls rs (hoare (body is) p q) w y Gs e =
      given_at n (record { side = side.Own; list = is; pre = p; post = q; goal = λ is p q. hoare (body is) p q }) (hoare (body is) p q) (of_hoare ls rs is p q w.0 w.1 w.2) Gs e
  decided_sound n on.All outer ls rs (phoare (body is) r p q b) w y Gs e =
      given_at n (record { side = side.Own; list = is; pre = p; post = q; goal = λ is p q. phoare (body is) r p q b }) (phoare (body is) r p q b) (of_phoare ls rs is r p q b w) Gs e
  decided_sound n on.All outer ls rs (hoare (procedure f) p q) w y Gs e = refused_given Shape Gs e
  decided_sound n on.All outer ls rs (phoare (procedure f) r p q b) w y Gs e = refused_given Shape Gs e
  decided_sound n on.All outer ls rs (equiv a b p q) w y Gs e = refused_given Shape Gs e
  decided_sound n on.All outer ls rs (ambient f) w y Gs e = refused_given Shape Gs e
  decided_sound n on.Left outer ls rs G w y Gs e = refused_given Shape Gs e
  decided_sound n on.Right outer ls rs G w y Gs e = refused_given Shape Gs e
