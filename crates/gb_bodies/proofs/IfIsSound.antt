-- `if` is sound.
use Rattle.std.proofs.Common.{◌≡◌, ℕ, ◌<◌, ◌*◌, Bool, true, false, List, [], ◌∷◌, Option, Some, None, refl, ap, sym, ◌∙◌, subst, arith}
use Rattle.std.proofs.lemmas.Bool.{false≢true}
use Rattle.std.specs.Option.{option_zip}
use Rattle.gb_core.specs.declared.refusal.Why.TheVariants.{Shape}
use Rattle.gb_core.specs.declared.ty.Ty.TheVariants as ty
use Rattle.gb_terms.specs.declared.decl.TypedName.{TypedName}
use Rattle.gb_terms.specs.declared.op.Side.{Side}
use Rattle.gb_terms.specs.declared.op.Side.TheVariants as side
use Rattle.gb_terms.specs.declared.term.Term.{Term}
use Rattle.gb_terms.specs.declared.term.Head.{Head}
use Rattle.gb_terms.specs.declared.term.Head.TheOpen as layer
use Rattle.gb_terms.specs.declared.term.Head.TheVariants.{If}
use Rattle.gb_terms.specs.declared.term.Subject.{Subject}
use Rattle.gb_terms.specs.declared.term.Instr.{Instr, out-Instr}
use Rattle.gb_terms.specs.declared.term.Cmd.{Cmd}
use Rattle.gb_dist.specs.WeightedList.{WeightedList, Every, scale}
use Rattle.gb_dist.specs.Coupling.{Coupling}
use Rattle.gb_dist.proofs.Basic.{coupling_rescaling}
use Rattle.gb_dist.proofs.Entries.{Every-scale}
use Rattle.gb_dist.proofs.Monad.{scale-one}
use Rattle.gb_meaning.specs.Memory.{Memory}
use Rattle.gb_meaning.specs.Setting.{Setting}
use Rattle.gb_meaning.specs.Setting.Meaning.{finite}
use Rattle.gb_meaning.specs.Meanings.{truth, value_in, fraction_in}
use Rattle.gb_meaning.proofs.Truths.{true_equal}
use Rattle.gb_laws.specs.Finite.{IsFinite}
use Rattle.gb_meaning.specs.State.{State, at, between, inside, memory_of}
use Rattle.gb_meaning.specs.Terms.{quiet, val}
use Rattle.gb_meaning.specs.Commands.{statements}
use Rattle.gb_meaning.specs.Runs.{is_true}
use Rattle.gb_meaning.specs.Judgments.{Judge, IsFair, speaking, IsTrueUnder, compares, chance, den}
use Rattle.gb_meaning.specs.Written.{type_of}
use Rattle.gb_laws.specs.Written.{IsSide}
use Rattle.gb_meaning.proofs.Runs.{run_positive}
use Rattle.gb_typing.specs.Context.{Context, Frame, frame_of, reframed}
use Rattle.gb_typing.specs.Sequents.{two}
use Rattle.gb_typing.specs.Typing.{IsForm}
use Rattle.gb_typing.specs.Programs.{IsExpression, EachStatement, IsBody}
use Rattle.gb_typing.specs.Fits.{IsSettingOf}
use Rattle.gb_typing.proofs.Drawing.{body_sound}
use Rattle.gb_goal.specs.Goal.{Goal}
use Rattle.gb_goal.specs.Goal.Code.{body, procedure}
use Rattle.gb_goal.specs.Goal.Goal.{hoare, phoare, equiv, ambient}
use Rattle.gb_typing.specs.Forms.{and_form, equal_form, implies_form, not_form, located, every_pair}
use Rattle.gb_typing.specs.Meaning.{run, denominator, Stands}
use Rattle.gb_typing.specs.Rules.{IsSoundRule, no_arguments, outermost}
use Rattle.gb_steps.specs.declared.step.Acts.{Acts}
use Rattle.gb_steps.specs.declared.step.Acts.TheVariants as on
use Rattle.gb_goal.specs.Answers.Answer.{given}
use Rattle.gb_typing.specs.Goals.{IsTypedGoal}
use Rattle.gb_typing.proofs.Ambient.{pair_typed, pair_meaning}
use Rattle.gb_typing.proofs.Branches.{branch_good}
use Rattle.gb_typing.proofs.Chances.{chance_scaled}
use Rattle.gb_typing.proofs.Forms.{and_typed, equal_typed, implies_typed, not_typed, and_make, implies_use, not_make}
use Rattle.gb_typing.proofs.Given.{AreSound, refused_given, sound_given}
use Rattle.gb_typing.proofs.Lists.{if_shape, typed_if, typed_append}
use Rattle.gb_typing.proofs.InMemory.{test_typed, located_value, expression_value}
use Rattle.gb_bodies.specs.If.{Branch, branch_at, first_branch, where_true, where_false, of_one, of_both, if_row}

none_some : {P : Type 0} (b : Branch) → None ≡ Some b → P
none_some b e = absurd (false≢true (ap is_some e))
  where
    is_some : Option Branch → Bool
    is_some None = false
    is_some (Some b) = true

-- A body that begins with a branch, and the parts of the branch.
record Begins (is : List Instr) (b : Branch) : Type 0 where
  first : Instr
  is_if : first ≡ If b.test b.if_true b.if_false
  whole : is ≡ first ∷ b.rest

begins_at : (i : Instr) (is : List Instr) (l : layer.Instr-F Head Instr Subject Cmd Term) → out-Instr i ≡ l → (b : Branch) → branch_at l is ≡ Some b → Begins (i ∷ is) b
begins_at i is (layer.If e x y) k b h = subst (Begins (i ∷ is)) (some_injective _ b h) (record { first = i; is_if = if_shape i e x y k; whole = refl })
  where
    some_injective : (x y : Branch) → Some x ≡ Some y → x ≡ y
    some_injective x y e = ap (λ (o : Option Branch). or_else o) e
      where
        or_else : Option Branch → Branch
        or_else None = x
        or_else (Some z) = z
begins_at i is (layer.Assign xs e) k b h = none_some b h
begins_at i is (layer.Sample x d) k b h = none_some b h
begins_at i is (layer.Call xs o es) k b h = none_some b h
begins_at i is (layer.While e v x) k b h = none_some b h

begins : (is : List Instr) (b : Branch) → first_branch is ≡ Some b → Begins is b
begins [] b h = none_some b h
begins (i ∷ is) b h = begins_at i is (out-Instr i) refl b h

-- the parts of a typed body that begins with a branch
record Parts (c : Context) (ls : List TypedName) (b : Branch) : Type 0 where
  test : IsExpression c ls b.test
  bool : type_of b.test ≡ ty.Bool
  if_true : EachStatement c ls b.if_true.list
  if_false : EachStatement c ls b.if_false.list
  where_true : IsBody c ls (where_true b)
  where_false : IsBody c ls (where_false b)

parts : (c : Context) (ls : List TypedName) (is : List Instr) (b : Branch) → Begins is b → IsBody c ls is → Parts c ls b
parts c ls is b k w =
    let v : IsBody c ls (k.first ∷ b.rest) = subst (IsBody c ls) k.whole w in
    let x = typed_if c ls k.first b.test b.if_true b.if_false k.is_if v.statements.0 in
    record {
      test = x.0.0;
      bool = x.0.1;
      if_true = x.1;
      if_false = x.2;
      where_true = record { locals = v.locals; statements = typed_append c ls b.if_true.list b.rest x.1 v.statements.1 };
      where_false = record { locals = v.locals; statements = typed_append c ls b.if_false.list b.rest x.2 v.statements.1 };
    }

scaled_left : (R : Memory → Memory → Type 0) (k : ℕ) (l : WeightedList Memory) (d : ℕ) (r : WeightedList Memory) (e : ℕ) → Coupling R l d r e → Coupling R (scale k l) (k * d) r e
scaled_left R k l d r e h = subst (λ z. z) (λ i. Coupling R (scale k l) (k * d) (scale-one r i) (once e i)) (coupling_rescaling k 1 h)
  where
    once : (n : ℕ) → 1 * n ≡ n
    once n = omega arith

scaled_right : (R : Memory → Memory → Type 0) (k : ℕ) (l : WeightedList Memory) (d : ℕ) (r : WeightedList Memory) (e : ℕ) → Coupling R l d r e → Coupling R l d (scale k r) (k * e)
scaled_right R k l d r e h = subst (λ z. z) (λ i. Coupling R (scale-one l i) (once d i) (scale k r) (k * e)) (coupling_rescaling 1 k h)
  where
    once : (n : ℕ) → 1 * n ≡ n
    once n = omega arith

-- One branch, in a goal that is made of statements and a precondition.

module _ (c : Context) (ls : List TypedName) (F L K : Frame) (r : Side) (i : IsSide r) (frame : frame_of (reframed c F L K) r ≡ Some ls)
    (goal : List Instr → Term → Goal) (typed : (is : List Instr) → IsBody c ls is → (p : Term) → IsForm (reframed c F L K) p → IsTypedGoal c (goal is p))
    (place : State → Memory → Memory → State) (same : (s : State) (m n o : Memory) → inside (place s m n) o ≡ inside s o)
    (Good : Setting → Judge → State → Memory → Memory → WeightedList Memory → ℕ → Type 0)
    (keeps : (g : Setting) (j : Judge) (s : State) (m n : Memory) (k : ℕ) → 0 < k → (l : WeightedList Memory) (d : ℕ) → Good g j s m n l d → Good g j s m n (scale k l) (k * d))
    (enter : (g : Setting) (j : Judge) (s : State) (is : List Instr) (p : Term) → Stands g j s (goal is p) → (m n : Memory) → den g j p (place s m n) ≡ true →
    Good g j s m n (run g s is (memory_of (place s m n) r)) (denominator g is))
    (leave : (g : Setting) (j : Judge) (s : State) (is : List Instr) (p : Term) → ((m n : Memory) → den g j p (place s m n) ≡ true →
    Good g j s m n (run g s is (memory_of (place s m n) r)) (denominator g is)) → Stands g j s (goal is p)) where
  tested : (e : Term) → IsExpression c ls e → (g : Setting) (j : Judge) (s : State) (m n : Memory) → den g j (located r e) (place s m n) ≡ is_true g s e (memory_of (place s m n) r)
  tested e x g j s m n = ap truth (located_value c ls e x g (speaking g j) (place s m n) r i ∙ ap (val g quiet e) (same s m n (memory_of (place s m n) r)))

  one_branch : (p : Term) → IsForm (reframed c F L K) p → (is : List Instr) (b : Branch) → Begins is b → Parts c ls b →
      AreSound c (goal is p) (goal (where_true b) (and_form p (located r b.test)) ∷ goal (where_false b) (and_form p (not_form (located r b.test))) ∷ [])
  one_branch p w is b k x =
      let t : IsForm (reframed c F L K) (located r b.test) = test_typed c ls b.test x.test F L K r i frame x.bool in (
        (
          typed (where_true b) x.where_true (and_form p (located r b.test)) (and_typed (reframed c F L K) p (located r b.test) w t),
          (typed (where_false b) x.where_false (and_form p (not_form (located r b.test))) (and_typed (reframed c F L K) p (not_form (located r b.test)) w (not_typed (reframed c F L K) (located r b.test) t)), tt),
        ),
        λ g fits j fair s fit h. leave g j s is p (λ m n y.
            subst (λ is. Good g j s m n (run g s is (memory_of (place s m n) r)) (denominator g is)) (sym k.whole)
            (branch_good g s k.first b.test b.if_true b.if_false k.is_if b.rest (memory_of (place s m n) r) (Good g j s m n) (keeps g j s m n)
            (run_positive g (statements g b.if_true.list) (body_sound c g fits ls b.if_true.list x.if_true)) (run_positive g (statements g b.if_false.list) (body_sound c g fits ls b.if_false.list x.if_false))
            (λ e. enter g j s (where_true b) (and_form p (located r b.test)) h.0 m n (and_make g j p (located r b.test) (place s m n) y (tested b.test x.test g j s m n ∙ e)))
            (λ e. enter g j s (where_false b) (and_form p (not_form (located r b.test))) h.1.0 m n
            (and_make g j p (not_form (located r b.test)) (place s m n) y (not_make g j (located r b.test) (place s m n) (tested b.test x.test g j s m n ∙ e)))))),
      )

  of_one_sound : (p : Term) → IsForm (reframed c F L K) p → (is : List Instr) → IsBody c ls is → (o : Option Branch) → first_branch is ≡ o → (Gs : List Goal) → of_one goal r p o ≡ given Gs → AreSound c (goal is p) Gs
  of_one_sound p w is v None e Gs k = refused_given Shape Gs k
  of_one_sound p w is v (Some b) e Gs k = sound_given c (goal is p) _ Gs (one_branch p w is b (begins is b e) (parts c ls is b (begins is b e) v)) k

-- Two branches, whose tests are equal.

module _ (c : Context) (outer : c ≡ outermost c) (ls rs : List TypedName) (p q : Term) (w : IsForm (two c ls rs) p) (v : IsForm (two c ls rs) q) where
  module _ (is js : List Instr) (a b : Branch) (k : Begins is a) (l : Begins js b) (x : Parts c ls a) (y : Parts c rs b) where
    abbrev left_test : Term
    left_test = located side.Left a.test

    abbrev right_test : Term
    right_test = located side.Right b.test

    left_typed : IsForm (two c ls rs) left_test
    left_typed = test_typed c ls a.test x.test c.own (Some ls) (Some rs) side.Left tt refl x.bool

    tests_typed : IsForm (two c ls rs) (implies_form p (equal_form left_test right_test))
    tests_typed =
        implies_typed (two c ls rs) p (equal_form left_test right_test) w
        (equal_typed (two c ls rs) left_test right_test left_typed (test_typed c rs b.test y.test c.own (Some ls) (Some rs) side.Right tt refl y.bool))

    module _ (g : Setting) (fits : IsSettingOf c g) (j : Judge) (fair : IsFair g j) (s : State) (m n : Memory) where
      left_value : val g (speaking g j) left_test (between s m n) ≡ finite (value_in (val g quiet a.test (inside s m)))
      left_value = located_value c ls a.test x.test g (speaking g j) (between s m n) side.Left tt ∙ expression_value c ls a.test x.test g fits (subst IsFinite (sym x.bool) tt) s m

      right_value : val g (speaking g j) right_test (between s m n) ≡ finite (value_in (val g quiet b.test (inside s n)))
      right_value = located_value c rs b.test y.test g (speaking g j) (between s m n) side.Right tt ∙ expression_value c rs b.test y.test g fits (subst IsFinite (sym y.bool) tt) s n

      -- equal tests are true together
      together : den g j (equal_form left_test right_test) (between s m n) ≡ true → is_true g s a.test m ≡ is_true g s b.test n
      together h =
          let k = (true_equal g j left_test right_test _ _ (between s m n) left_value right_value).0 h in
          ap truth (expression_value c ls a.test x.test g fits (subst IsFinite (sym x.bool) tt) s m) ∙ ap (λ v. truth (finite v)) k
          ∙ sym (ap truth (expression_value c rs b.test y.test g fits (subst IsFinite (sym y.bool) tt) s n))

      left_is : den g j left_test (between s m n) ≡ is_true g s a.test m
      left_is = ap truth (located_value c ls a.test x.test g (speaking g j) (between s m n) side.Left tt)

      abbrev Related : Memory → Memory → Type 0
      Related = λ a b. IsTrueUnder g j q (between s a b)

      positive_a : (i : List Instr) → EachStatement c ls i → 0 < denominator g i
      positive_a i v = run_positive g (statements g i) (body_sound c g fits ls i v)

      positive_b : (i : List Instr) → EachStatement c rs i → 0 < denominator g i
      positive_b i v = run_positive g (statements g i) (body_sound c g fits rs i v)

      coupled : is_true g s a.test m ≡ is_true g s b.test n →
          (is_true g s a.test m ≡ true → Coupling Related (run g s (where_true a) m) (denominator g (where_true a)) (run g s (where_true b) n) (denominator g (where_true b))) →
          (is_true g s a.test m ≡ false → Coupling Related (run g s (where_false a) m) (denominator g (where_false a)) (run g s (where_false b) n) (denominator g (where_false b))) →
          Coupling Related (run g s is m) (denominator g is) (run g s js n) (denominator g js)
      coupled e f h =
          subst (λ z. z) (λ i. Coupling Related (run g s (sym k.whole i) m) (denominator g (sym k.whole i)) (run g s (sym l.whole i) n) (denominator g (sym l.whole i)))
          (branch_good g s k.first a.test a.if_true a.if_false k.is_if a.rest m (λ r d. Coupling Related r d (run g s (l.first ∷ b.rest) n) (denominator g (l.first ∷ b.rest)))
          (λ k z r d h. scaled_left Related k r d (run g s (l.first ∷ b.rest) n) (denominator g (l.first ∷ b.rest)) h) (positive_a a.if_true.list x.if_true) (positive_a a.if_false.list x.if_false)
          (λ t. right (where_true a) (λ u. f t) (λ u. absurd (false≢true (sym u ∙ sym e ∙ t))))
          (λ t. right (where_false a) (λ u. absurd (false≢true (sym t ∙ e ∙ u))) (λ u. h t)))
        where
          right : (i : List Instr) → (is_true g s b.test n ≡ true → Coupling Related (run g s i m) (denominator g i) (run g s (where_true b) n) (denominator g (where_true b))) →
              (is_true g s b.test n ≡ false → Coupling Related (run g s i m) (denominator g i) (run g s (where_false b) n) (denominator g (where_false b))) →
              Coupling Related (run g s i m) (denominator g i) (run g s (l.first ∷ b.rest) n) (denominator g (l.first ∷ b.rest))
          right i f h =
              branch_good g s l.first b.test b.if_true b.if_false l.is_if b.rest n (λ r d. Coupling Related (run g s i m) (denominator g i) r d)
              (λ k z r d h. scaled_right Related k (run g s i m) (denominator g i) r d h) (positive_b b.if_true.list y.if_true) (positive_b b.if_false.list y.if_false) f h

    both_branches : AreSound c (equiv (body is) (body js) p q) (
        ambient (every_pair (implies_form p (equal_form left_test right_test)))
        ∷ equiv (body (where_true a)) (body (where_true b)) (and_form p left_test) q
        ∷ equiv (body (where_false a)) (body (where_false b)) (and_form p (not_form left_test)) q ∷ [])
    both_branches = (
      (
        (ls, rs, pair_typed c outer (Some ls) (Some rs) ls rs refl refl (implies_form p (equal_form left_test right_test)) tests_typed),
        (
          (ls, rs, (tt, x.where_true, y.where_true, and_typed (two c ls rs) p left_test w left_typed, v)),
          ((ls, rs, (tt, x.where_false, y.where_false, and_typed (two c ls rs) p (not_form left_test) w (not_typed (two c ls rs) left_test left_typed), v)), tt),
        ),
      ),
      λ g fits j fair s fit h m n z.
          let e = together g fits j fair s m n (implies_use g j p (equal_form left_test right_test) (between s m n)
          (pair_meaning c outer (Some ls) (Some rs) ls rs refl refl (implies_form p (equal_form left_test right_test)) tests_typed g fits j fair s h.0 m n) z) in
          coupled g fits j fair s m n e
          (λ t. h.1.0 m n (and_make g j p left_test (between s m n) z (left_is g fits j fair s m n ∙ t)))
          (λ t. h.1.1.0 m n (and_make g j p (not_form left_test) (between s m n) z (not_make g j left_test (between s m n) (left_is g fits j fair s m n ∙ t)))),
    )

  of_both_sound : (is js : List Instr) → IsBody c ls is → IsBody c rs js → (o r : Option Branch) → first_branch is ≡ o → first_branch js ≡ r → (Gs : List Goal) → of_both p q (option_zip o r) ≡ given Gs →
      AreSound c (equiv (body is) (body js) p q) Gs
  of_both_sound is js x y (Some a) (Some b) e h Gs k =
      sound_given c (equiv (body is) (body js) p q) _ Gs (both_branches is js a b (begins is a e) (begins js b h) (parts c ls is a (begins is a e) x) (parts c rs js b (begins js b h) y)) k
  of_both_sound is js x y None r e h Gs k = refused_given Shape Gs k
  of_both_sound is js x y (Some a) None e h Gs k = refused_given Shape Gs k

module _ (c : Context) where
  pub sound : (a : Acts) → IsSoundRule c (if_row a) no_arguments
  sound on.All outer ls rs (hoare (body is) p q) w y Gs e =
      of_one_sound c ls (Some ls) c.left c.right side.Own tt refl (λ is p. hoare (body is) p q) (λ is v p u. (ls, ls, (v, u, w.2)))
      (λ s m n. at s m) (λ s m n o. refl) (λ g j s m n l d. Every (λ n. IsTrueUnder g j q (at s n)) l)
      (λ g j s m n k z l d h. Every-scale (λ n. IsTrueUnder g j q (at s n)) k l h) (λ g j s is p h m n x. h m x) (λ g j s is p f m x. f m m x)
      p w.1 is w.0 (first_branch is) refl Gs e
  sound on.All outer ls rs (phoare (body is) r p q b) w y Gs e =
      of_one_sound c ls (Some ls) c.left c.right side.Own tt refl (λ is p. phoare (body is) r p q b) (λ is v p u. (ls, ls, (v, u, w.2, w.3, w.4)))
      (λ s m n. at s m) (λ s m n o. refl) (λ g j s m n l d. compares r (chance l d (λ n. den g j q (at s n))) (fraction_in (val g (speaking g j) b s)) ≡ true)
      (λ g j s m n k z l d h. chance_scaled k z l d (λ n. den g j q (at s n)) r (fraction_in (val g (speaking g j) b s)) ∙ h)
      (λ g j s is p h m n x. h m x) (λ g j s is p f m x. f m m x)
      p w.1 is w.0 (first_branch is) refl Gs e
  sound on.Left outer ls rs (equiv (body is) (body js) p q) w y Gs e =
      of_one_sound c ls c.own (Some ls) (Some rs) side.Left tt refl (λ is p. equiv (body is) (body js) p q) (λ is v p u. (ls, rs, (tt, v, w.2, u, w.4)))
      (λ s m n. between s m n) (λ s m n o. refl) (λ g j s m n l d. Coupling (λ a b. IsTrueUnder g j q (between s a b)) l d (run g s js n) (denominator g js))
      (λ g j s m n k z l d h. scaled_left (λ a b. IsTrueUnder g j q (between s a b)) k l d (run g s js n) (denominator g js) h) (λ g j s is p h m n x. h m n x) (λ g j s is p f m n x. f m n x)
      p w.3 is w.1 (first_branch is) refl Gs e
  sound on.Right outer ls rs (equiv (body is) (body js) p q) w y Gs e =
      of_one_sound c rs c.own (Some ls) (Some rs) side.Right tt refl (λ js p. equiv (body is) (body js) p q) (λ js v p u. (ls, rs, (tt, w.1, v, u, w.4)))
      (λ s m n. between s m n) (λ s m n o. refl) (λ g j s m n l d. Coupling (λ a b. IsTrueUnder g j q (between s a b)) (run g s is m) (denominator g is) l d)
      (λ g j s m n k z l d h. scaled_right (λ a b. IsTrueUnder g j q (between s a b)) k (run g s is m) (denominator g is) l d h) (λ g j s js p h m n x. h m n x) (λ g j s js p f m n x. f m n x)
      p w.3 js w.2 (first_branch js) refl Gs e
  sound on.All outer ls rs (equiv (body is) (body js) p q) w y Gs e =
      of_both_sound c outer ls rs p q w.3 w.4 is js w.1 w.2 (first_branch is) (first_branch js) refl refl Gs e
  sound on.All outer ls rs (hoare (procedure a) p q) w y Gs e = refused_given Shape Gs e
  sound on.Left outer ls rs (hoare a p q) w y Gs e = refused_given Shape Gs e
  sound on.Right outer ls rs (hoare a p q) w y Gs e = refused_given Shape Gs e
  sound on.All outer ls rs (phoare (procedure a) r p q b) w y Gs e = refused_given Shape Gs e
  sound on.Left outer ls rs (phoare a r p q b) w y Gs e = refused_given Shape Gs e
  sound on.Right outer ls rs (phoare a r p q b) w y Gs e = refused_given Shape Gs e
  sound on.All outer ls rs (equiv (procedure a) b p q) w y Gs e = refused_given Shape Gs e
  sound on.Left outer ls rs (equiv (procedure a) b p q) w y Gs e = refused_given Shape Gs e
  sound on.Right outer ls rs (equiv (procedure a) b p q) w y Gs e = refused_given Shape Gs e
  sound on.All outer ls rs (equiv (body is) (procedure b) p q) w y Gs e = refused_given Shape Gs e
  sound on.Left outer ls rs (equiv (body is) (procedure b) p q) w y Gs e = refused_given Shape Gs e
  sound on.Right outer ls rs (equiv (body is) (procedure b) p q) w y Gs e = refused_given Shape Gs e
  sound on.All outer ls rs (ambient f) w y Gs e = refused_given Shape Gs e
  sound on.Left outer ls rs (ambient f) w y Gs e = refused_given Shape Gs e
  sound on.Right outer ls rs (ambient f) w y Gs e = refused_given Shape Gs e
