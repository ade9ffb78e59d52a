-- `wp` is sound.
use Rattle.std.proofs.Common.{◌≡◌, ℕ, zero, suc, ◌<◌, ◌*◌, ◌==◌, nat_lt, Bool, pos, true, false, not, ◌&&◌, ◌||◌, if◌then◌else◌, List, [], ◌∷◌, ◌++◌, length, take, drop, Option, Some, None, refl, ap, sym, ◌∙◌, subst, arith}
use Rattle.std.proofs.Math.Path.{fun_ext}
use Rattle.std.proofs.lemmas.Bool.{false≢true, ltb-true}
use Rattle.std.specs.List.{AllByRecursion}
use Rattle.gb_core.specs.declared.refusal.Why.TheVariants.{Shape, SideCondition}
use Rattle.gb_core.specs.declared.ty.Ty.TheVariants as ty
use Rattle.gb_core.specs.declared.var.Var.{Var}
use Rattle.gb_terms.specs.declared.decl.TypedName.{TypedName}
use Rattle.gb_terms.specs.declared.op.Rel.{Rel}
use Rattle.gb_terms.specs.declared.op.Side.{Side}
use Rattle.gb_terms.specs.declared.op.Side.TheVariants as side
use Rattle.gb_terms.specs.declared.term.Term.{Term}
use Rattle.gb_terms.specs.declared.term.Instr.{Instr, Row_of-Instr, end_of-Instr, more_of-Instr}
use Rattle.gb_terms.specs.declared.term.Head.TheVariants.{Assign, Sample, Call', If', While'}
use Rattle.gb_dist.specs.WeightedList.{WeightedList, Every, bind, dmap, unit, weight, bit}
use Rattle.gb_dist.specs.Coupling.{Coupling}
use Rattle.gb_dist.proofs.Basic.{coupling_dmap}
use Rattle.gb_dist.proofs.Entries.{Every-dmap}
use Rattle.gb_dist.proofs.Masses.{mass-dmap}
use Rattle.gb_dist.proofs.Monad.{bind-unit_right, dmap_by_bind}
use Rattle.gb_steps.specs.declared.step.Acts.{Acts}
use Rattle.gb_steps.specs.declared.step.Acts.TheVariants as on
use Rattle.gb_goal.specs.Answers.{Answer, ◌>>=◌}
use Rattle.gb_goal.specs.Answers.Answer.{given, refused}
use Rattle.gb_goal.specs.Goal.{Goal}
use Rattle.gb_goal.specs.Scope.{Declarations}
use Rattle.gb_goal.specs.Goal.Code.{body, procedure}
use Rattle.gb_goal.specs.Goal.Goal.{hoare, phoare, equiv, ambient}
use Rattle.gb_meaning.specs.Memory.{Memory, assigned}
use Rattle.gb_meaning.specs.Program.{Program}
use Rattle.gb_meaning.specs.Program.Program.{done, assign, sample, branch, loop, call, ask}
use Rattle.gb_meaning.specs.Commands.{program_of, statement, statements}
use Rattle.gb_meaning.specs.Setting.{Setting}
use Rattle.gb_meaning.specs.State.{State, at, between, inside, memory_of}
use Rattle.gb_meaning.specs.Meanings.{truth, value_in, fraction_in}
use Rattle.gb_meaning.specs.Terms.{quiet, val}
use Rattle.gb_meaning.specs.Runs.{valued, is_true}
use Rattle.gb_meaning.specs.Judgments.{Judge, IsFair, IsTrueUnder, speaking, compares, chance, den}
use Rattle.gb_meaning.specs.Written.{type_of}
use Rattle.gb_meaning.proofs.Truths.{true_and, true_implies, true_not}
use Rattle.gb_laws.specs.Written.{with_side, IsSide}
use Rattle.gb_walk.specs.Clash.{Exclusions}
use Rattle.gb_meaning.specs.Declared.{declared}
use Rattle.gb_typing.specs.Context.{Context, Frame, frame_of, reframed}
use Rattle.gb_typing.specs.Typing.{IsForm}
use Rattle.gb_typing.specs.Programs.{IsExpression, IsStatement, AreStatements, EachStatement}
use Rattle.gb_typing.specs.Fits.{IsSettingOf, IsStateOf}
use Rattle.gb_typing.specs.Forms.{IsKeptOff, located, implies_form, and_form, not_form}
use Rattle.gb_typing.specs.Meaning.{run, denominator, Stands}
use Rattle.gb_typing.specs.Rules.{IsSoundRuleIn, no_arguments}
use Rattle.gb_typing.specs.Scopes.{IsTypedScope}
use Rattle.gb_typing.specs.Goals.{IsTypedGoal}
use Rattle.gb_typing.proofs.Forms.{and_typed, implies_typed, not_typed}
use Rattle.gb_typing.proofs.Given.{refused_at, refused_given, same_given, sound_given_in}
use Rattle.gb_typing.proofs.Lists.{first_part, typed_drop}
use Rattle.gb_typing.proofs.InMemory.{test_typed as form_typed, located_value}
use Rattle.gb_typing.proofs.Runs.{run_cut, denominator_cut}
use Rattle.gb_mods.specs.Exclusions.{exclusions}
use Rattle.gb_prog.proofs.KeptOff.{kept_off}
use Rattle.gb_prog.specs.Straight.{IsStraight, RowIsStraight, AreStraight, ended, after}
use Rattle.gb_prog.proofs.Straight.{ended_then, straight_run, straight_denominator}
use Rattle.gb_prog.specs.Assigned.{assigned_form, clashing}
use Rattle.gb_prog.specs.OneBody.{OneBody}
use Rattle.gb_bodies.specs.Wp.{is_straight, row_is_straight, are_straight, unless_clash, before, before_row, before_all, with_front, staying, front, ending, wp_row}
use Rattle.gb_forms.specs.Branches.{by_test}
use Rattle.gb_prog.proofs.AssignedForms.{assigned_typed, assigned_meaning, put_read, put_twice}
use mathlib.Core.Former.{Count}

-- what is given after a step is given by the step and what follows
given_then : {A B : Type 0} (a : Answer A) (f : A → Answer B) (y : B) → (a >>= f) ≡ given y → (x : A) × (a ≡ given x) × (f x ≡ given y)
given_then (given x) f y e = (x, refl, e)
given_then (refused w p) f y e = refused_at w p y e

-- Statements without chance.

both_true : (a b : Bool) → (a && b) ≡ true → (a ≡ true) × (b ≡ true)
both_true true b e = (refl, e)
both_true false b e = absurd (false≢true e)

few : (xs : List Var) → nat_lt (length xs) 9 ≡ true → length xs < 9
few xs h = ltb-true (length xs) 9 h

mutual
  straight_is : (i : Instr) → is_straight i ≡ true → IsStraight i
  straight_is (Assign xs e) h = tt
  straight_is (Sample x d) h = absurd (false≢true h)
  straight_is (Call' xs p n es) h = absurd (false≢true h)
  straight_is (If' e m a n b) h = let k = both_true (row_is_straight a) (row_is_straight b) h in (row_is a k.0, row_is b k.1)
  straight_is (While' e v n a) h = absurd (false≢true h)

  row_is : {n : Count} (r : Row_of-Instr n) → row_is_straight r ≡ true → RowIsStraight r
  row_is end_of-Instr h = tt
  row_is (more_of-Instr i r) h = let k = both_true (is_straight i) (row_is_straight r) h in (straight_is i k.0, row_is r k.1)

-- what leaves a body is without chance
ending_is : (is : List Instr) → are_straight (ending is) ≡ true
ending_is [] = refl
ending_is (i ∷ is) = step (staying is) (ending_is is) (is_straight i) refl
  where
    step : (k : ℕ) → are_straight (drop k is) ≡ true → (b : Bool) → is_straight i ≡ b → are_straight (drop (with_front b k) (i ∷ is)) ≡ true
    step zero h true e = λ z. e z && h z
    step zero h false e = h
    step (suc k) h true e = h
    step (suc k) h false e = h

list_is : (is : List Instr) → are_straight is ≡ true → AreStraight is
list_is [] h = tt
list_is (i ∷ is) h = let k = both_true (is_straight i) (are_straight is) h in (straight_is i k.0, list_is is k.1)

-- a branch by a truth
by_truth : (t f h : Bool) → ((not t || f) && (not (not t) || h)) ≡ (if t then f else h)
by_truth true true h = refl
by_truth true false h = refl
by_truth false f h = refl

tested : (g : Setting) (j : Judge) (e a b : Term) (s : State) → den g j (by_test e a b) s ≡ (if den g j e s then den g j a s else den g j b s)
tested g j e a b s =
    true_and g j (implies_form e a) (implies_form (not_form e) b) s
    ∙ (λ i. true_implies g j e a s i && (true_implies g j (not_form e) b s ∙ ap (λ t. not t || den g j b s) (true_not g j e s)) i)
    ∙ by_truth (den g j e s) (den g j a s) (den g j b s)

-- a statement in front of a row
row_program : {n : Count} (g : Setting) (i : Instr) (r : Row_of-Instr n) → program_of g (more_of-Instr i r) ≡ statement g i (program_of g r)
row_program g (Assign xs e) r = refl
row_program g (Sample x d) r = refl
row_program g (Call' xs p n es) r = refl
row_program g (If' e m a n b) r = refl
row_program g (While' e v n a) r = refl

-- The memory of a side, in a state in which it is put.

put_inside : (s : State) (r : Side) → IsSide r → (m n : Memory) → inside (with_side s r m) n ≡ inside s n
put_inside s side.Own i m n = refl
put_inside s side.Left i m n = refl
put_inside s side.Right i m n = refl
put_inside s (side.Memory k) i m n = absurd i
put_inside s (side.Bound k) i m n = absurd i

module _ (ex : Exclusions) (c : Context) (ls : List TypedName) (F L K : Frame) (r : Side) (side_is : IsSide r) (frame : frame_of (reframed c F L K) r ≡ Some ls) where
  abbrev d : Context
  d = reframed c F L K

  assign_typed : (xs : List Var) (e q w : Term) → IsStatement c ls (Assign xs e) → length xs < 9 → IsForm d q → (o : Option Var) → unless_clash o (assigned_form r xs e q) ≡ given w → IsForm d w
  assign_typed xs e q w k l f None h = subst (IsForm d) (same_given _ w h) (assigned_typed c ls F L K r side_is frame xs e k.0 k.1 l q f)
  assign_typed xs e q w k l f (Some y) h = refused_given (SideCondition y) w h

  test_typed : (e f h : Term) → IsExpression c ls e → type_of e ≡ ty.Bool → IsForm d f → IsForm d h → IsForm d (by_test (located r e) f h)
  test_typed e f h x b u v =
      let t : IsForm d (located r e) = form_typed c ls e x F L K r side_is frame b in
      and_typed d (implies_form (located r e) f) (implies_form (not_form (located r e)) h) (implies_typed d (located r e) f t u) (implies_typed d (not_form (located r e)) h (not_typed d (located r e) t) v)

  mutual
    before_typed : (i : Instr) → IsStatement c ls i → (q w : Term) → IsForm d q → is_straight i ≡ true → before ex r i q ≡ given w → IsForm d w
    before_typed (Assign xs e) k q w f l h = assign_typed xs e q w k (few xs l) f (clashing ex r xs q) h
    before_typed (Sample x e) k q w f l h = refused_given Shape w h
    before_typed (Call' xs p n es) k q w f l h = refused_given Shape w h
    before_typed (If' e m a n b) k q w f l h =
        let t = both_true (row_is_straight a) (row_is_straight b) l in
        let y = given_then (before_row ex r a q) (λ y. before_row ex r b q >>= λ z. given (by_test (located r e) y z)) w h in
        let z = given_then (before_row ex r b q) (λ z. given (by_test (located r e) y.0 z)) w y.2 in
        subst (IsForm d) (same_given (by_test (located r e) y.0 z.0) w z.2)
        (test_typed e y.0 z.0 k.0.0 k.0.1 (row_typed a k.1 q y.0 f t.0 y.1) (row_typed b k.2 q z.0 f t.1 z.1))
    before_typed (While' e v n a) k q w f l h = refused_given Shape w h

    row_typed : {n : Count} (is : Row_of-Instr n) → AreStatements c ls is → (q w : Term) → IsForm d q → row_is_straight is ≡ true → before_row ex r is q ≡ given w → IsForm d w
    row_typed end_of-Instr k q w f l h = subst (IsForm d) (same_given q w h) f
    row_typed (more_of-Instr i is) k q w f l h =
        let y = given_then (before_row ex r is q) (before ex r i) w h in
        let t = both_true (is_straight i) (row_is_straight is) l in
        before_typed i k.0 y.0 w (row_typed is k.1 q y.0 f t.1 y.1) t.0 y.2

  all_typed : (is : List Instr) → EachStatement c ls is → (q w : Term) → IsForm d q → are_straight is ≡ true → before_all ex r is q ≡ given w → IsForm d w
  all_typed [] k q w f l h = subst (IsForm d) (same_given q w h) f
  all_typed (i ∷ is) k q w f l h =
      let y = given_then (before_all ex r is q) (before ex r i) w h in
      let t = both_true (is_straight i) (are_straight is) l in
      before_typed i k.0 y.0 w (all_typed is k.1 q y.0 f t.1 y.1) t.0 y.2

  module _ (g : Setting) (fits : IsSettingOf c g) (off : IsKeptOff ex g) (j : Judge) (fair : IsFair g j) (s : State) (fit : IsStateOf c g s) where
    -- a form says in a memory what another one says in the memory that a program leads to
    abbrev Says : Term → Program → Term → Type 0
    Says w p q = (m : Memory) → den g j w (with_side s r m) ≡ den g j q (with_side s r (ended g s p m))

    fit_put : (r : Side) → IsSide r → (m : Memory) → IsStateOf d g (with_side s r m)
    fit_put side.Own i m = record { logical = fit.logical; bound = fit.bound }
    fit_put side.Left i m = record { logical = fit.logical; bound = fit.bound }
    fit_put side.Right i m = record { logical = fit.logical; bound = fit.bound }
    fit_put (side.Memory k) i m = absurd i
    fit_put (side.Bound k) i m = absurd i

    -- after an assignment in a memory that is put
    assigned_put : (xs : List Var) (e : Term) (m : Memory) →
        with_side (with_side s r m) r (assigned g.types (memory_of (with_side s r m) r) xs (valued g (with_side s r m) e (memory_of (with_side s r m) r)))
        ≡ with_side s r (assigned g.types m xs (valued g s e m))
    assigned_put xs e m =
        put_twice s r side_is m _
        ∙ (λ i. with_side s r (assigned g.types (put_read s r side_is m i) xs (valued g (with_side s r m) e (put_read s r side_is m i))))
        ∙ ap (λ z. with_side s r (assigned g.types m xs z)) (ap (λ z. value_in (val g quiet e z)) (put_inside s r side_is m m))

    assign_says : (xs : List Var) (e q w : Term) → IsStatement c ls (Assign xs e) → length xs < 9 → IsForm d q → (o : Option Var) → clashing ex r xs q ≡ o →
        unless_clash o (assigned_form r xs e q) ≡ given w → Says w (statement g (Assign xs e) done) q
    assign_says xs e q w k l f None o h m =
        ap (λ w. den g j w (with_side s r m)) (sym (same_given (assigned_form r xs e q) w h))
        ∙ assigned_meaning c ls F L K r side_is frame g fits j fair (with_side s r m) (fit_put r side_is m) ex off xs e k.0 k.1 l q f o
        ∙ ap (den g j q) (assigned_put xs e m)
    assign_says xs e q w k l f (Some y) o h m = refused_given (SideCondition y) w h

    test_is : (e : Term) → IsExpression c ls e → (m : Memory) → den g j (located r e) (with_side s r m) ≡ is_true g s e m
    test_is e x m =
        ap truth (located_value c ls e x g (speaking g j) (with_side s r m) r side_is
        ∙ ap (λ n. val g quiet e (inside (with_side s r m) n)) (put_read s r side_is m) ∙ ap (val g quiet e) (put_inside s r side_is m m))

    branch_says : (e : Term) (a b : Program) (f h q : Term) → IsExpression c ls e → Says f a q → Says h b q → Says (by_test (located r e) f h) (branch e a b done) q
    branch_says e a b f h q x u v m =
        tested g j (located r e) f h (with_side s r m)
        ∙ (λ i. if test_is e x m i then u m i else v m i)
        ∙ chosen (is_true g s e m)
      where
        chosen : (t : Bool) → (if t then den g j q (with_side s r (ended g s a m)) else den g j q (with_side s r (ended g s b m))) ≡ den g j q (with_side s r (if t then ended g s a m else ended g s b m))
        chosen true = refl
        chosen false = refl

    mutual
      before_says : (i : Instr) → IsStatement c ls i → (q w : Term) → IsForm d q → is_straight i ≡ true → before ex r i q ≡ given w → Says w (statement g i done) q
      before_says (Assign xs e) k q w f l h = assign_says xs e q w k (few xs l) f (clashing ex r xs q) refl h
      before_says (Sample x e) k q w f l h = refused_given Shape w h
      before_says (Call' xs p n es) k q w f l h = refused_given Shape w h
      before_says (If' e o a n b) k q w f l h =
          let y = given_then (before_row ex r a q) (λ y. before_row ex r b q >>= λ z. given (by_test (located r e) y z)) w h in
          let z = given_then (before_row ex r b q) (λ z. given (by_test (located r e) y.0 z)) w y.2 in
          let t = both_true (row_is_straight a) (row_is_straight b) l in
          subst (λ w. Says w (branch e (program_of g a) (program_of g b) done) q) (same_given (by_test (located r e) y.0 z.0) w z.2)
          (branch_says e (program_of g a) (program_of g b) y.0 z.0 q k.0.0 (row_says a k.1 q y.0 f t.0 y.1) (row_says b k.2 q z.0 f t.1 z.1))
      before_says (While' e v n a) k q w f l h = refused_given Shape w h

      row_says : {n : Count} (is : Row_of-Instr n) → AreStatements c ls is → (q w : Term) → IsForm d q → row_is_straight is ≡ true → before_row ex r is q ≡ given w → Says w (program_of g is) q
      row_says end_of-Instr k q w f l h m = ap (λ w. den g j w (with_side s r m)) (sym (same_given q w h))
      row_says (more_of-Instr i is) k q w f l h m =
          let y = given_then (before_row ex r is q) (before ex r i) w h in
          let t = both_true (is_straight i) (row_is_straight is) l in
          before_says i k.0 y.0 w (row_typed is k.1 q y.0 f t.1 y.1) t.0 y.2 m
          ∙ row_says is k.1 q y.0 f t.1 y.1 (ended g s (statement g i done) m)
          ∙ ap (λ n. den g j q (with_side s r n)) (sym (ended_then g s i (straight_is i t.0) (program_of g is) m) ∙ ap (λ p. ended g s p m) (sym (row_program g i is)))

    all_says : (is : List Instr) → EachStatement c ls is → (q w : Term) → IsForm d q → are_straight is ≡ true → before_all ex r is q ≡ given w → Says w (statements g is) q
    all_says [] k q w f l h m = ap (λ w. den g j w (with_side s r m)) (sym (same_given q w h))
    all_says (i ∷ is) k q w f l h m =
        let y = given_then (before_all ex r is q) (before ex r i) w h in
        let t = both_true (is_straight i) (are_straight is) l in
        before_says i k.0 y.0 w (all_typed is k.1 q y.0 f t.1 y.1) t.0 y.2 m
        ∙ all_says is k.1 q y.0 f t.1 y.1 (ended g s (statement g i done) m)
        ∙ ap (λ n. den g j q (with_side s r n)) (sym (ended_then g s i (straight_is i t.0) (statements g is) m))

-- The front of a body, and where what ends it leads.

abbrev effect : Setting → State → List Instr → Memory → Memory
effect g s is m = after g s (ending is) m

module _ (g : Setting) (s : State) (is : List Instr) where
  run_front : (m : Memory) → run g s is m ≡ dmap (effect g s is) (run g s (front is) m)
  run_front m = sym (run_cut g s (staying is) is m) ∙ ap (bind (run g s (front is) m)) (fun_ext (λ n. straight_run g s (ending is) (list_is (ending is) (ending_is is)) n))
      ∙ sym (dmap_by_bind (effect g s is) (run g s (front is) m))

  denominator_front : denominator g is ≡ denominator g (front is)
  denominator_front =
      sym (denominator_cut g s (staying is) is) ∙ ap (λ n. denominator g (front is) * n) (straight_denominator g (ending is) (list_is (ending is) (ending_is is)))
      ∙ times_one (denominator g (front is))
    where
      times_one : (n : ℕ) → n * 1 ≡ n
      times_one n = omega arith

module _ (g : Setting) (j : Judge) (s : State) where
  hoare_before : (is : List Instr) (p q w : Term) → ((m : Memory) → den g j w (at s m) ≡ den g j q (at s (effect g s is m))) → Stands g j s (hoare (body (front is)) p w) →
      Stands g j s (hoare (body is) p q)
  hoare_before is p q w k h m x =
      subst (Every (λ n. IsTrueUnder g j q (at s n))) (sym (run_front g s is m))
      (Every-dmap {P = λ n. IsTrueUnder g j w (at s n)} (λ n. IsTrueUnder g j q (at s n)) (effect g s is) (run g s (front is) m) (λ n z. sym (k n) ∙ z) (h m x))

  phoare_before : (is : List Instr) (o : Rel) (p q b w : Term) → ((m : Memory) → den g j w (at s m) ≡ den g j q (at s (effect g s is m))) →
      Stands g j s (phoare (body (front is)) o p w b) → Stands g j s (phoare (body is) o p q b)
  phoare_before is o p q b w k h m x =
      let heavy : weight (run g s is m) (λ n. den g j q (at s n)) ≡ weight (run g s (front is) m) (λ n. den g j w (at s n)) =
      ap (λ l. weight l (λ n. den g j q (at s n))) (run_front g s is m) ∙ mass-dmap (effect g s is) (run g s (front is) m) (λ n. bit (den g j q (at s n)))
      ∙ ap (weight (run g s (front is) m)) (fun_ext (λ n. sym (k n))) in
      subst (λ z. z) (λ i. compares o (pos (sym heavy i), sym (denominator_front g s is) i) (fraction_in (val g (speaking g j) b s)) ≡ true) (h m x)

  -- two programs, of which one may be left as it is
  equiv_before : (is js us vs : List Instr) (f h : Memory → Memory) (p q w : Term) → ((m : Memory) → run g s is m ≡ dmap f (run g s us m)) → denominator g is ≡ denominator g us →
      ((m : Memory) → run g s js m ≡ dmap h (run g s vs m)) → denominator g js ≡ denominator g vs →
      ((m n : Memory) → den g j w (between s m n) ≡ den g j q (between s (f m) (h n))) → Stands g j s (equiv (body us) (body vs) p w) → Stands g j s (equiv (body is) (body js) p q)
  equiv_before is js us vs f h p q w a b c d k t m n x =
      subst (λ z. z) (λ i. Coupling (λ a b. IsTrueUnder g j q (between s a b)) (sym (a m) i) (sym b i) (sym (c n) i) (sym d i))
      (coupling_dmap (λ a b. IsTrueUnder g j q (between s a b)) f h (λ a b z. sym (k a b) ∙ z) (t m n x))

-- a program sees of a state the memory alone in which it runs
same_end : (g : Setting) (s t : State) → ((m : Memory) → inside s m ≡ inside t m) → (p : Program) (m : Memory) → ended g s p m ≡ ended g t p m
same_end g s t h done m = refl
same_end g s t h (assign xs e p) m = same_end g s t h p (assigned g.types m xs (valued g s e m)) ∙ (λ i. ended g t p (assigned g.types m xs (value_in (val g quiet e (h m i)))))
same_end g s t h (branch e a b p) m =
    same_end g s t h p (if is_true g s e m then ended g s a m else ended g s b m)
    ∙ (λ i. ended g t p (if truth (val g quiet e (h m i)) then same_end g s t h a m i else same_end g s t h b m i))
same_end g s t h (sample x d p) m = refl
same_end g s t h (loop e v a p) m = refl
same_end g s t h (call xs r es p) m = refl
same_end g s t h (ask xs o es p) m = refl

same_effect : (g : Setting) (s : State) (m n : Memory) (is : List Instr) (k : Memory) → effect g (between s m n) is k ≡ effect g s is k
same_effect g s m n is k = same_end g (between s m n) s (λ o. refl) (statements g (ending is)) k

same_run : (g : Setting) (s : State) (is : List Instr) (m : Memory) → run g s is m ≡ dmap (λ n. n) (run g s is m)
same_run g s is m = sym (dmap_by_bind (λ n. n) (run g s is m) ∙ bind-unit_right (run g s is m))

module _ (ds : Declarations) (scoped : IsTypedScope (declared ds)) (c : Context) where
  abbrev ex : Exclusions
  ex = exclusions ds

  pub sound : (a : Acts) → IsSoundRuleIn (declared ds) c (wp_row ds a) no_arguments
  sound on.All outer ls rs (hoare (body is) p q) w y Gs e =
      let x = given_then (before_all ex side.Own (ending is) q) (λ z. given (hoare (body (front is)) p z ∷ [])) Gs e in
      let v = typed_drop c ls (staying is) is w.0.statements in
      sound_given_in (declared ds) c (hoare (body is) p q) (hoare (body (front is)) p x.0 ∷ []) Gs (
        ((ls, ls, (first_part c ls (staying is) is w.0, w.1, all_typed ex c ls (Some ls) c.left c.right side.Own tt refl (ending is) v q x.0 w.2 (ending_is is) x.1)), tt),
        λ g fits over j fair s fit h. hoare_before g j s is p q x.0 (λ m. all_says ex c ls (Some ls) c.left c.right side.Own tt refl g fits (kept_off ds scoped g over) j fair s fit (ending is) v q x.0 w.2 (ending_is is) x.1 m) h.0,
      ) x.2
  sound on.All outer ls rs (phoare (body is) r p q b) w y Gs e =
      let x = given_then (before_all ex side.Own (ending is) q) (λ z. given (phoare (body (front is)) r p z b ∷ [])) Gs e in
      let v = typed_drop c ls (staying is) is w.0.statements in
      sound_given_in (declared ds) c (phoare (body is) r p q b) (phoare (body (front is)) r p x.0 b ∷ []) Gs (
        ((ls, ls, (first_part c ls (staying is) is w.0, w.1, all_typed ex c ls (Some ls) c.left c.right side.Own tt refl (ending is) v q x.0 w.2 (ending_is is) x.1, w.3, w.4)), tt),
        λ g fits over j fair s fit h. phoare_before g j s is r p q b x.0 (λ m. all_says ex c ls (Some ls) c.left c.right side.Own tt refl g fits (kept_off ds scoped g over) j fair s fit (ending is) v q x.0 w.2 (ending_is is) x.1 m) h.0,
      ) x.2
  sound on.Left outer ls rs (equiv (body is) (body js) p q) w y Gs e =
      let x = given_then (before_all ex side.Left (ending is) q) (λ z. given (equiv (body (front is)) (body js) p z ∷ [])) Gs e in
      let v = typed_drop c ls (staying is) is w.1.statements in
      sound_given_in (declared ds) c (equiv (body is) (body js) p q) (equiv (body (front is)) (body js) p x.0 ∷ []) Gs (
        ((ls, rs, (tt, first_part c ls (staying is) is w.1, w.2, w.3, all_typed ex c ls c.own (Some ls) (Some rs) side.Left tt refl (ending is) v q x.0 w.4 (ending_is is) x.1)), tt),
        λ g fits over j fair s fit h. equiv_before g j s is js (front is) js (effect g s is) (λ n. n) p q x.0 (run_front g s is) (denominator_front g s is) (same_run g s js) refl
            (λ m n. all_says ex c ls c.own (Some ls) (Some rs) side.Left tt refl g fits (kept_off ds scoped g over) j fair (between s m n) (record { logical = fit.logical; bound = fit.bound }) (ending is) v q x.0 w.4 (ending_is is) x.1 m
            ∙ ap (λ k. den g j q (between s k n)) (same_effect g s m n is m)) h.0,
      ) x.2
  sound on.Right outer ls rs (equiv (body is) (body js) p q) w y Gs e =
      let x = given_then (before_all ex side.Right (ending js) q) (λ z. given (equiv (body is) (body (front js)) p z ∷ [])) Gs e in
      let v = typed_drop c rs (staying js) js w.2.statements in
      sound_given_in (declared ds) c (equiv (body is) (body js) p q) (equiv (body is) (body (front js)) p x.0 ∷ []) Gs (
        ((ls, rs, (tt, w.1, first_part c rs (staying js) js w.2, w.3, all_typed ex c rs c.own (Some ls) (Some rs) side.Right tt refl (ending js) v q x.0 w.4 (ending_is js) x.1)), tt),
        λ g fits over j fair s fit h. equiv_before g j s is js is (front js) (λ m. m) (effect g s js) p q x.0 (same_run g s is) refl (run_front g s js) (denominator_front g s js)
            (λ m n. all_says ex c rs c.own (Some ls) (Some rs) side.Right tt refl g fits (kept_off ds scoped g over) j fair (between s m n) (record { logical = fit.logical; bound = fit.bound }) (ending js) v q x.0 w.4 (ending_is js) x.1 n
            ∙ ap (λ k. den g j q (between s m k)) (same_effect g s m n js n)) h.0,
      ) x.2
  sound on.All outer ls rs (equiv (body is) (body js) p q) w y Gs e =
      let x = given_then (before_all ex side.Left (ending is) q) (λ z. before_all ex side.Right (ending js) z >>= λ u. given (equiv (body (front is)) (body (front js)) p u ∷ [])) Gs e in
      let z = given_then (before_all ex side.Right (ending js) x.0) (λ u. given (equiv (body (front is)) (body (front js)) p u ∷ [])) Gs x.2 in
      let v = typed_drop c ls (staying is) is w.1.statements in
      let u = typed_drop c rs (staying js) js w.2.statements in
      let f = all_typed ex c ls c.own (Some ls) (Some rs) side.Left tt refl (ending is) v q x.0 w.4 (ending_is is) x.1 in
      sound_given_in (declared ds) c (equiv (body is) (body js) p q) (equiv (body (front is)) (body (front js)) p z.0 ∷ []) Gs (
        ((ls, rs, (tt, first_part c ls (staying is) is w.1, first_part c rs (staying js) js w.2, w.3, all_typed ex c rs c.own (Some ls) (Some rs) side.Right tt refl (ending js) u x.0 z.0 f (ending_is js) z.1)), tt),
        λ g fits over j fair s fit h. equiv_before g j s is js (front is) (front js) (effect g s is) (effect g s js) p q z.0 (run_front g s is) (denominator_front g s is) (run_front g s js) (denominator_front g s js)
            (λ m n. all_says ex c rs c.own (Some ls) (Some rs) side.Right tt refl g fits (kept_off ds scoped g over) j fair (between s m n) (record { logical = fit.logical; bound = fit.bound }) (ending js) u x.0 z.0 f (ending_is js) z.1 n
            ∙ ap (λ k. den g j x.0 (between s m k)) (same_effect g s m n js n)
            ∙ all_says ex c ls c.own (Some ls) (Some rs) side.Left tt refl g fits (kept_off ds scoped g over) j fair (between s m (effect g s js n)) (record { logical = fit.logical; bound = fit.bound }) (ending is) v q x.0 w.4 (ending_is is) x.1 m
            ∙ ap (λ k. den g j q (between s k (effect g s js n))) (same_effect g s m (effect g s js n) is m)) h.0,
      ) z.2
  sound on.All outer ls rs (hoare (procedure a) p q) w y Gs e = refused_given Shape Gs e
  sound on.Left outer ls rs (hoare a p q) w y Gs e = refused_given Shape Gs e
  sound on.Right outer ls rs (hoare a p q) w y Gs e = refused_given Shape Gs e
  sound on.All outer ls rs (phoare (procedure a) r p q b) w y Gs e = refused_given Shape Gs e
  sound on.Left outer ls rs (phoare a r p q b) w y Gs e = refused_given Shape Gs e
  sound on.Right outer ls rs (phoare a r p q b) w y Gs e = refused_given Shape Gs e
  sound on.All outer ls rs (equiv (procedure a) b p q) w y Gs e = refused_given Shape Gs e
  sound on.Left outer ls rs (equiv (procedure a) b p q) w y Gs e = refused_given Shape Gs e
  sound on.Right outer ls rs (equiv (procedure a) b p q) w y Gs e = refused_given Shape Gs e
  sound on.All outer ls rs (equiv (body is) (procedure b) p q) w y Gs e = refused_given Shape Gs e
  sound on.Left outer ls rs (equiv (body is) (procedure b) p q) w y Gs e = refused_given Shape Gs e
  sound on.Right outer ls rs (equiv (body is) (procedure b) p q) w y Gs e = refused_given Shape Gs e
  sound on.All outer ls rs (ambient f) w y Gs e = refused_given Shape Gs e
  sound on.Left outer ls rs (ambient f) w y Gs e = refused_given Shape Gs e
  sound on.Right outer ls rs (ambient f) w y Gs e = refused_given Shape Gs e
