-- A body in which one call is replaced runs as it did, but for locals that aren't in use, and has good loops.
use Rattle.std.proofs.Common.{◌≡◌, min, List, [], ◌∷◌, ◌++◌, Option, Some, None, refl, ap, sym, ◌∙◌, subst}
use Rattle.std.proofs.lemmas.Option.{none-some, same_Some}
use Rattle.std.specs.Option.{option_map}
use Rattle.gb_core.specs.declared.var.Var.{Var}
use Rattle.gb_terms.specs.declared.module.ProcRef.{ProcRef}
use Rattle.gb_terms.specs.declared.term.Cmd.{items-the_row-Instr, items_hidden-the_row-Instr-1}
use Rattle.gb_terms.specs.declared.term.Head.TheBlock as B
use Rattle.gb_terms.specs.declared.decl.TypedName.{TypedName}
use Rattle.gb_terms.specs.declared.term.Instr.{Instr, Row_of-Instr, end_of-Instr, more_of-Instr}
use Rattle.gb_terms.specs.declared.term.Head.TheVariants.{Assign, Sample, Call', If', While, While'}
use Rattle.gb_terms.specs.declared.term.Term.{Term, Row_of-Term}
use Rattle.gb_meaning.specs.Footprints.{touched_in, variables, variables_in}
use Rattle.gb_meaning.specs.Holds.{LoopsAreGood}
use Rattle.gb_meaning.proofs.Bodies.{statement_if, statement_while}
use Rattle.gb_meaning.specs.Commands.{called, program_of, statement, statements, terms_in}
use Rattle.gb_meaning.specs.Loops.{IsGood}
use Rattle.gb_meaning.specs.Meanings.{number_in, truth, weights_in}
use Rattle.gb_meaning.specs.Memory.{Memory, assigned, result_in}
use Rattle.gb_meaning.specs.Program.{Program, Routine, followed_by}
use Rattle.gb_meaning.specs.Program.Program.{branch, done, loop}
use Rattle.gb_meaning.specs.Runs.{is_true, most_turns, turns_at, valued}
use Rattle.gb_meaning.specs.Setting.{Setting}
use Rattle.gb_meaning.specs.State.{State, closed}
use Rattle.gb_mods.specs.Touched.{apart, each_touched, statement_touched}
use Rattle.gb_typing.specs.Context.{Context, procedure}
use Rattle.gb_typing.specs.Fits.{IsSettingOf}
use Rattle.gb_typing.specs.Modules.{ProcedureType}
use Rattle.gb_typing.specs.Programs.{AreStatements, EachStatement, IsCall, IsExpression, IsStatement}
use Rattle.gb_typing.proofs.Drawing.{subject_sound}
use Rattle.gb_typing.proofs.Lists.{hidden_each}
use Rattle.gb_typing.proofs.Runs.{statements_followed}
use Rattle.gb_prog.proofs.Own.{good_append}
use Rattle.gb_inline.specs.Inlined.{Expansion, each_inlined, next_inlined, row_inlined, side_inlined, statement_inlined}
use Rattle.gb_inline.proofs.GoodLoops.{good_matched}
use Rattle.gb_inline.proofs.InlinedSteps.{inlined_list}
use Rattle.gb_inline.proofs.Matched.{Matches, match_assign, match_branch, match_call, match_done, match_loop, match_sample}
use Rattle.gb_inline.proofs.Off.{AreUsed, Off, off_assigned, off_itself, off_meaning, off_value, off_values, off_write, used_append}
use mathlib.Core.Former.{Count}

-- the rows of lists

program_items : {n : Count} (g : Setting) (r : Row_of-Instr n) → program_of g r ≡ statements g (items-the_row-Instr _ r)
program_items g end_of-Instr = refl
program_items g (more_of-Instr (Assign xs e) r) = ap (statement g (Assign xs e)) (program_items g r)
program_items g (more_of-Instr (Sample x d) r) = ap (statement g (Sample x d)) (program_items g r)
program_items g (more_of-Instr (Call' xs p n es) r) = ap (statement g (Call' xs p n es)) (program_items g r)
program_items g (more_of-Instr (If' e m a n b) r) = ap (statement g (If' e m a n b)) (program_items g r)
program_items g (more_of-Instr (While' e v n a) r) = ap (statement g (While' e v n a)) (program_items g r)

program_more : {n : Count} (g : Setting) (i : Instr) (r : Row_of-Instr n) → program_of g (more_of-Instr i r) ≡ statement g i (program_of g r)
program_more g (Assign xs e) r = refl
program_more g (Sample x d) r = refl
program_more g (Call' xs p n es) r = refl
program_more g (If' e m a n b) r = refl
program_more g (While' e v n a) r = refl

program_list : (g : Setting) (is : List Instr) → program_of g (B.hidden-the_row-Instr-1 is) ≡ statements g is
program_list g is = program_items g (B.hidden-the_row-Instr-1 is) ∙ ap (statements g) (items_hidden-the_row-Instr-1 is)

touched_items : {n : Count} (r : Row_of-Instr n) → touched_in apart r ≡ each_touched (items-the_row-Instr _ r)
touched_items end_of-Instr = refl
touched_items (more_of-Instr i r) = ap (λ l. statement_touched i ++ l) (touched_items r)

pub touched_list : (is : List Instr) → touched_in apart (B.hidden-the_row-Instr-1 is) ≡ each_touched is
touched_list is = touched_items (B.hidden-the_row-Instr-1 is) ∙ ap each_touched (items_hidden-the_row-Instr-1 is)

module _ (c : Context) (g : Setting) (used : List Var) (fs : List TypedName) where
  abbrev M : State → Program → Program → Type 0
  M s a b = Matches g (Off used) s s a b

  -- Statements that read variables in use alone.
  module _ (s : State) where
    guards : (e : Term) → IsExpression c fs e → AreUsed used (variables e) → (m n : Memory) → Off used m n → is_true g s e m ≡ is_true g s e n
    guards e w u m n o = ap truth (off_meaning used g c fs e w u s m n o)

    counts : (v : Term) → IsExpression c fs v → AreUsed used (variables v) → (m n : Memory) → Off used m n → turns_at g s v m ≡ turns_at g s v n
    counts v w u m n o = λ i. min (number_in (off_meaning used g c fs v w u s m n o i)) (most_turns v)

    off_calls : (xs : List Var) (m n : Memory) → Off used m n → (p : Memory) → Off used (assigned g.types (record { globals = p.globals; frame = m.frame }) xs (result_in p)) (assigned g.types (record { globals = p.globals; frame = n.frame }) xs (result_in p))
    off_calls xs m n o p = off_assigned used g xs (result_in p) _ _ (record { globals = refl; locals = (let k = o.locals in k) })

    called_self : {n : Count} (xs : List Var) (o : Option Routine) (es : Row_of-Term n) (t : Option ProcedureType) → IsCall c fs xs t (terms_in es) → AreUsed used (variables_in es) → (a b : Program) → M s a b →
        M s (called xs o (terms_in es) a) (called xs o (terms_in es) b)
    called_self xs o es None w u a b h = absurd w
    called_self xs None es (Some t) w u a b h = h
    called_self xs (Some o) es (Some t) w u a b h =
        match_call g (Off used) s s xs xs o (terms_in es) (terms_in es) a b (λ m n r. off_values used g c fs es t.params w.0 u s m n r) (λ m n r. (let k = r.globals in k)) (λ m n r p. off_calls xs m n r p) h

    mutual
      statement_self : (i : Instr) → IsStatement c fs i → AreUsed used (statement_touched i) → (a b : Program) → M s a b → M s (statement g i a) (statement g i b)
      statement_self (Assign xs e) w u a b h =
          let z = used_append used xs (variables e) u in
          let x = w.0 in
          match_assign g (Off used) s s xs xs e e a b
          (λ m n o.
          subst (λ v. Off used (assigned g.types m xs (valued g s e m)) (assigned g.types n xs v)) (off_value used g c fs e x.expression z.1 s m n o) (off_assigned used g xs (valued g s e m) m n o)) h
      statement_self (Sample x d) w u a b h =
          match_sample g (Off used) s s x x d d a b refl (λ m n o. ap weights_in (off_meaning used g c fs d w.0 u.1 s m n o)) (λ m n o v. off_write used g x v m n o) h
      statement_self (Call' xs p n es) w u a b h =
          let z = used_append used (xs ++ variables_in es) [] u in
          let y = used_append used xs (variables_in es) z.0 in
          called_self xs (g.procedure p) es (procedure c p) w y.1 a b h
      statement_self (If' e m a n b) w u x y h =
          let z = used_append used (variables e ++ touched_in apart a) (touched_in apart b) u in
          let v = used_append used (variables e) (touched_in apart a) z.0 in
          match_branch g (Off used) s s e e (program_of g a) (program_of g b) x (program_of g a) (program_of g b) y (λ m n o. guards e w.0.0 v.0 m n o) (row_self a w.1 v.1) (row_self b w.2 z.1) h
      statement_self (While' e t n a) w u x y h =
          let z = used_append used (variables e ++ variables t) (touched_in apart a) u in
          let v = used_append used (variables e) (variables t) z.0 in
          match_loop g (Off used) s s e e t t (program_of g a) (program_of g a) x y (λ m n o. guards e w.0.0 v.0 m n o) refl (λ m n o. counts t w.1.0 v.1 m n o) (row_self a w.2 z.1) h

      row_self : {n : Count} (is : Row_of-Instr n) → AreStatements c fs is → AreUsed used (touched_in apart is) → M s (program_of g is) (program_of g is)
      row_self end_of-Instr w u = match_done g (Off used) s s
      row_self (more_of-Instr i is) w u =
          let z = used_append used (statement_touched i) (touched_in apart is) u in
          subst (λ a. M s a a) (sym (program_more g i is)) (statement_self i w.0 z.0 (program_of g is) (program_of g is) (row_self is w.1 z.1))

    row_items : {n : Count} (is : Row_of-Instr n) → AreStatements c fs is → AreUsed used (touched_in apart is) → M s (program_of g is) (statements g (items-the_row-Instr _ is))
    row_items is w u = subst (M s (program_of g is)) (program_items g is) (row_self is w u)

  -- A call is replaced.
  module _ (x : Expansion) where
    -- what stands in its place runs as it does
    abbrev pub IsPlaced : List Var → ProcRef → List Term → List Instr → Type 0
    IsPlaced xs p es js = (s : State) (a b : Program) → M s a b → M s (called xs (g.procedure p) es a) (followed_by (statements g js) b)

    module _ (places : (n : Count) (xs : List Var) (p : ProcRef) (es : Row_of-Term n) (js : List Instr) → IsCall c fs xs (procedure c p) (terms_in es) → AreUsed used (variables_in es) → x xs p (terms_in es) ≡ Some js → IsPlaced xs p (terms_in es) js) where
      module _ (s : State) where
        -- a branch, one side of which is replaced
        branched : {k l : Count} (e : Term) (a : Row_of-Instr k) (b : Row_of-Instr l) (js : List Instr) → IsExpression c fs e → AreUsed used (variables e) → AreStatements c fs a → AreUsed used (touched_in apart a) →
            AreStatements c fs b → AreUsed used (touched_in apart b) → ((ks : List Instr) → row_inlined x a ≡ Some ks → M s (program_of g a) (statements g ks)) →
            ((ks : List Instr) → row_inlined x b ≡ Some ks → M s (program_of g b) (statements g ks)) → (o r : Option (List Instr)) → row_inlined x a ≡ o → row_inlined x b ≡ r →
            side_inlined e (items-the_row-Instr _ a) (items-the_row-Instr _ b) o r ≡ Some js → (y z : Program) → M s y z → M s (branch e (program_of g a) (program_of g b) y) (followed_by (statements g js) z)
        branched e a b js w u wa ua wb ub left right (Some ks) r p q k y z h =
            subst (λ is. M s (branch e (program_of g a) (program_of g b) y) (followed_by (statements g is) z)) (same_Some _ js k)
            (subst (λ t. M s (branch e (program_of g a) (program_of g b) y) (followed_by t z)) (sym (statement_if g e (record { list = ks }) (record { list = items-the_row-Instr _ b }) done))
            (match_branch g (Off used) s s e e (program_of g a) (program_of g b) y (statements g ks) (statements g (items-the_row-Instr _ b)) z (λ m n o. guards s e w u m n o) (left ks p) (row_items s b wb ub) h))
        branched e a b js w u wa ua wb ub left right None (Some ks) p q k y z h =
            subst (λ is. M s (branch e (program_of g a) (program_of g b) y) (followed_by (statements g is) z)) (same_Some _ js k)
            (subst (λ t. M s (branch e (program_of g a) (program_of g b) y) (followed_by t z)) (sym (statement_if g e (record { list = items-the_row-Instr _ a }) (record { list = ks }) done))
            (match_branch g (Off used) s s e e (program_of g a) (program_of g b) y (statements g (items-the_row-Instr _ a)) (statements g ks) z (λ m n o. guards s e w u m n o) (row_items s a wa ua) (right ks q) h))
        branched e a b js w u wa ua wb ub left right None None p q k y z h = absurd (none-some js k)

        looped : {k : Count} (e v : Term) (a : Row_of-Instr k) (js : List Instr) → IsExpression c fs e → AreUsed used (variables e) → IsExpression c fs v → AreUsed used (variables v) →
            ((ks : List Instr) → row_inlined x a ≡ Some ks → M s (program_of g a) (statements g ks)) → (o : Option (List Instr)) → row_inlined x a ≡ o →
            option_map (λ ks. While e v (record { list = ks }) ∷ []) o ≡ Some js → (y z : Program) → M s y z → M s (loop e v (program_of g a) y) (followed_by (statements g js) z)
        looped e v a js w u wv uv body None p k y z h = absurd (none-some js k)
        looped e v a js w u wv uv body (Some ks) p k y z h =
            subst (λ is. M s (loop e v (program_of g a) y) (followed_by (statements g is) z)) (same_Some _ js k)
            (subst (λ t. M s (loop e v (program_of g a) y) (followed_by t z)) (sym (statement_while g e v (record { list = ks }) done))
            (match_loop g (Off used) s s e e v v (program_of g a) (statements g ks) y z (λ m n o. guards s e w u m n o) refl (λ m n o. counts s v wv uv m n o) (body ks p) h))

        mutual
          statement_once : (i : Instr) (js : List Instr) → IsStatement c fs i → AreUsed used (statement_touched i) → statement_inlined x i ≡ Some js → (a b : Program) → M s a b →
              M s (statement g i a) (followed_by (statements g js) b)
          statement_once (Assign xs e) js w u k a b h = absurd (none-some js k)
          statement_once (Sample y d) js w u k a b h = absurd (none-some js k)
          statement_once (Call' xs p n es) js w u k a b h =
              let z = used_append used (xs ++ variables_in es) [] u in
              let y = used_append used xs (variables_in es) z.0 in
              places _ xs p es js w y.1 k s a b h
          statement_once (If' e m a n b) js w u k y z h =
              let t = used_append used (variables e ++ touched_in apart a) (touched_in apart b) u in
              let v = used_append used (variables e) (touched_in apart a) t.0 in
              branched e a b js w.0.0 v.0 w.1 v.1 w.2 t.1 (λ ks q. row_once a ks w.1 v.1 q) (λ ks q. row_once b ks w.2 t.1 q) (row_inlined x a) (row_inlined x b) refl refl k y z h
          statement_once (While' e r n a) js w u k y z h =
              let t = used_append used (variables e ++ variables r) (touched_in apart a) u in
              let v = used_append used (variables e) (variables r) t.0 in
              looped e r a js w.0.0 v.0 w.1.0 v.1 (λ ks q. row_once a ks w.2 t.1 q) (row_inlined x a) refl k y z h

          row_once : {n : Count} (is : Row_of-Instr n) (js : List Instr) → AreStatements c fs is → AreUsed used (touched_in apart is) → row_inlined x is ≡ Some js → M s (program_of g is) (statements g js)
          row_once end_of-Instr js w u k = absurd (none-some js k)
          row_once (more_of-Instr i is) js w u k =
              let z = used_append used (statement_touched i) (touched_in apart is) u in
              subst (λ a. M s a (statements g js)) (sym (program_more g i is))
              (by_first (statement_inlined x i) (row_inlined x is) k (λ ks q. statement_once i ks w.0 z.0 q (program_of g is) (statements g (items-the_row-Instr _ is)) (row_items s is w.1 z.1)) refl
              (λ ks q. statement_self s i w.0 z.0 (program_of g is) (statements g ks) (row_once is ks w.1 z.1 q)) refl)
            where
              by_first : (o r : Option (List Instr)) → next_inlined i (items-the_row-Instr _ is) o r ≡ Some js →
                  ((ks : List Instr) → statement_inlined x i ≡ Some ks → M s (statement g i (program_of g is)) (followed_by (statements g ks) (statements g (items-the_row-Instr _ is)))) → statement_inlined x i ≡ o →
                  ((ks : List Instr) → row_inlined x is ≡ Some ks → M s (statement g i (program_of g is)) (statement g i (statements g ks))) → row_inlined x is ≡ r →
                  M s (statement g i (program_of g is)) (statements g js)
              by_first (Some ks) r k here p there q =
                  subst (λ ls. M s (statement g i (program_of g is)) (statements g ls)) (same_Some _ js k)
                  (subst (M s (statement g i (program_of g is))) (sym (statements_followed g ks (items-the_row-Instr _ is))) (here ks p))
              by_first None (Some ks) k here p there q = subst (λ ls. M s (statement g i (program_of g is)) (statements g ls)) (same_Some _ js k) (there ks q)
              by_first None None k here p there q = absurd (none-some js k)

        -- a body with one call replaced
        pub each_once : (is js : List Instr) → EachStatement c fs is → AreUsed used (each_touched is) → each_inlined x is ≡ Some js → M s (statements g is) (statements g js)
        each_once is js w u k =
            subst (λ a. M s a (statements g js)) (program_list g is)
            (row_once (B.hidden-the_row-Instr-1 is) js (hidden_each c fs is w) (subst (AreUsed used) (sym (touched_list is)) u) (inlined_list x is ∙ k))

      -- Loops.
      module _ (fits : IsSettingOf c g) (goods : (n : Count) (xs : List Var) (p : ProcRef) (es : Row_of-Term n) (js : List Instr) → IsCall c fs xs (procedure c p) (terms_in es) → x xs p (terms_in es) ≡ Some js → LoopsAreGood g (statements g js)) where
        good_items : {n : Count} (is : Row_of-Instr n) → LoopsAreGood g (program_of g is) → LoopsAreGood g (statements g (items-the_row-Instr _ is))
        good_items is h = subst (LoopsAreGood g) (program_items g is) h

        branch_good : {k l : Count} (e : Term) (a : Row_of-Instr k) (b : Row_of-Instr l) (js : List Instr) → LoopsAreGood g (program_of g a) → LoopsAreGood g (program_of g b) →
            ((ks : List Instr) → row_inlined x a ≡ Some ks → LoopsAreGood g (statements g ks)) → ((ks : List Instr) → row_inlined x b ≡ Some ks → LoopsAreGood g (statements g ks)) →
            (o r : Option (List Instr)) → row_inlined x a ≡ o → row_inlined x b ≡ r → side_inlined e (items-the_row-Instr _ a) (items-the_row-Instr _ b) o r ≡ Some js → LoopsAreGood g (statements g js)
        branch_good e a b js ha hb left right (Some ks) r p q k =
            subst (λ is. LoopsAreGood g (statements g is)) (same_Some _ js k)
            (subst (LoopsAreGood g) (sym (statement_if g e (record { list = ks }) (record { list = items-the_row-Instr _ b }) done)) (left ks p, good_items b hb, tt))
        branch_good e a b js ha hb left right None (Some ks) p q k =
            subst (λ is. LoopsAreGood g (statements g is)) (same_Some _ js k)
            (subst (LoopsAreGood g) (sym (statement_if g e (record { list = items-the_row-Instr _ a }) (record { list = ks }) done)) (good_items a ha, right ks q, tt))
        branch_good e a b js ha hb left right None None p q k = absurd (none-some js k)

        loop_good : {k : Count} (e v : Term) (a : Row_of-Instr k) (js : List Instr) → IsExpression c fs e → AreUsed used (variables e) → IsExpression c fs v → AreUsed used (variables v) → AreStatements c fs a → AreUsed used (touched_in apart a) → IsGood g closed e v (program_of g a) →
            ((ks : List Instr) → row_inlined x a ≡ Some ks → LoopsAreGood g (statements g ks)) → (o : Option (List Instr)) → row_inlined x a ≡ o →
            option_map (λ ks. While e v (record { list = ks }) ∷ []) o ≡ Some js → LoopsAreGood g (statements g js)
        loop_good e v a js w u wv uv wa ua h body None p k = absurd (none-some js k)
        loop_good e v a js w u wv uv wa ua h body (Some ks) p k =
            subst (λ is. LoopsAreGood g (statements g is)) (same_Some _ js k)
            (subst (LoopsAreGood g) (sym (statement_while g e v (record { list = ks }) done)) (
              good_matched g (Off used) closed closed e e v v (program_of g a) (statements g ks) (λ m n o. guards closed e w u m n o) refl (λ m n o. counts closed v wv uv m n o)
                  (row_once closed a ks wa ua p) (λ n. (n, off_itself used n)) (subject_sound c g fits fs a wa).1 h,
              body ks p,
              tt,
            ))

        statement_parts : (i : Instr) (a : Program) → LoopsAreGood g (statement g i a) → LoopsAreGood g (statement g i done) × LoopsAreGood g a
        statement_parts (Assign xs e) a h = (tt, h)
        statement_parts (Sample y d) a h = (tt, h)
        statement_parts (Call' xs p n es) a h = by_called (g.procedure p) h
          where
            by_called : (o : Option Routine) → LoopsAreGood g (called xs o (terms_in es) a) → LoopsAreGood g (called xs o (terms_in es) done) × LoopsAreGood g a
            by_called None h = (tt, h)
            by_called (Some r) h = (tt, h)
        statement_parts (If' e m y n z) a h = ((h.0, h.1, tt), h.2)
        statement_parts (While' e v n y) a h = ((h.0, h.1, tt), h.2)

        statement_made : (i : Instr) (a : Program) → LoopsAreGood g (statement g i done) → LoopsAreGood g a → LoopsAreGood g (statement g i a)
        statement_made (Assign xs e) a h k = k
        statement_made (Sample y d) a h k = k
        statement_made (Call' xs p n es) a h k = by_called (g.procedure p)
          where
            by_called : (o : Option Routine) → LoopsAreGood g (called xs o (terms_in es) a)
            by_called None = k
            by_called (Some r) = k
        statement_made (If' e m y n z) a h k = (h.0, h.1, k)
        statement_made (While' e v n y) a h k = (h.0, h.1, k)

        mutual
          statement_good : (i : Instr) (js : List Instr) → IsStatement c fs i → AreUsed used (statement_touched i) → statement_inlined x i ≡ Some js → LoopsAreGood g (statement g i done) → LoopsAreGood g (statements g js)
          statement_good (Assign xs e) js w u k h = absurd (none-some js k)
          statement_good (Sample y d) js w u k h = absurd (none-some js k)
          statement_good (Call' xs p n es) js w u k h = goods _ xs p es js w k
          statement_good (If' e m a n b) js w u k h =
              let t = used_append used (variables e ++ touched_in apart a) (touched_in apart b) u in
              let v = used_append used (variables e) (touched_in apart a) t.0 in
              branch_good e a b js h.0 h.1 (λ ks q. row_good a ks w.1 v.1 q h.0) (λ ks q. row_good b ks w.2 t.1 q h.1) (row_inlined x a) (row_inlined x b) refl refl k
          statement_good (While' e r n a) js w u k h =
              let t = used_append used (variables e ++ variables r) (touched_in apart a) u in
              let v = used_append used (variables e) (variables r) t.0 in
              loop_good e r a js w.0.0 v.0 w.1.0 v.1 w.2 t.1 h.0 (λ ks q. row_good a ks w.2 t.1 q h.1) (row_inlined x a) refl k

          row_good : {n : Count} (is : Row_of-Instr n) (js : List Instr) → AreStatements c fs is → AreUsed used (touched_in apart is) → row_inlined x is ≡ Some js → LoopsAreGood g (program_of g is) → LoopsAreGood g (statements g js)
          row_good end_of-Instr js w u k h = absurd (none-some js k)
          row_good (more_of-Instr i is) js w u k h =
              let z = used_append used (statement_touched i) (touched_in apart is) u in
              let y = statement_parts i (program_of g is) (subst (LoopsAreGood g) (program_more g i is) h) in
              by_first (statement_inlined x i) (row_inlined x is) k (λ ks q. statement_good i ks w.0 z.0 q y.0) refl (λ ks q. row_good is ks w.1 z.1 q y.1) refl y.0 y.1
            where
              by_first : (o r : Option (List Instr)) → next_inlined i (items-the_row-Instr _ is) o r ≡ Some js → ((ks : List Instr) → statement_inlined x i ≡ Some ks → LoopsAreGood g (statements g ks)) → statement_inlined x i ≡ o →
                  ((ks : List Instr) → row_inlined x is ≡ Some ks → LoopsAreGood g (statements g ks)) → row_inlined x is ≡ r → LoopsAreGood g (statement g i done) → LoopsAreGood g (program_of g is) → LoopsAreGood g (statements g js)
              by_first (Some ks) r k here p there q a b =
                  subst (λ ls. LoopsAreGood g (statements g ls)) (same_Some _ js k) ((good_append g ks (items-the_row-Instr _ is)).1 (here ks p, good_items is b))
              by_first None (Some ks) k here p there q a b = subst (λ ls. LoopsAreGood g (statements g ls)) (same_Some _ js k) (statement_made i (statements g ks) a (there ks q))
              by_first None None k here p there q a b = absurd (none-some js k)

        pub each_good : (is js : List Instr) → EachStatement c fs is → AreUsed used (each_touched is) → each_inlined x is ≡ Some js → LoopsAreGood g (statements g is) → LoopsAreGood g (statements g js)
        each_good is js w u k h =
            row_good (B.hidden-the_row-Instr-1 is) js (hidden_each c fs is w) (subst (AreUsed used) (sym (touched_list is)) u) (inlined_list x is ∙ k) (subst (LoopsAreGood g) (sym (program_list g is)) h)
