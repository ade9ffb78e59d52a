-- `inline` is sound, and leads to good loops where loops that are proved are good.
use Rattle.std.proofs.Common.{◌≡◌, ◌^◌, ◌&&◌, ℕ, zero, suc, Bool, true, false, not, pos, List, [], ◌∷◌, ◌++◌, Option, Some, None, refl, ◌∙◌, subst}
use Rattle.std.proofs.lemmas.Bool.{false≢true}
use Rattle.std.proofs.lemmas.Option.{none-some, same_Some}
use Rattle.std.specs.List.{AllByRecursion}
use Rattle.std.specs.Option.{option_map}
use Rattle.gb_core.specs.declared.refusal.Why.TheVariants.{Shape}
use Rattle.gb_core.specs.declared.ty.Ty.{Ty}
use Rattle.gb_core.specs.declared.var.Var.{Var}
use Rattle.gb_core.specs.declared.var.Var.TheVariants as var
use Rattle.gb_dist.specs.Coupling.{Coupling}
use Rattle.gb_dist.specs.WeightedList.{WeightedList, Every}
use Rattle.gb_dist.proofs.Basic.{coupling_symmetry}
use Rattle.gb_terms.specs.declared.op.Rel.{Rel}
use Rattle.gb_terms.specs.declared.decl.TypedName.{TypedName}
use Rattle.gb_terms.specs.declared.op.Side.{Side}
use Rattle.gb_terms.specs.declared.op.Side.TheVariants as side
use Rattle.gb_terms.specs.declared.term.Instr.{Instr}
use Rattle.gb_terms.specs.declared.term.Term.{Term}
use Rattle.gb_walk.specs.Clash.{variables_read}
use Rattle.gb_goal.specs.Answers.{◌>>=◌}
use Rattle.gb_goal.specs.Answers.Answer.{given}
use Rattle.gb_goal.specs.Goal.{Goal}
use Rattle.gb_goal.specs.Goal.Code.{body, procedure as of_procedure}
use Rattle.gb_goal.specs.Goal.Goal.{hoare, phoare, equiv, ambient}
use Rattle.gb_goal.specs.Scope.{Declarations}
use Rattle.gb_goal.specs.declared.sequent.Sequent.{Sequent}
use Rattle.gb_meaning.specs.Declared.{declared}
use Rattle.gb_meaning.proofs.Runs.{run_entries, run_positive}
use Rattle.gb_laws.proofs.Zips.{Zip, zip_weight}
use Rattle.gb_meaning.specs.Commands.{statements}
use Rattle.gb_meaning.specs.Judgments.{Judge, IsFair, IsTrueUnder, compares, den, speaking}
use Rattle.gb_meaning.specs.Meanings.{fraction_in}
use Rattle.gb_meaning.specs.Memory.{Memory, read}
use Rattle.gb_meaning.specs.Setting.{Setting}
use Rattle.gb_meaning.specs.State.{State, at, between}
use Rattle.gb_meaning.specs.Terms.{val}
use Rattle.gb_mods.specs.Touched.{each_touched}
use Rattle.gb_steps.specs.declared.step.Acts.{Acts}
use Rattle.gb_steps.specs.declared.step.Acts.TheVariants as on
use Rattle.gb_steps.specs.declared.step.Calls.{Calls}
use Rattle.gb_typing.specs.Context.{Context, reframed, with_own, with_sides}
use Rattle.gb_typing.specs.Fits.{IsSettingOf, IsStateOf}
use Rattle.gb_typing.specs.Goals.{IsTypedGoal}
use Rattle.gb_typing.specs.Meaning.{Stands, denominator, run}
use Rattle.gb_typing.specs.Programs.{IsBody}
use Rattle.gb_typing.specs.Rules.{IsSettingOver, outermost}
use Rattle.gb_typing.specs.Scopes.{context_of, IsTypedScope}
use Rattle.gb_typing.specs.Sequents.{of_sequent, IsTypedSequent}
use Rattle.gb_typing.specs.Typing.{IsForm, IsIn}
use Rattle.gb_typing.proofs.Drawing.{body_sound}
use Rattle.gb_typing.proofs.Fitting.{fits_reframed}
use Rattle.gb_typing.proofs.Given.{refused_given, same_given}
use Rattle.gb_typing.proofs.Narrowed.{own_typed}
use Rattle.gb_typing.proofs.Spared.{spared_variables, spared_within}
use Rattle.gb_prog.specs.Ends.{LoopsEnd}
use Rattle.gb_prog.proofs.Couplings.{runs_gluing}
use Rattle.gb_prog.proofs.Own.{Good}
use Rattle.gb_call.proofs.After.{same_form as same_own}
use Rattle.gb_call_both.proofs.NarrowedSides.{sides_typed}
use Rattle.gb_call_both.proofs.Sided.{same_form as same_sides}
use Rattle.gb_inline.specs.Expanded.{expanded}
use Rattle.gb_inline.specs.Fresh.{is_taken}
use Rattle.gb_inline.specs.Inlined.{Expansion, asked, both_inlined, going_on, inline_row, inlined, once, or_none, repeated, used, without_calls}
use Rattle.gb_inline.specs.Proved.{IsSoundOnProved, IsSoundProvedRule, ProvedEnd}
use Rattle.gb_inline.proofs.Matched.{Matches}
use Rattle.gb_inline.proofs.Off.{AreUsed, Off, all_used, is_unused, not_false, off_itself, off_read, used_append}
use Rattle.gb_inline.proofs.OnceRuns as runs
use Rattle.gb_inline.proofs.OnceTyped.{AreOver, each_over}
use Rattle.gb_inline.proofs.Placing.{expanded_is, place_good, place_runs, place_typed}
use Rattle.gb_inline.proofs.Zipped.{zip_coupled}

-- what is so of all related entries, from the second list to the first
zip_back : (R : Memory → Memory → Type 0) (P Q : Memory → Type 0) → ((a b : Memory) → R a b → Q b → P a) → (l r : WeightedList Memory) → Zip R l r → Every Q r → Every P l
zip_back R P Q h [] [] z x = tt
zip_back R P Q h [] (f ∷ r) z x = absurd z
zip_back R P Q h (e ∷ l) [] z x = absurd z
zip_back R P Q h (e ∷ l) (f ∷ r) z x = (h e.0 f.0 z.1 x.0, zip_back R P Q h l r z.2 x.1)

none_false : (xs : List Var) → AllByRecursion (λ (y : Var). false ≡ false) xs
none_false [] = tt
none_false (x ∷ xs) = (refl, none_false xs)

unused_of : (b : Bool) → not (true && b) ≡ true → b ≡ false
unused_of true e = absurd (false≢true e)
unused_of false e = refl

module _ (ds : Declarations) (scoped : IsTypedScope (declared ds)) (q : Sequent) (t : IsTypedSequent (context_of (declared ds)) q) where
  abbrev c : Context
  c = of_sequent (context_of (declared ds)) q t.frames

  -- A goal leads to another one: this is typed, implies the goal, and its loops are good.
  record Leads (G H : Goal) : Type 0 where
    typed : IsTypedGoal c H
    implies : (g : Setting) → IsSettingOf c g → IsSettingOver (declared ds) g → (j : Judge) → IsFair g j → (s : State) → IsStateOf c g s → Stands g j s H → Stands g j s G
    ends : (g : Setting) → IsSettingOf c g → IsSettingOver (declared ds) g → ProvedEnd ds g → LoopsEnd g G → LoopsEnd g H

  leads_itself : (G : Goal) → IsTypedGoal c G → Leads G G
  leads_itself G w = record { typed = w; implies = λ g fits over j fair s fit x. x; ends = λ g fits over proved h. h }

  leads_then : (G H K : Goal) → Leads G H → Leads H K → Leads G K
  leads_then G H K a b = record {
    typed = b.typed;
    implies = λ g fits over j fair s fit x. a.implies g fits over j fair s fit (b.implies g fits over j fair s fit x);
    ends = λ g fits over proved h. b.ends g fits over proved (a.ends g fits over proved h);
  }

  -- a goal for each body
  module _ (F : List Instr → Goal) (f : List Instr → Option (List Instr)) (step : (is js : List Instr) → f is ≡ Some js → IsTypedGoal c (F is) → Leads (F is) (F js)) where
    again : (n : ℕ) (is : List Instr) → IsTypedGoal c (F is) → Leads (F is) (F (repeated n f is))
    unfolding repeated
    again zero is w = leads_itself (F is) w
    again (suc n) is w = by_step (f is) refl (again n)
      where
        by_step : (o : Option (List Instr)) → f is ≡ o → ((js : List Instr) → IsTypedGoal c (F js) → Leads (F js) (F (repeated n f js))) → Leads (F is) (F (going_on (repeated n f) is o))
        by_step None e go = leads_itself (F is) w
        by_step (Some js) e go = let k = step is js e w in leads_then (F is) (F js) (F (repeated n f js)) k (go js k.typed)

    all_lead : (is ks : List Instr) → option_map (λ js. without_calls f js) (f is) ≡ Some ks → IsTypedGoal c (F is) → Leads (F is) (F ks)
    all_lead is ks e w = by_step (f is) refl e
      where
        by_step : (o : Option (List Instr)) → f is ≡ o → option_map (λ js. without_calls f js) o ≡ Some ks → Leads (F is) (F ks)
        by_step None k e = absurd (none-some ks e)
        by_step (Some js) k e =
            let z = step is js k w in
            subst (λ ls. Leads (F is) (F ls)) (same_Some _ ks e) (leads_then (F is) (F js) (F (without_calls f js)) z (again (2 ^ 32) js z.typed))

  module _ (w : Calls) where
    -- One call of a body is inlined that stands in a memory with these conditions.
    module _ (r : Side) (pre post : Term) (is js : List Instr) (e : once ds w r pre post is ≡ Some js) (fs : List TypedName) (b : IsBody c fs is) where
      abbrev pub U : List Var
      U = used r pre post is

      abbrev x : Expansion
      x xs f es = expanded U (asked ds w f) xs es

      pub all : AreUsed U (each_touched is) × AreUsed U (variables_read r pre) × AreUsed U (variables_read r post)
      all =
          let z = used_append U (each_touched is) (variables_read r pre ++ variables_read r post) (all_used U) in
          let y = used_append U (variables_read r pre) (variables_read r post) z.1 in
          (z.0, y.0, y.1)

      pub over : AreOver c U fs js
      over = each_over c U fs x (λ n xs p es ks call u v k. place_typed ds scoped q t U fs p xs es ks call u v (expanded_is ds w U p xs _ ks k)) is js b.statements all.0 e

      abbrev pub hs : List TypedName
      hs = over.locals

      pub over_body : IsBody c hs js
      over_body = record { locals = (let f = over.frame in f.types) b.locals; statements = over.each }

      moves : (d : Context) (y : Var) (u : Ty) → is_unused U y ≡ false → IsIn d (Some fs) y u → IsIn d (Some hs) y u
      moves d (var.Local y) u n k = (let f = over.frame in f.same y (not_false (is_taken U y) n)) ∙ k
      moves d (var.Global a y) u n k = k
      moves d (var.Glob a) u n k = k

      pub matched : (g : Setting) → IsSettingOver (declared ds) g → (s : State) → Matches g (Off U) s s (statements g is) (statements g js)
      matched g over_ds s =
          runs.each_once c g U fs x (λ n xs p es ks call v k. place_runs ds scoped q t U fs g over_ds x p xs es ks call v (expanded_is ds w U p xs _ ks k)) s is js b.statements all.0 e

      good : (g : Setting) → IsSettingOf c g → IsSettingOver (declared ds) g → ProvedEnd ds g → Good g is → Good g js
      good g fits over_ds proved h =
          runs.each_good c g U fs x (λ n xs p es ks call v k. place_runs ds scoped q t U fs g over_ds x p xs es ks call v (expanded_is ds w U p xs _ ks k)) fits
          (λ n xs p es ks call k. place_good ds scoped q t U fs g over_ds fits proved p xs _ ks (expanded_is ds w U p xs _ ks k)) is js b.statements all.0 e h

      pub zipped : (g : Setting) → IsSettingOver (declared ds) g → (s : State) (m : Memory) → Zip (Off U) (run g s is m) (run g s js m)
      zipped g over_ds s m = (matched g over_ds s).ends m m (off_itself U m)

      read_same : (g : Setting) (m n : Memory) → Off U m n → (y : Var) (u : Ty) → not (true && is_unused U y) ≡ true → read g.types m y u ≡ read g.types n y u
      read_same g m n o y u k = off_read U g c fs m n o y u (unused_of (is_unused U y) k)

      -- what a judgment on one program says
      own_form : r ≡ side.Own → (f : Term) → AreUsed U (variables_read r f) → IsForm (with_own c (Some fs)) f → IsForm (with_own c (Some hs)) f
      own_form z f u k = record {
        typed = own_typed (Some fs) (Some hs) (is_unused U) moves (λ i. tt) f c (subst (λ r. AreUsed U (variables_read r f)) z u) k.typed;
        truth = k.truth;
      }

      own_said : r ≡ side.Own → (f : Term) → AreUsed U (variables_read r f) → IsForm (with_own c (Some fs)) f → (g : Setting) → IsSettingOf c g → (j : Judge) → IsFair g j → (s : State) (m n : Memory) → Off U m n →
          den g j f (at s m) ≡ den g j f (at s n)
      own_said z f u k g fits j fair s m n o =
          same_own (with_own c (Some fs)) g (fits_reframed c g fits (Some fs) c.left c.right) j fair (spared_variables side.Own tt (is_unused U)) s m n (λ y v i p. read_same g m n o y v p) f k
          (spared_within side.Own tt (is_unused U) (with_own c (Some fs)) f k.typed (subst (λ r. AreUsed U (variables_read r f)) z u))

      -- what one on two says, of the left program or the right one
      left_form : r ≡ side.Left → (gs : List TypedName) (f : Term) → AreUsed U (variables_read r f) → IsForm (with_sides c (Some fs) (Some gs)) f → IsForm (with_sides c (Some hs) (Some gs)) f
      left_form z gs f u k = record {
        typed = sides_typed (Some fs) (Some gs) (Some hs) (Some gs) (is_unused U) (λ y. false) moves (λ d y v n i. i) (λ i. tt) (λ i. tt) f c (subst (λ r. AreUsed U (variables_read r f)) z u) (none_false (variables_read side.Right f)) k.typed;
        truth = k.truth;
      }

      right_form : r ≡ side.Right → (gs : List TypedName) (f : Term) → AreUsed U (variables_read r f) → IsForm (with_sides c (Some gs) (Some fs)) f → IsForm (with_sides c (Some gs) (Some hs)) f
      right_form z gs f u k = record {
        typed = sides_typed (Some gs) (Some fs) (Some gs) (Some hs) (λ y. false) (is_unused U) (λ d y v n i. i) moves (λ i. tt) (λ i. tt) f c (none_false (variables_read side.Left f)) (subst (λ r. AreUsed U (variables_read r f)) z u) k.typed;
        truth = k.truth;
      }

      module _ (outer : c ≡ outermost c) (g : Setting) (fits : IsSettingOf c g) (j : Judge) (fair : IsFair g j) (s : State) (m n o : Memory) (near : Off U m n) where
        outer_fits : IsSettingOf (outermost c) g
        outer_fits = subst (λ d. IsSettingOf d g) outer fits

        left_said : r ≡ side.Left → (gs : List TypedName) (f : Term) → AreUsed U (variables_read r f) → IsForm (with_sides c (Some fs) (Some gs)) f → den g j f (between s m o) ≡ den g j f (between s n o)
        left_said z gs f u k =
            let h : IsForm (reframed (outermost c) None (Some fs) (Some gs)) f = subst (λ d. IsForm (with_sides d (Some fs) (Some gs)) f) outer k in
            same_sides c (Some fs) (Some gs) g outer_fits j fair (spared_variables side.Left tt (is_unused U)) s m o n o (λ y v i p. read_same g m n near y v p) (λ y v i p. refl) f h
            (spared_within side.Left tt (is_unused U) (reframed (outermost c) None (Some fs) (Some gs)) f h.typed (subst (λ r. AreUsed U (variables_read r f)) z u))

        right_said : r ≡ side.Right → (gs : List TypedName) (f : Term) → AreUsed U (variables_read r f) → IsForm (with_sides c (Some gs) (Some fs)) f → den g j f (between s o m) ≡ den g j f (between s o n)
        right_said z gs f u k =
            let h : IsForm (reframed (outermost c) None (Some gs) (Some fs)) f = subst (λ d. IsForm (with_sides d (Some gs) (Some fs)) f) outer k in
            same_sides c (Some gs) (Some fs) g outer_fits j fair (spared_variables side.Right tt (is_unused U)) s o m o n (λ y v i p. refl) (λ y v i p. read_same g m n near y v p) f h
            (spared_within side.Right tt (is_unused U) (reframed (outermost c) None (Some gs) (Some fs)) f h.typed (subst (λ r. AreUsed U (variables_read r f)) z u))

    one_hoare : (pre post : Term) (is js : List Instr) → once ds w side.Own pre post is ≡ Some js → IsTypedGoal c (hoare (body is) pre post) → Leads (hoare (body is) pre post) (hoare (body js) pre post)
    one_hoare pre post is js e k =
        let fs = k.0 in
        let v = k.2 in
        let u = all side.Own pre post is js e fs v.0 in
        record {
          typed = (
            hs side.Own pre post is js e fs v.0,
            k.1,
            (over_body side.Own pre post is js e fs v.0, own_form side.Own pre post is js e fs v.0 refl pre u.1 v.1, own_form side.Own pre post is js e fs v.0 refl post u.2 v.2),
          );
          implies = λ g fits over_ds j fair s fit h m y.
              zip_back (Off (used side.Own pre post is)) (λ n. IsTrueUnder g j post (at s n)) (λ n. IsTrueUnder g j post (at s n))
              (λ a b o i. own_said side.Own pre post is js e fs v.0 refl post u.2 v.2 g fits j fair s a b o ∙ i) (run g s is m) (run g s js m) (zipped side.Own pre post is js e fs v.0 g over_ds s m) (h m y);
          ends = λ g fits over_ds proved h. good side.Own pre post is js e fs v.0 g fits over_ds proved h;
        }

    one_phoare : (o : Rel) (bound pre post : Term) (is js : List Instr) → once ds w side.Own pre post is ≡ Some js → IsTypedGoal c (phoare (body is) o pre post bound) →
        Leads (phoare (body is) o pre post bound) (phoare (body js) o pre post bound)
    one_phoare o bound pre post is js e k =
        let fs = k.0 in
        let v = k.2 in
        let u = all side.Own pre post is js e fs v.0 in
        record {
          typed = (
            hs side.Own pre post is js e fs v.0,
            k.1,
            (over_body side.Own pre post is js e fs v.0, own_form side.Own pre post is js e fs v.0 refl pre u.1 v.1, own_form side.Own pre post is js e fs v.0 refl post u.2 v.2, v.3, v.4),
          );
          implies = λ g fits over_ds j fair s fit h m y.
              (let weights = zip_weight (Off (used side.Own pre post is)) (run g s is m) (run g s js m) (λ n. den g j post (at s n)) (λ n. den g j post (at s n)) (zipped side.Own pre post is js e fs v.0 g over_ds s m)
              (λ a b o. own_said side.Own pre post is js e fs v.0 refl post u.2 v.2 g fits j fair s a b o) in
              λ i. compares o (pos (weights i), (matched side.Own pre post is js e fs v.0 g over_ds s).scales i) (fraction_in (val g (speaking g j) bound s))) ∙ h m y;
          ends = λ g fits over_ds proved h. good side.Own pre post is js e fs v.0 g fits over_ds proved h;
        }

    module _ (outer : c ≡ outermost c) where
      one_left : (right : List Instr) (pre post : Term) (is js : List Instr) → once ds w side.Left pre post is ≡ Some js → IsTypedGoal c (equiv (body is) (body right) pre post) →
          Leads (equiv (body is) (body right) pre post) (equiv (body js) (body right) pre post)
      one_left right pre post is js e k =
          let fs = k.0 in
          let gs = k.1 in
          let v = k.2 in
          let u = all side.Left pre post is js e fs v.1 in
          record {
            typed = (
              hs side.Left pre post is js e fs v.1,
              gs,
              (tt, over_body side.Left pre post is js e fs v.1, v.2, left_form side.Left pre post is js e fs v.1 refl gs pre u.1 v.3, left_form side.Left pre post is js e fs v.1 refl gs post u.2 v.4),
            );
            implies = λ g fits over_ds j fair s fit h m n y.
                (let sound = body_sound c g fits fs is v.1.statements in
                let sound_js = body_sound c g fits (hs side.Left pre post is js e fs v.1) js (over_body side.Left pre post is js e fs v.1).statements in
                let scales = (matched side.Left pre post is js e fs v.1 g over_ds s).scales in
                runs_gluing g s (statements g is) (statements g js) (statements g right) sound_js (Off (used side.Left pre post is)) (λ a b. IsTrueUnder g j post (between s a b)) (λ a b. IsTrueUnder g j post (between s a b))
                (λ a b d o i. left_said side.Left pre post is js e fs v.1 outer g fits j fair s a b d o refl gs post u.2 v.4 ∙ i) m m n
                (subst (λ d. Coupling (Off (used side.Left pre post is)) (run g s is m) (denominator g is) (run g s js m) d) scales
                (zip_coupled (Off (used side.Left pre post is)) (run g s is m) (run g s js m) (denominator g is) (run_positive g (statements g is) sound) (run_entries g s (statements g is) sound m) (zipped side.Left pre post is js e fs v.1 g over_ds s m)))
                (h m n y));
            ends = λ g fits over_ds proved h. (good side.Left pre post is js e fs v.1 g fits over_ds proved h.0, h.1);
          }

      one_right : (left : List Instr) (pre post : Term) (is js : List Instr) → once ds w side.Right pre post is ≡ Some js → IsTypedGoal c (equiv (body left) (body is) pre post) →
          Leads (equiv (body left) (body is) pre post) (equiv (body left) (body js) pre post)
      one_right left pre post is js e k =
          let fs = k.1 in
          let gs = k.0 in
          let v = k.2 in
          let u = all side.Right pre post is js e fs v.2 in
          record {
            typed = (
              gs,
              hs side.Right pre post is js e fs v.2,
              (tt, v.1, over_body side.Right pre post is js e fs v.2, right_form side.Right pre post is js e fs v.2 refl gs pre u.1 v.3, right_form side.Right pre post is js e fs v.2 refl gs post u.2 v.4),
            );
            implies = λ g fits over_ds j fair s fit h m n y.
                (let sound = body_sound c g fits fs is v.2.statements in
                let sound_js = body_sound c g fits (hs side.Right pre post is js e fs v.2) js (over_body side.Right pre post is js e fs v.2).statements in
                let scales = (matched side.Right pre post is js e fs v.2 g over_ds s).scales in
                let U = used side.Right pre post is in
                runs_gluing g s (statements g left) (statements g js) (statements g is) sound_js (λ a b. IsTrueUnder g j post (between s a b)) (λ b a. Off U a b) (λ a b. IsTrueUnder g j post (between s a b))
                (λ a b d i o. right_said side.Right pre post is js e fs v.2 outer g fits j fair s d b a o refl gs post u.2 v.4 ∙ i) m n n
                (h m n y)
                (coupling_symmetry {Q = Off U} {l1 = run g s is n} {k1 = denominator g is} {l2 = run g s js n} {k2 = denominator g js}
                (subst (λ d. Coupling (Off U) (run g s is n) (denominator g is) (run g s js n) d) scales
                (zip_coupled (Off U) (run g s is n) (run g s js n) (denominator g is) (run_positive g (statements g is) sound) (run_entries g s (statements g is) sound n) (zipped side.Right pre post is js e fs v.2 g over_ds s n)))));
            ends = λ g fits over_ds proved h. (h.0, good side.Right pre post is js e fs v.2 g fits over_ds proved h.1);
          }

    -- What the row gives.

    from_leads : (G H : Goal) → Leads G H → IsSoundOnProved ds c (H ∷ []) G
    from_leads G H k = record {
      typed = (k.typed, tt);
      implies = λ g fits over_ds ends j fair s fit x. k.implies g fits over_ds j fair s fit x.0;
      ends = λ g fits over_ds proved h. (k.ends g fits over_ds proved h, tt);
    }

    given_one : (G : Goal) (F : List Instr → Goal) (o : Option (List Instr)) → ((ks : List Instr) → o ≡ Some ks → Leads G (F ks)) → (Gs : List Goal) → (or_none o >>= λ is. given (F is ∷ [])) ≡ given Gs → IsSoundOnProved ds c Gs G
    given_one G F None lead Gs e = refused_given Shape Gs e
    given_one G F (Some ks) lead Gs e = subst (λ Gs. IsSoundOnProved ds c Gs G) (same_given (F ks ∷ []) Gs e) (from_leads G (F ks) (lead ks refl))

    given_both : (outer : c ≡ outermost c) (p r : Term) (is js : List Instr) → IsTypedGoal c (equiv (body is) (body js) p r) → (a b : Option (List Instr)) → inlined ds w side.Left p r is ≡ a → inlined ds w side.Right p r js ≡ b →
        (Gs : List Goal) → both_inlined p r is js a b ≡ given Gs → IsSoundOnProved ds c Gs (equiv (body is) (body js) p r)
    given_both outer p r is js k None None d h Gs e = refused_given Shape Gs e
    given_both outer p r is js k (Some a) None d h Gs e =
        subst (λ Gs. IsSoundOnProved ds c Gs (equiv (body is) (body js) p r)) (same_given _ Gs e)
        (from_leads _ _ (all_lead (λ is. equiv (body is) (body js) p r) (once ds w side.Left p r) (one_left outer js p r) is a d k))
    given_both outer p r is js k None (Some b) d h Gs e =
        subst (λ Gs. IsSoundOnProved ds c Gs (equiv (body is) (body js) p r)) (same_given _ Gs e)
        (from_leads _ _ (all_lead (λ js. equiv (body is) (body js) p r) (once ds w side.Right p r) (one_right outer is p r) js b h k))
    given_both outer p r is js k (Some a) (Some b) d h Gs e =
        let x = all_lead (λ is. equiv (body is) (body js) p r) (once ds w side.Left p r) (one_left outer js p r) is a d k in
        subst (λ Gs. IsSoundOnProved ds c Gs (equiv (body is) (body js) p r)) (same_given _ Gs e)
        (from_leads _ _ (leads_then (equiv (body is) (body js) p r) (equiv (body a) (body js) p r) (equiv (body a) (body b) p r) x
        (all_lead (λ js. equiv (body a) (body js) p r) (once ds w side.Right p r) (one_right outer a p r) js b h x.typed)))

    pub sound : (a : Acts) → IsSoundProvedRule ds c (inline_row ds w a)
    sound on.All outer ls rs (hoare (body is) p r) k Gs e =
        given_one (hoare (body is) p r) (λ ks. hoare (body ks) p r) (inlined ds w side.Own p r is) (λ ks z. all_lead (λ is. hoare (body is) p r) (once ds w side.Own p r) (one_hoare p r) is ks z (ls, rs, k)) Gs e
    sound on.All outer ls rs (phoare (body is) o p r d) k Gs e =
        given_one (phoare (body is) o p r d) (λ ks. phoare (body ks) o p r d) (inlined ds w side.Own p r is)
        (λ ks z. all_lead (λ is. phoare (body is) o p r d) (once ds w side.Own p r) (one_phoare o d p r) is ks z (ls, rs, k)) Gs e
    sound on.All outer ls rs (equiv (body is) (body js) p r) k Gs e =
        given_both outer p r is js (ls, rs, k) (inlined ds w side.Left p r is) (inlined ds w side.Right p r js) refl refl Gs e
    sound on.Left outer ls rs (equiv (body is) (body js) p r) k Gs e =
        given_one (equiv (body is) (body js) p r) (λ ks. equiv (body ks) (body js) p r) (inlined ds w side.Left p r is)
        (λ ks z. all_lead (λ is. equiv (body is) (body js) p r) (once ds w side.Left p r) (one_left outer js p r) is ks z (ls, rs, k)) Gs e
    sound on.Right outer ls rs (equiv (body is) (body js) p r) k Gs e =
        given_one (equiv (body is) (body js) p r) (λ ks. equiv (body is) (body ks) p r) (inlined ds w side.Right p r js)
        (λ ks z. all_lead (λ js. equiv (body is) (body js) p r) (once ds w side.Right p r) (one_right outer is p r) js ks z (ls, rs, k)) Gs e
    sound on.All outer ls rs (hoare (of_procedure f) p r) k Gs e = refused_given Shape Gs e
    sound on.Left outer ls rs (hoare a p r) k Gs e = refused_given Shape Gs e
    sound on.Right outer ls rs (hoare a p r) k Gs e = refused_given Shape Gs e
    sound on.All outer ls rs (phoare (of_procedure f) o p r d) k Gs e = refused_given Shape Gs e
    sound on.Left outer ls rs (phoare a o p r d) k Gs e = refused_given Shape Gs e
    sound on.Right outer ls rs (phoare a o p r d) k Gs e = refused_given Shape Gs e
    sound on.All outer ls rs (equiv (of_procedure f) b p r) k Gs e = refused_given Shape Gs e
    sound on.Left outer ls rs (equiv (of_procedure f) b p r) k Gs e = refused_given Shape Gs e
    sound on.Right outer ls rs (equiv (of_procedure f) b p r) k Gs e = refused_given Shape Gs e
    sound on.All outer ls rs (equiv (body is) (of_procedure f) p r) k Gs e = refused_given Shape Gs e
    sound on.Left outer ls rs (equiv (body is) (of_procedure f) p r) k Gs e = refused_given Shape Gs e
    sound on.Right outer ls rs (equiv (body is) (of_procedure f) p r) k Gs e = refused_given Shape Gs e
    sound on.All outer ls rs (ambient f) k Gs e = refused_given Shape Gs e
    sound on.Left outer ls rs (ambient f) k Gs e = refused_given Shape Gs e
    sound on.Right outer ls rs (ambient f) k Gs e = refused_given Shape Gs e
