-- The law of a rule on loops is one on sequents.
use Rattle.std.proofs.Common.{◌≡◌, List, [], ◌∷◌, map, refl, sym, subst}
use Rattle.std.specs.List.{AllByRecursion}
use Rattle.gb_core.specs.declared.ty.Ty.TheVariants as ty
use Rattle.gb_terms.specs.declared.decl.TypedName.{TypedName}
use Rattle.gb_terms.specs.declared.term.Term.{out-Term}
use Rattle.gb_goal.specs.Answers.{Answer}
use Rattle.gb_goal.specs.Answers.Answer.{given, refused}
use Rattle.gb_goal.specs.Goal.{Goal, form_of, goal_of}
use Rattle.gb_goal.specs.Goal.Goal.{hoare, phoare, equiv, ambient}
use Rattle.gb_goal.specs.Rows.{Row, answered, concluding, each_concluding}
use Rattle.gb_goal.specs.declared.sequent.Sequent.{Sequent}
use Rattle.gb_meaning.specs.Judgments.{Judge, IsFair}
use Rattle.gb_meaning.specs.Setting.{Setting}
use Rattle.gb_meaning.specs.State.{State}
use Rattle.gb_meaning.specs.Written.{type_of}
use Rattle.gb_meaning.specs.Declared.{Declarations}
use Rattle.gb_meaning.specs.Holds.{Holds, InEachSetting, context, declared_modules, interpretation}
use Rattle.gb_meaning.specs.Settings.{Interpretation, setting}
use Rattle.gb_meaning.specs.Truth.{Truth}
use Rattle.gb_meaning.proofs.Fronts.{without_modules}
use Rattle.gb_typing.specs.Chosen.{IsChosenOver}
use Rattle.gb_typing.specs.Context.{Context}
use Rattle.gb_typing.specs.Fits.{IsSettingOf, IsStateOf}
use Rattle.gb_typing.specs.Goals.{IsGoalOver, IsTypedGoal}
use Rattle.gb_typing.specs.Rules.{IsSettingOver}
use Rattle.gb_typing.specs.Meaning.{Stands}
use Rattle.gb_typing.specs.Scopes.{context_of, IsTypedScope}
use Rattle.gb_typing.specs.Sequents.{of_sequent, IsTypedSequent}
use Rattle.gb_typing.proofs.Exact.{exact}
use Rattle.gb_typing.proofs.Given.{refused_at, same_given}
use Rattle.gb_typing.proofs.Lifted.{InEachSequent, Says, each, gathered, joined, said, state_fits, typed_subgoals}
use Rattle.gb_typing.proofs.Models.{each_chosen, each_setting}
use Rattle.gb_typing.proofs.Shapes.{form_goal, goal_form}
use Rattle.gb_typing.proofs.TypedGoals.{goal_front}
use Rattle.gb_prog.specs.Ends.{ImpliesWhereLoopsEnd, IsSoundOnLoops, LoopsEnd, SequentEnds}
use Rattle.gb_accepted.proofs.HeadsEnd.{bare_head, goal_ends, typed_bare}

-- in each setting something always is
each_setting_is : (ds : Declarations) (q : Sequent) → InEachSetting ds q (λ g. Unit {0})
each_setting_is ds q = λ w size table m. each ds (declared_modules ds) (interpretation w size table) _ (λ i. each ds q.modules i (λ k. Unit {0}) (λ k. tt))

-- a typed goal as a form
as_form : (g : Setting) (c : Context) (ls rs : List TypedName) (G : Goal) → IsGoalOver c ls rs G → LoopsEnd g G → LoopsEnd g (goal_of (form_of G))
as_form g c ls rs (hoare a p q) w h = subst (LoopsEnd g) (sym (form_goal (hoare a p q) tt)) h
as_form g c ls rs (phoare a r p q b) w h = subst (LoopsEnd g) (sym (form_goal (phoare a r p q b) tt)) h
as_form g c ls rs (equiv a b p q) w h = subst (LoopsEnd g) (sym (form_goal (equiv a b p q) tt)) h
as_form g c ls rs (ambient f) w h = goal_ends g f (bare_head g (out-Term f).head (typed_bare c f w.typed))

module _ (ds : Declarations) (scope : IsTypedScope ds) (q : Sequent) (t : IsTypedSequent (context_of ds) q) where
  abbrev c : Context
  c = of_sequent (context_of ds) q t.frames

  -- a setting of the goal, in which its loops end
  record IsPlace (k : Interpretation) : Type 0 where
    fits : IsSettingOf c (setting ds k)
    chosen : IsChosenOver ds k
    ends : LoopsEnd (setting ds k) (goal_of q.conclusion)

  places : SequentEnds ds q → InEachSequent ds q IsPlace
  places h =
      joined ds q (λ k. IsSettingOf c (setting ds k) × IsChosenOver ds k) (λ k. LoopsEnd (setting ds k) (goal_of q.conclusion)) IsPlace (λ k x y. record { fits = x.0; chosen = x.1; ends = y })
      (joined ds q (λ k. IsSettingOf c (setting ds k)) (IsChosenOver ds) (λ k. IsSettingOf c (setting ds k) × IsChosenOver ds k) (λ k x y. (x, y)) (each_setting ds scope q t.modules t.frames) (each_chosen ds scope q t.modules [])) h

  module _ (k : Interpretation) (z : IsPlace k) (s : State) where
    all_stand : (j : Judge) → IsFair (setting ds k) j → (Gs : List Goal) → AllByRecursion (IsTypedGoal c) Gs → AllByRecursion (λ G. Truth ds (form_of G) k s) Gs → AllByRecursion (Stands (setting ds k) j s) Gs
    all_stand j fair [] w h = tt
    all_stand j fair (G ∷ Gs) w h =
        ((exact c (setting ds k) z.fits j fair s w.0.0 w.0.1 G w.0.2).0 ((without_modules ds (form_of G) k s (goal_front c w.0.0 w.0.1 G w.0.2)).0 h.0 j fair), all_stand j fair Gs w.1 h.1)

    concluded : (ls rs : List TypedName) → IsGoalOver c ls rs (goal_of q.conclusion) → (Gs : List Goal) → AllByRecursion (IsTypedGoal c) Gs → ImpliesWhereLoopsEnd ds c Gs (goal_of q.conclusion) → IsStateOf c (setting ds k) s →
        AllByRecursion (λ G. Truth ds (form_of G) k s) Gs → Truth ds (form_of (goal_of q.conclusion)) k s
    concluded ls rs w Gs ws f fit h =
        (without_modules ds (form_of (goal_of q.conclusion)) k s (goal_front c ls rs (goal_of q.conclusion) w)).1
        (λ j fair. (exact c (setting ds k) z.fits j fair s ls rs (goal_of q.conclusion) w).1
        (f (setting ds k) z.fits (record { interpretation = k; chosen = z.chosen; meant = refl }) z.ends j fair s fit (all_stand j fair Gs ws h)))

  -- the loops of each subgoal end
  each_end : (Gs : List Goal) → AllByRecursion (IsTypedGoal c) Gs → InEachSequent ds q (λ k. AllByRecursion (LoopsEnd (setting ds k)) Gs) → AllByRecursion (SequentEnds ds) (map (concluding q) Gs)
  each_end [] w h = tt
  each_end (G ∷ Gs) w h = (
    joined ds q (λ k. AllByRecursion (LoopsEnd (setting ds k)) (G ∷ Gs)) (λ k. AllByRecursion (LoopsEnd (setting ds k)) (G ∷ Gs)) (λ k. LoopsEnd (setting ds k) (goal_of (form_of G)))
        (λ k x y. as_form (setting ds k) c w.0.0 w.0.1 G w.0.2 x.0) h h,
    each_end Gs w.1 (joined ds q (λ k. AllByRecursion (LoopsEnd (setting ds k)) (G ∷ Gs)) (λ k. AllByRecursion (LoopsEnd (setting ds k)) (G ∷ Gs)) (λ k. AllByRecursion (LoopsEnd (setting ds k)) Gs) (λ k x y. x.1) h h),
  )

  -- Where something is known of each setting of the goal, by which the loops of subgoals end where those of the goal do.
  module _ (P : Setting → Type 0) (known : InEachSetting ds q P) where
    record IsKnownPlace (k : Interpretation) : Type 0 where
      place : IsPlace k
      holds : P (setting ds k)

    known_places : SequentEnds ds q → InEachSequent ds q IsKnownPlace
    known_places h = joined ds q IsPlace (λ k. P (setting ds k)) IsKnownPlace (λ k x y. record { place = x; holds = y }) (places h) known

    abbrev Keeps : List Goal → Type 0
    Keeps Gs = (g : Setting) → IsSettingOver ds g → P g → LoopsEnd g (goal_of q.conclusion) → AllByRecursion (LoopsEnd g) Gs

    goals_end : (Gs : List Goal) → AllByRecursion (IsTypedGoal c) Gs → Keeps Gs → SequentEnds ds q → AllByRecursion (SequentEnds ds) (map (concluding q) Gs)
    goals_end Gs w f h =
        each_end Gs w
        (joined ds q IsKnownPlace IsKnownPlace (λ k. AllByRecursion (LoopsEnd (setting ds k)) Gs)
        (λ k z y. (let x = z.place in f (setting ds k) (record { interpretation = k; chosen = x.chosen; meant = refl }) z.holds x.ends)) (known_places h) (known_places h))

    pub row_ends : (row : Row) → ((Gs : List Goal) → row (goal_of q.conclusion) ≡ given Gs → AllByRecursion (IsTypedGoal c) Gs × Keeps Gs) → (qs : List Sequent) → answered row q ≡ given qs →
        SequentEnds ds q → AllByRecursion (SequentEnds ds) qs
    row_ends row law qs e h = by_answer (row (goal_of q.conclusion)) refl e
      where
        by_answer : (a : Answer (List Goal)) → row (goal_of q.conclusion) ≡ a → each_concluding q a ≡ given qs → AllByRecursion (SequentEnds ds) qs
        by_answer (given Gs) r e = let x = law Gs r in subst (AllByRecursion (SequentEnds ds)) (same_given (map (concluding q) Gs) qs e) (goals_end Gs x.0 x.1 h)
        by_answer (refused v p) r e = refused_at v p qs e

  module _ (truth : type_of q.conclusion ≡ ty.Bool) (ls rs : List TypedName) (w : IsGoalOver c ls rs (goal_of q.conclusion)) where
    subgoals_hold : (Gs : List Goal) → AllByRecursion (IsTypedGoal c) Gs → ImpliesWhereLoopsEnd ds c Gs (goal_of q.conclusion) → SequentEnds ds q → AllByRecursion (Holds ds) (map (concluding q) Gs) → Holds ds q
    subgoals_hold Gs typed implies e h =
        joined ds q IsPlace (λ k. AllByRecursion (λ G. Says ds q (form_of G) k) Gs) (λ k. Says ds q q.conclusion k)
        (λ k z says vs v ms u. subst (λ f. Truth ds f k (context vs ms)) (goal_form q.conclusion truth)
        (concluded k z (context vs ms) ls rs w Gs typed implies (state_fits ds q t.frames k vs ms v) (said ds q t.frames k vs ms Gs v u says)))
        (places e) (gathered ds q Gs h)

    abbrev Leads : List Sequent → Type 0
    Leads qs = AllByRecursion (IsTypedSequent (context_of ds)) qs × (SequentEnds ds q → AllByRecursion (SequentEnds ds) qs × (AllByRecursion (Holds ds) qs → Holds ds q))

    -- Where something is known of each setting of the goal: typed subgoals, which imply the goal where its loops end; and then theirs do.
    module _ (P : Setting → Type 0) (known : InEachSetting ds q P) where
      abbrev Law : List Goal → Type 0
      Law Gs =
          AllByRecursion (IsTypedGoal c) Gs × ImpliesWhereLoopsEnd ds c Gs (goal_of q.conclusion)
          × ((g : Setting) → IsSettingOf c g → IsSettingOver ds g → P g → LoopsEnd g (goal_of q.conclusion) → AllByRecursion (LoopsEnd g) Gs)

      subgoals_end : (Gs : List Goal) → Law Gs → SequentEnds ds q → AllByRecursion (SequentEnds ds) (map (concluding q) Gs)
      subgoals_end Gs x e =
          each_end Gs x.0
          (joined ds q (IsKnownPlace P known) (IsKnownPlace P known) (λ k. AllByRecursion (LoopsEnd (setting ds k)) Gs)
          (λ k z y. (let v = z.place in x.2 (setting ds k) v.fits (record { interpretation = k; chosen = v.chosen; meant = refl }) z.holds v.ends)) (known_places P known e) (known_places P known e))

      pub by_known_rule : (row : Row) → ((Gs : List Goal) → row (goal_of q.conclusion) ≡ given Gs → Law Gs) → (qs : List Sequent) → answered row q ≡ given qs → Leads qs
      by_known_rule row law qs e = by_answer (row (goal_of q.conclusion)) refl e
        where
          by_answer : (a : Answer (List Goal)) → row (goal_of q.conclusion) ≡ a → each_concluding q a ≡ given qs → Leads qs
          by_answer (given Gs) r e =
              let x = law Gs r in
              subst Leads (same_given (map (concluding q) Gs) qs e) (typed_subgoals ds q t Gs x.0, (λ h. (subgoals_end Gs x h, (λ i. subgoals_hold Gs x.0 x.1 h i))))
          by_answer (refused v p) r e = refused_at v p qs e

    -- the law of a rule on loops
    pub by_loop_rule : (row : Row) → ((Gs : List Goal) → row (goal_of q.conclusion) ≡ given Gs → IsSoundOnLoops ds c Gs (goal_of q.conclusion)) → (qs : List Sequent) → answered row q ≡ given qs → Leads qs
    by_loop_rule row law qs e =
        by_known_rule (λ g. Unit {0}) (each_setting_is ds q) row (λ Gs r. (let x = law Gs r in (x.typed, x.implies, λ g fits over y h. x.ends g over h))) qs e
