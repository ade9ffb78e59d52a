-- `call` on two bodies and on one of them, and by a judgment that is known, keeps names.
use Rattle.std.proofs.Common.{◌≡◌, inl, inr, ℕ, Bool, true, false, ◌||◌, if◌then◌else◌, List, [], ◌∷◌, ◌++◌, length, Option, Some, None, refl, sym, subst}
use Rattle.std.specs.List.{AllByRecursion}
use Rattle.gb_core.specs.declared.place.Place.{Place}
use Rattle.gb_core.specs.declared.refusal.Why.TheVariants.{Shape}
use Rattle.gb_terms.specs.declared.op.Rel.TheVariants.{AtLeast}
use Rattle.gb_terms.specs.declared.op.Side.{Side}
use Rattle.gb_terms.specs.declared.op.Side.TheVariants.{Left, Right}
use Rattle.gb_terms.specs.declared.term.Term.{Term}
use Rattle.gb_terms.specs.declared.term.Head.TheVariants as head
use Rattle.gb_steps.specs.declared.step.Acts.{Acts}
use Rattle.gb_steps.specs.declared.step.Acts.TheVariants as on
use Rattle.gb_steps.specs.declared.step.Contract.{Contract}
use Rattle.gb_goal.specs.Answers.{Answer, placed_at}
use Rattle.gb_goal.specs.Answers.Answer.{given, refused}
use Rattle.gb_goal.specs.Goal.{Goal, goal_of}
use Rattle.gb_goal.specs.Goal.Code.{body, procedure}
use Rattle.gb_goal.specs.Goal.Goal.{hoare, phoare, equiv, ambient}
use Rattle.gb_goal.specs.Rows.{Row, refusing, answered}
use Rattle.gb_goal.specs.Scope.{Declarations}
use Rattle.gb_mods.specs.Exclusions.{exclusions}
use Rattle.gb_goal.specs.declared.sequent.Sequent.{Sequent}
use Rattle.gb_typing.proofs.Given.{refused_at, refused_given, same_given}
use Rattle.gb_prog.specs.AllValues.{in_memory, to_bound_values}
use Rattle.gb_prog.specs.Writes.{TypedVariable}
use Rattle.gb_prog.specs.Assigned.{taken}
use Rattle.gb_prog.specs.OneBody.{OneBody}
use Rattle.gb_full.specs.Loss.{Loss}
use Rattle.gb_full.specs.Lossless.{full}
use Rattle.gb_call.specs.Call.{Callee, outcome, left_of, callee_of}
use Rattle.gb_call.specs.LastCall.{last_call}
use Rattle.gb_call.specs.Outcomes.{put_for, Outcome, reads_result, clash_after}
use Rattle.gb_call.specs.Written.{with_types}
use Rattle.gb_call_both.specs.BothOutcomes.{of_both_arguments, result_of, globals_of, bound_of_both, left_side_of, left_sides, of_both_returns, after_both_where, after_both}
use Rattle.gb_call_both.specs.Call.{before_both, both_goals, by_both_globals, clash_after_both, of_callees, on_programs, call_row}
use Rattle.gb_call_both.specs.OneSide.{speaks, on_side, unless_speaking, judged, lost, side_goals, by_side_globals, where_full, of_side_callee, of_body, on_one_side}
use Rattle.gb_call_both.specs.Known as known
use Rattle.gb_call_both.specs.Known.{contract, by_chances, by_conditions, behind, behind_first}
use Rattle.gb_print_names.specs.declared.bound_names.Enumeration.{Enumeration}
use Rattle.gb_shown.specs.Named.{IsNamed, IsNamedGoal, IsNamedSequent}
use Rattle.gb_shown.specs.Rules.{AreNamedProcedures, AreNamedGlobals, IsNamedContract, IsNamedIfAny, KeepsNames}
use Rattle.gb_shown.proofs.SpeltTrees.{node_named}
use Rattle.gb_shown.proofs.Changed.{PutNamed, changed_named}
use Rattle.gb_shown.proofs.SpeltForms.{as_result, and_named, implies_named, located_named, taken_named, puts_append, put_named}
use Rattle.gb_shown.proofs.Programs.{AllOf, Around, by_one, given_bind}
use Rattle.gb_shown.proofs.Rows.{goal_named, sequents_keep}
use Rattle.gb_shown.proofs.AllValues.{AreOfTypes, HaveTypes, have_append, have_in, for_all_named, bound_values_named}
use Rattle.gb_shown.proofs.SpeltCalls as calls
use Rattle.gb_shown.proofs.SpeltCalls.{NamedCallee, NamedOutcome, few_keeps, types_named, puts_for, outcome_named, last_callee}
use Rattle.gb_shown.proofs.Loops.{unless_keeps}

-- what is given where nothing loses weight
full_keeps : (l : Loss) (a : Answer (List Goal)) (Gs : List Goal) → where_full l a ≡ given Gs → a ≡ given Gs
full_keeps l a Gs e = let k = given_bind (full l) (λ _. a) Gs e in k.2

speaking_keeps : (s : Contract) (a : Answer (List Goal)) (Gs : List Goal) → unless_speaking s a ≡ given Gs → a ≡ given Gs
speaking_keeps s a Gs e = step (speaks s.pre || speaks s.post) e
  where
    step : (b : Bool) → (if b then refusing Shape else a) ≡ given Gs → a ≡ given Gs
    step true e = refused_given Shape Gs e
    step false e = e

module _ (es : List Enumeration) where
  -- What is said before both calls.

  pub result_have : (b : Bool) (o : Outcome) → NamedOutcome es o → HaveTypes (result_of b o)
  result_have true o m = (m.result, tt)
  result_have false o m = tt

  pub globals_have : (o p : Outcome) → NamedOutcome es o → NamedOutcome es p → HaveTypes (globals_of o p)
  globals_have o p m n = have_append (in_memory o.side o.globals) (in_memory p.side p.globals) (have_in o.side o.globals m.globals) (have_in p.side p.globals n.globals)

  both_have : (b d : Bool) (o p : Outcome) → NamedOutcome es o → NamedOutcome es p → HaveTypes (bound_of_both b d o p)
  both_have b d o p m n = have_append (result_of b o) _ (result_have b o m) (have_append (result_of d p) (globals_of o p) (result_have d p n) (globals_have o p m n))

  pub left_named : (b : Bool) (o : Outcome) (k : ℕ) → NamedOutcome es o → PutNamed es (left_side_of b o k)
  left_named true o k m =
      put_named es o.side o.targets (taken o.targets _) (taken_named es o.targets _ (node_named es (head.Bound k) [] o.result m.result (as_result o.result m.result) tt))
  left_named false o k m = tt

  lefts_named : (b d : Bool) (o p : Outcome) → NamedOutcome es o → NamedOutcome es p → PutNamed es (left_sides b d o p)
  lefts_named b d o p m n = puts_append es (left_side_of b o (length (result_of d p ++ globals_of o p))) (left_side_of d p (length (globals_of o p))) (left_named b o _ m) (left_named d p _ n)

  returns_named : (b d : Bool) (o p : Outcome) (f : Term) → NamedOutcome es o → NamedOutcome es p → IsNamed es f → IsNamed es (of_both_returns b d o p f)
  returns_named b d o p f m n x =
      changed_named es f (left_sides b d o p ++ to_bound_values (globals_of o p))
      (puts_append es (left_sides b d o p) (to_bound_values (globals_of o p)) (lefts_named b d o p m n) (bound_values_named es (globals_of o p) (globals_have o p m n))) x

  where_named : (b d : Bool) (o p : Outcome) (said f : Term) → NamedOutcome es o → NamedOutcome es p → IsNamed es said → IsNamed es f → IsNamed es (after_both_where b d o p said f)
  where_named b d o p said f m n x y =
      let W = bound_of_both b d o p in
      let have = both_have b d o p m n in
      for_all_named es W _ have (implies_named es _ _ (changed_named es said (to_bound_values W) (bound_values_named es W have) x) (returns_named b d o p f m n y))

  before_named : (k l : Callee) (W V : List TypedVariable) (s : Contract) (q : Term) → NamedCallee es k → NamedCallee es l → AreOfTypes W → AreOfTypes V → IsNamedContract es s → IsNamed es q → IsNamed es (before_both k W l V s q)
  before_named k l W V s q m n w v c y =
      let a = m.call in
      let b = n.call in
      let left = put_for Left k.declared.params k.call.arguments in
      let right = put_for Right l.declared.params l.call.arguments in
      let o = outcome Left k W in
      let p = outcome Right l V in
      and_named es (of_both_arguments k.declared.params k.call.arguments l.declared.params l.call.arguments s.pre) (after_both o p s.post q)
      (changed_named es s.pre (left ++ right) (puts_append es left right (puts_for es Left k.declared.params k.call.arguments a.arguments) (puts_for es Right l.declared.params l.call.arguments b.arguments)) c.0)
      (where_named (reads_result o s.post q) (reads_result p s.post q) o p s.post q (outcome_named es Left k W m w) (outcome_named es Right l V n v) c.1 y)

  module _ (ds : Declarations) (globals : AreNamedGlobals ds) (procedures : AreNamedProcedures es ds) where
    module _ (s : Contract) (c : IsNamedContract es s) where
      both_globals_keep : (k l : Callee) (p q : Term) (Gs : List Goal) → NamedCallee es k → NamedCallee es l → IsNamed es p → IsNamed es q → (o r : Option (List TypedVariable)) → ((W : List TypedVariable) → o ≡ Some W → AreOfTypes W) →
          ((W : List TypedVariable) → r ≡ Some W → AreOfTypes W) → by_both_globals k l s p q o r ≡ given Gs → AllOf es Gs
      both_globals_keep k l p q Gs m n x y (Some W) (Some V) f g e =
          let a = m.call in
          let b = n.call in
          subst (AllOf es) (same_given (both_goals k W l V s p q) Gs e) ((a.procedure, b.procedure, c.0, c.1), ((a.before, b.before, x, before_named k l W V s q m n (f W refl) (g V refl) c y), tt))
      both_globals_keep k l p q Gs m n x y (Some W) None f g e = refused_given Shape Gs e
      both_globals_keep k l p q Gs m n x y None r f g e = refused_given Shape Gs e

      callees_keep : (p q : Term) (Gs : List Goal) → IsNamed es p → IsNamed es q → (a b : Option Callee) → ((k : Callee) → a ≡ Some k → NamedCallee es k) → ((k : Callee) → b ≡ Some k → NamedCallee es k) → of_callees ds s p q a b ≡ given Gs → AllOf es Gs
      callees_keep p q Gs x y (Some k) (Some l) f g e =
          let W = with_types ds (left_of Left k s q) in
          let V = with_types ds (left_of Right l s q) in
          let few = few_keeps l.call.targets _ Gs (few_keeps k.call.targets _ Gs e) in
          both_globals_keep k l p q Gs (f k refl) (g l refl) x y W V (λ U h. types_named ds globals (left_of Left k s q) U h) (λ U h. types_named ds globals (left_of Right l s q) U h)
          (unless_keeps (clash_after_both (exclusions ds) k l s q) (by_both_globals k l s p q W V) Gs few)
      callees_keep p q Gs x y (Some k) None f g e = refused_given Shape Gs e
      callees_keep p q Gs x y None b f g e = refused_given Shape Gs e

    -- One of two bodies.

    side_named : (r : Side) (s : Contract) → IsNamedContract es s → IsNamedContract es (on_side r s)
    side_named r s c = (located_named es r s.pre c.0, located_named es r s.post c.1)

    judged_named : (b : Option Term) (k : Callee) (s : Contract) → IsNamedIfAny es b → NamedCallee es k → IsNamedContract es s → IsNamedGoal es (judged b k.call.procedure s)
    judged_named None k s w m c = let a = m.call in (a.procedure, c.0, c.1)
    judged_named (Some b) k s w m c = let a = m.call in (a.procedure, c.0, c.1, w)

    module _ (b : Option Term) (w : IsNamedIfAny es b) (s : Contract) (c : IsNamedContract es s) where
      side_goals_named : (o : OneBody) (k : Callee) (W : List TypedVariable) → Around es o → NamedCallee es k → AreOfTypes W → AllOf es (side_goals b s o k W)
      side_goals_named o k W a m h =
          let l = m.call in
          (judged_named b k s w m c, (a.goal k.call.before o.pre _ l.before a.pre (calls.before_named es AtLeast o.side k W (on_side o.side s) o.post m h (side_named o.side s c) a.post), tt))

      side_globals_keep : (o : OneBody) (k : Callee) (Gs : List Goal) → Around es o → NamedCallee es k → (r : Option (List TypedVariable)) → ((W : List TypedVariable) → r ≡ Some W → AreOfTypes W) → by_side_globals b s o k r ≡ given Gs → AllOf es Gs
      side_globals_keep o k Gs a m None f e = refused_given Shape Gs e
      side_globals_keep o k Gs a m (Some W) f e = subst (AllOf es) (same_given (side_goals b s o k W) Gs e) (side_goals_named o k W a m (f W refl))

      side_callee_keeps : (o : OneBody) (Gs : List Goal) → Around es o → (r : Option Callee) → ((k : Callee) → r ≡ Some k → NamedCallee es k) → of_side_callee ds b s o r ≡ given Gs → AllOf es Gs
      side_callee_keeps o Gs a None f e = refused_given Shape Gs e
      side_callee_keeps o Gs a (Some k) f e =
          let W = with_types ds (left_of o.side k (on_side o.side s) o.post) in
          let spoken = speaking_keeps s _ Gs (few_keeps k.call.targets _ Gs e) in
          let apart = unless_keeps (clash_after (exclusions ds) o.side k.call.targets k.written (on_side o.side s).post o.post) _ Gs spoken in
          side_globals_keep o k Gs a (f k refl) W (λ U h. types_named ds globals (left_of o.side k (on_side o.side s) o.post) U h) (full_keeps (lost ds b k.call.procedure) (by_side_globals b s o k W) Gs apart)

      body_keeps : (Gs : List Goal) (o : OneBody) → of_body ds b s o ≡ given Gs → Around es o → AllOf es Gs
      body_keeps Gs o e a = side_callee_keeps o Gs a (callee_of ds (last_call o.list)) (λ k h. last_callee es ds procedures o.list a.list k h) e

      pub side_keeps : (a : Acts) → KeepsNames es (on_one_side ds b s a)
      side_keeps on.All G h Gs e = refused_given Shape Gs e
      side_keeps on.Left G h Gs e = by_one es (of_body ds b s) (refusing Shape) G Gs (body_keeps Gs) (λ e. refused_given Shape Gs e) on.Left e h
      side_keeps on.Right G h Gs e = by_one es (of_body ds b s) (refusing Shape) G Gs (body_keeps Gs) (λ e. refused_given Shape Gs e) on.Right e h

    -- All programs.

    programs_keep : (s : Contract) → IsNamedContract es s → (a : Acts) → KeepsNames es (on_programs ds s a)
    programs_keep s c on.All (equiv (body is) (body js) p q) h Gs e =
        callees_keep s c p q Gs h.2 h.3 (callee_of ds (last_call is)) (callee_of ds (last_call js)) (λ k i. last_callee es ds procedures is h.0 k i) (λ k i. last_callee es ds procedures js h.1 k i) e
    programs_keep s c on.Left (equiv (body is) (body js) p q) h Gs e = side_keeps None tt s c on.Left (equiv (body is) (body js) p q) h Gs e
    programs_keep s c on.Right (equiv (body is) (body js) p q) h Gs e = side_keeps None tt s c on.Right (equiv (body is) (body js) p q) h Gs e
    programs_keep s c a (equiv (procedure f) d p q) h Gs e = calls.one_keeps es ds globals s c procedures a (equiv (procedure f) d p q) h Gs e
    programs_keep s c a (equiv (body is) (procedure g) p q) h Gs e = calls.one_keeps es ds globals s c procedures a (equiv (body is) (procedure g) p q) h Gs e
    programs_keep s c a (hoare d p q) h Gs e = calls.one_keeps es ds globals s c procedures a (hoare d p q) h Gs e
    programs_keep s c a (phoare d r p q b) h Gs e = calls.one_keeps es ds globals s c procedures a (phoare d r p q b) h Gs e
    programs_keep s c a (ambient f) h Gs e = calls.one_keeps es ds globals s c procedures a (ambient f) h Gs e

    pub call_keeps : (s : Contract) → IsNamedContract es s → KeepsNames es (call_row ds s)
    call_keeps s c = programs_keep s c s.acts

    -- By a judgment that is known.

    by_chances_keep : (a : Acts) (p q b : Term) → IsNamed es p → IsNamed es q → IsNamed es b → KeepsNames es (by_chances ds a p q b)
    by_chances_keep on.All p q b x y z = call_keeps (contract on.All p q) (x, y)
    by_chances_keep on.Left p q b x y z = side_keeps (Some b) z (contract on.Left p q) (x, y) on.Left
    by_chances_keep on.Right p q b x y z = side_keeps (Some b) z (contract on.Right p q) (x, y) on.Right

    conditions_keep : (a : Acts) (G : Goal) → IsNamedGoal es G → KeepsNames es (by_conditions ds a G)
    conditions_keep a (hoare d p q) h = call_keeps (contract a p q) (h.1, h.2)
    conditions_keep a (phoare d r p q b) h = by_chances_keep a p q b h.1 h.2 h.3
    conditions_keep a (equiv d f p q) h = call_keeps (contract a p q) (h.2, h.3)
    conditions_keep a (ambient f) h = λ G k Gs e. refused_given Shape Gs e

    abbrev Keeps : List Sequent → Type 0
    Keeps qs = AllByRecursion (IsNamedSequent es) qs

    behind_keeps : (qs : List Sequent) → Keeps qs → Keeps (behind qs)
    behind_keeps [] h = tt
    behind_keeps (q ∷ qs) h = h.1

    pub known_calls_keep : (a : Acts) (f : Term) → IsNamed es f → (q : Sequent) → IsNamedSequent es q → (place : Place) (qs : List Sequent) → known.IsAnswer ds a f place q (given qs) → Keeps qs
    known_calls_keep a f w q n place qs (inl (k, e)) = step (answered row q) refl (sym e)
      where
        row : Row
        row = by_conditions ds a (goal_of f)

        step : (x : Answer (List Sequent)) → answered row q ≡ x → behind_first (placed_at place x) ≡ given qs → Keeps qs
        step (given rs) i e = subst Keeps (same_given (behind rs) qs e) (behind_keeps rs (sequents_keep es row (conditions_keep a (goal_of f) (goal_named es f w)) q n rs i))
        step (refused v at) i e = refused_at v _ qs e
    known_calls_keep a f w q n place qs (inr (k, e)) = refused_at Shape place qs (sym e)
