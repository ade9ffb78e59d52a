-- What a step gives of a typed goal: typed goals, and where they hold the goal does.
use Rattle.std.proofs.Common.{◌≡◌, ℕ, inl, inr, Bool, true, false, if◌then◌else◌, List, [], Option, Some, None, refl, ap, sym, ◌∙◌, subst, ◌∷◌}
use Rattle.std.specs.List.{AllByRecursion}
use Rattle.gb_core.specs.declared.place.Place.{Place}
use Rattle.gb_core.specs.declared.refusal.Why.{Why}
use Rattle.gb_core.specs.declared.refusal.Why.TheVariants.{Shape}
use Rattle.gb_core.specs.declared.ty.Ty.TheVariants as ty
use Rattle.gb_terms.specs.declared.decl.TypedName.{TypedName}
use Rattle.gb_terms.specs.declared.module.ProcRef.{ProcRef}
use Rattle.gb_terms.specs.declared.term.Term.{Term}
use Rattle.gb_goal.specs.Answers.{placed_at}
use Rattle.gb_goal.specs.Answers.Answer.{given, refused}
use Rattle.gb_amb.specs.Quantified.{goal_quantifies_modules}
use Rattle.gb_goal.specs.Goal.{Goal, goal_of}
use Rattle.gb_goal.specs.Goal.Code.{body, procedure}
use Rattle.gb_goal.specs.Goal.Goal.{hoare, phoare, equiv, ambient}
use Rattle.gb_goal.specs.Rows.{Row, refusing, each_concluding, answered, stepped}
use Rattle.gb_goal.specs.Scope.{Declarations}
use Rattle.gb_goal.specs.declared.scope.ProcName.{ProcName}
use Rattle.gb_goal.specs.declared.sequent.Sequent.{Sequent}
use Rattle.gb_meaning.specs.Setting.{Setting}
use Rattle.gb_meaning.specs.Written.{type_of}
use Rattle.gb_steps.specs.declared.step.AbstractRule.{AbstractRule}
use Rattle.gb_steps.specs.declared.step.Acts.{Acts}
use Rattle.gb_steps.specs.declared.step.Acts.TheVariants as on
use Rattle.gb_steps.specs.declared.step.AmbientRule.{AmbientRule}
use Rattle.gb_steps.specs.declared.step.BodyRule.{BodyRule}
use Rattle.gb_steps.specs.declared.step.BodyRule.TheVariants as on_bodies
use Rattle.gb_steps.specs.declared.step.EventLaw.{EventLaw}
use Rattle.gb_steps.specs.declared.step.EventLaw.TheVariants as event_law
use Rattle.gb_steps.specs.declared.step.RelationalRule.{RelationalRule}
use Rattle.gb_steps.specs.declared.step.RelationalRule.TheVariants as on_both
use Rattle.gb_steps.specs.declared.step.RewriteRule.{RewriteRule}
use Rattle.gb_steps.specs.declared.step.RewriteRule.TheVariants.{Forward, Back, Subst, Unfold, Law}
use Rattle.gb_steps.specs.declared.step.UseRule.{UseRule}
use Rattle.gb_steps.specs.Told.{rewrites_by, told}
use Rattle.gb_steps.specs.declared.step.Rule.{Rule}
use Rattle.gb_steps.specs.declared.step.Rule.TheVariants as rule
use Rattle.gb_steps.specs.declared.step.Multiple.{Multiple}
use Rattle.gb_steps.specs.declared.step.Transformation.{Transformation}
use Rattle.gb_steps.specs.declared.step.Transformation.TheVariants as transformation
use Rattle.gb_trans.specs.Beside.{beside_answer, on_body, one_of_two}
use Rattle.gb_meaning.specs.Declared as holds
use Rattle.gb_meaning.specs.Declared.{declared}
use Rattle.gb_meaning.specs.Holds.{Holds, InEachSetting, declared_modules, interpretation}
use Rattle.gb_meaning.specs.Truth.{has_module}
use Rattle.gb_typing.specs.Typing.{IsForm, after}
use Rattle.gb_typing.specs.Sequents.{IsTypedSequent}
use Rattle.gb_typing.specs.Scopes.{context_of}
use Rattle.gb_typing.specs.Goals.{IsGoalOver}
use Rattle.gb_typing.specs.Context.{Context, with_own}
use Rattle.gb_typing.specs.Context as context
use Rattle.gb_typing.specs.Rules.{IsSettingOver, IsSoundIn}
use Rattle.gb_typing.proofs.Lifted.{each}
use Rattle.gb_prog.specs.Ends.{Entered, IsSoundOnLoops, LoopsEnd, ProceduresEnd, SequentEnds}
use Rattle.gb_adv.specs.Rows as abstract_rows
use Rattle.gb_call_both.specs.Rows as calls
use Rattle.gb_pr.specs.Rows as probabilities
use Rattle.gb_bodies.specs.Case.{IsTypedCase}
use Rattle.gb_bodies.specs.Rows as bodies
use Rattle.gb_ended.specs.Loops.{unproved_in}
use Rattle.gb_inline.specs.Proved.{IsSoundOnProved, ProvedEnd}
use Rattle.gb_closing_laws.proofs.LinearIsSound.{closes}
use Rattle.gb_loops.specs.While.{IsTypedInvariant, while_row}
use Rattle.gb_equiv.specs.Rows.{IsTypedRule}
use Rattle.gb_sim.specs.Sim as same_statements
use Rattle.gb_amb.specs.Steps.{IsTypedStep}
use Rattle.gb_linear.specs.Closing.{linear_answer}
use Rattle.gb_amb.specs.Lemmas.{IsKnown}
use Rattle.gb_amb.specs.Uses as uses
use Rattle.gb_rewrite.specs.Events.{IsTypedLaw}
use Rattle.gb_rewrite.specs.Rewriting.{IsUsable}
use Rattle.gb_smt.specs.Leaves.{leaves_of}
use Rattle.gb_smt.specs.Apply.{IsAnswerOf}
use Rattle.gb_elab_laws.proofs.Given.{given_bind, given_is}
use Rattle.gb_theory.specs.Commands.{closed_unless, entered, entering, row_of, transformed, unless_unproved, Applied, OnBoth}
use Rattle.gb_accepted.proofs.Given.{nothing_given, given_placed}
use Rattle.gb_accepted.proofs.Grounds.{IsTyped, IsTypedGoalOf, around, Grounds}
use Rattle.gb_accepted.proofs.Probabilities.{probabilities_end, probabilities_refuse}

-- goals that are typed, whose loops end where those of a goal do, and from which the goal then follows
pub record LeadTo (ds : Declarations) (q : Sequent) (qs : List Sequent) : Type 0 where
  pub typed : AllByRecursion (IsTypedSequent (context_of (declared ds))) qs
  pub ends : SequentEnds (declared ds) q → AllByRecursion (SequentEnds (declared ds)) qs
  pub leads : SequentEnds (declared ds) q → AllByRecursion (Holds (declared ds)) qs → Holds (declared ds) q

-- a rule whose arguments are typed at a goal
abbrev pub IsTypedAt : (ds : Declarations) (q : Sequent) → IsTypedGoalOf ds q → Rule → Type 0
IsTypedAt ds q t r =
    (ls rs : List TypedName) → IsGoalOver (around ds q t) ls rs (goal_of q.conclusion) →
    bodies.IsTypedRule (around ds q t) r ls rs (goal_of q.conclusion) × IsTypedRule (around ds q t) r ls rs (goal_of q.conclusion)
    × calls.IsTypedRule (around ds q t) r ls rs (goal_of q.conclusion) × probabilities.IsTypedRule (around ds q t) r ls rs (goal_of q.conclusion)
    × ((a : AbstractRule) → r ≡ rule.Abstract a → abstract_rows.IsTypedRule (around ds q t) a ls rs (goal_of q.conclusion))

-- a rule on a conclusion that brings typed forms to a goal
abbrev pub HasTypedForms : (ds : Declarations) (q : Sequent) → IsTypedGoalOf ds q → Rule → Type 0
HasTypedForms ds q t r = (a : AmbientRule) → r ≡ rule.Ambient a → (u : IsTypedGoalOf ds q) × IsTypedStep (around ds q u) q.conclusion a

-- a rule that uses what a hypothesis of a goal, or a lemma, says of typed terms
abbrev pub UsesHypotheses : (ds : Declarations) (q : Sequent) → IsTypedGoalOf ds q → Rule → Type 0
UsesHypotheses ds q t r = (a : UseRule) → r ≡ rule.Use a → uses.IsTypedStep (declared ds) q (around ds q t) a

-- the forms that a rule is told to use are typed, and are what hypotheses of a goal, or lemmas, say of typed terms
abbrev pub AreSaid : (ds : Declarations) (q : Sequent) → IsTypedGoalOf ds q → List Term → Type 0
AreSaid ds q t fs = AllByRecursion (λ f. IsForm (around ds q t) f × IsKnown (declared ds) q (around ds q t) f) fs

abbrev pub HasSaidForms : (ds : Declarations) (q : Sequent) → IsTypedGoalOf ds q → Rule → Type 0
HasSaidForms ds q t r = AreSaid ds q t (told r)

-- the event by which a rule divides a probability is typed after the procedure of that probability
abbrev pub HasTypedEvents : (ds : Declarations) (q : Sequent) → IsTypedGoalOf ds q → Rule → Type 0
HasTypedEvents ds q t r =
    (p : ProcRef) (f : Term) → r ≡ rule.Rewrite (Law (event_law.Split p f)) → IsForm (with_own (around ds q t) (after (context.procedure (around ds q t) p))) f

-- a row that refuses gives nothing
none_given : (row : Row) (q : Sequent) (qs : List Sequent) (G : Goal) → goal_of q.conclusion ≡ G → row G ≡ refusing Shape → {X : Type 0} → answered row q ≡ given qs → X
none_given row q qs G is refuses e = nothing_given _ _ qs (sym (ap (each_concluding q) (ap row is ∙ refuses)) ∙ e)

-- an invariant is typed as the form of `case` is
invariant_typed : (c : Context) (v : Term) (ls rs : List TypedName) (G : Goal) → IsTypedCase c v ls rs G → IsTypedInvariant c v ls rs G
invariant_typed c v ls rs (hoare (body is) p q) w = w
invariant_typed c v ls rs (phoare (body is) r p q b) w = w
invariant_typed c v ls rs (equiv (body is) (body js) p q) w = w
invariant_typed c v ls rs (hoare (procedure f) p q) w = tt
invariant_typed c v ls rs (phoare (procedure f) r p q b) w = tt
invariant_typed c v ls rs (equiv (procedure f) a p q) w = tt
invariant_typed c v ls rs (equiv (body is) (procedure f) p q) w = tt
invariant_typed c v ls rs (ambient f) w = tt

while_refused : (ds : Declarations) (a : Acts) (v f : Term) → while_row ds a v (ambient f) ≡ refusing Shape
while_refused ds on.All v f = refl
while_refused ds on.Left v f = refl
while_refused ds on.Right v f = refl

-- in each setting something always is
anywhere : (ds : holds.Declarations) (q : Sequent) → InEachSetting ds q (λ g. Unit {0})
anywhere ds q = λ w size table m. each ds (declared_modules ds) (interpretation w size table) _ (λ i. each ds q.modules i (λ k. Unit {0}) (λ k. tt))

-- In a typed scope, at a typed goal of which is known where the loops of procedures end that it speaks of, and which
-- proved loops end.
module _ (g : Grounds) (ds : Declarations) (scope : IsTyped ds) (q : Sequent) (t : IsTypedGoalOf ds q)
    (ended : unproved_in ds (goal_of q.conclusion) ≡ None → InEachSetting (declared ds) q (λ s. ProceduresEnd ds s (goal_of q.conclusion))) (proved : InEachSetting (declared ds) q (ProvedEnd ds)) where
  -- no rule on judgments or on probabilities works where a module is quantified in front
  ambient_refused : (r : Rule) (f : Term) → has_module f ≡ true → row_of ds r (ambient f) ≡ refusing Shape
  ambient_refused (rule.OnBodies r) f e = g.rules.bodies_refuse ds (rule.OnBodies r) f
  ambient_refused (rule.Relational r) f e = g.rules.equiv_refuses ds (rule.Relational r) f
  ambient_refused (rule.Chance r) f e = g.rules.chances_refuse ds (rule.Chance r) f
  ambient_refused (rule.Probability r) f e = probabilities_refuse ds r f e
  ambient_refused (rule.Call s) f e = g.rules.calls_refuse ds (rule.Call s) f
  ambient_refused (rule.CallKnown a k) f e = refl
  ambient_refused (rule.Abstract a) f e = g.rules.abstract_refuse ds a f
  ambient_refused (rule.While v) f e = while_refused ds v.acts v.kept f
  ambient_refused (rule.Transform a k) f e = g.rules.transformations_refuse ds (rule.Transform a k) f
  ambient_refused (rule.Smt fs) f e = refl
  ambient_refused (rule.Linear ms) f e = refl
  ambient_refused (rule.Ambient r) f e = refl
  ambient_refused (rule.Use r) f e = refl
  ambient_refused (rule.Rewrite r) f e = refl

  abbrev G : Goal
  G = goal_of q.conclusion

  abbrev c : Context
  c = around ds q t

  -- a rule that works on goals alone
  by_row : (r : Rule) (place : Place) (qs : List Sequent) → stepped (row_of ds r) place q ≡ given qs →
      ((ls rs : List TypedName) → IsGoalOver c ls rs G → type_of q.conclusion ≡ ty.Bool → answered (row_of ds r) q ≡ given qs → LeadTo ds q qs) → LeadTo ds q qs
  by_row r place qs e onward = by_front (has_module q.conclusion) refl
    where
      gives : answered (row_of ds r) q ≡ given qs
      gives = given_placed (answered (row_of ds r) q) place qs (sym e)

      by_front : (b : Bool) → has_module q.conclusion ≡ b → LeadTo ds q qs
      by_front true h = none_given (row_of ds r) q qs (ambient q.conclusion) (g.rules.front q.conclusion h) (ambient_refused r q.conclusion h) gives
      by_front false h = let w = g.rules.goal c q.conclusion t.conclusion h in onward w.0.0 w.0.1 w.0.2 w.1 gives

  -- a rule that is sound, and that leads to no other loops where something is known of each setting
  by_law : (r : Rule) → InEachSetting (declared ds) q (λ s. Entered ds s r G) → (place : Place) (qs : List Sequent) →
      ((ls rs : List TypedName) → IsGoalOver c ls rs G → IsSoundIn (declared ds) c (row_of ds r) G) →
      ((ls rs : List TypedName) → IsGoalOver c ls rs G → (Gs : List Goal) → row_of ds r G ≡ given Gs → (s : Setting) → IsSettingOver (declared ds) s → Entered ds s r G → LoopsEnd s G → AllByRecursion (LoopsEnd s) Gs) →
      stepped (row_of ds r) place q ≡ given qs → LeadTo ds q qs
  by_law r known place qs law ends e =
      by_row r place qs e
      (λ ls rs w truth gives.
      let k = g.rules.lifted (declared ds) scope q t truth ls rs w (row_of ds r) (law ls rs w) qs gives in
      record {
        typed = k.0;
        ends = g.loops.rows ds scope q t r known (row_of ds r) (λ Gs x. ((law ls rs w Gs x).0, ends ls rs w Gs x)) qs gives;
        leads = λ h. k.1;
      })

  -- a rule that is sound where loops end
  by_loop_law : (r : Rule) (place : Place) (qs : List Sequent) →
      ((ls rs : List TypedName) → IsGoalOver c ls rs G → (Gs : List Goal) → row_of ds r G ≡ given Gs → IsSoundOnLoops (declared ds) c Gs G) → stepped (row_of ds r) place q ≡ given qs → LeadTo ds q qs
  by_loop_law r place qs law e =
      by_row r place qs e
      (λ ls rs w truth gives.
      let k = g.loops.lifted (declared ds) scope q t truth ls rs w (row_of ds r) (law ls rs w) qs gives in
      record { typed = k.0; ends = λ h. (k.1 h).0; leads = λ h. (k.1 h).1 })

  -- a rule that puts bodies of procedures into goals, whose loops end where they are proved
  by_proved_law : (r : Rule) (place : Place) (qs : List Sequent) →
      ((ls rs : List TypedName) → IsGoalOver c ls rs G → (Gs : List Goal) → row_of ds r G ≡ given Gs → IsSoundOnProved ds c Gs G) → stepped (row_of ds r) place q ≡ given qs → LeadTo ds q qs
  by_proved_law r place qs law e =
      by_row r place qs e
      (λ ls rs w truth gives.
      let k = g.loops.with_proved ds scope q t truth ls rs w proved (row_of ds r) (law ls rs w) qs gives in
      record { typed = k.0; ends = λ h. (k.1 h).0; leads = λ h. (k.1 h).1 })

  -- the same statements on both sides
  of_same : (place : Place) (qs : List Sequent) → same_statements.IsAnswer ds place q (given qs) → LeadTo ds q qs
  of_same place qs (inr x) = nothing_given _ _ qs (sym x.1)
  of_same place qs (inl x) = by_front (has_module q.conclusion) refl
    where
      gives : answered (same_statements.sim_row ds) q ≡ given qs
      gives = given_placed (answered (same_statements.sim_row ds) q) place qs x.1

      by_front : (b : Bool) → has_module q.conclusion ≡ b → LeadTo ds q qs
      by_front true h = absurd (subst same_statements.AreSame (g.rules.front q.conclusion h) x.0)
      by_front false h =
          let w = g.rules.goal c q.conclusion t.conclusion h in
          let law = g.rules.same_statements ds scope q t w.0.0 w.0.1 G x.0 w.0.2 in
          let k = g.rules.lifted (declared ds) scope q t w.1 w.0.0 w.0.1 w.0.2 (same_statements.sim_row ds) law qs gives in
          record {
            typed = k.0;
            ends = g.loops.rows ds scope q t (rule.Relational on_both.Sim) (anywhere (declared ds) q) (same_statements.sim_row ds)
                (λ Gs y. ((law Gs y).0, λ s over n l. g.loops.same_statements ds G Gs y s)) qs gives;
            leads = λ h. k.1;
          }

  -- what is known of the procedures of a goal, where a rule goes to their bodies
  entered_ends : (r : BodyRule) (place : Place) (x : Unit {0}) → entering ds r place G ≡ given x → InEachSetting (declared ds) q (λ s. Entered ds s (rule.OnBodies r) G)
  entered_ends on_bodies.Proc place x e = by_unproved (unproved_in ds G) refl e
    where
      by_unproved : (o : Option ProcName) → unproved_in ds G ≡ o → unless_unproved o place ≡ given x → InEachSetting (declared ds) q (λ s. ProceduresEnd ds s G)
      by_unproved None k e = ended k
      by_unproved (Some p) k e = nothing_given _ _ x e
  entered_ends on_bodies.Skip place x e = anywhere (declared ds) q
  entered_ends (on_bodies.Seq k r) place x e = anywhere (declared ds) q
  entered_ends (on_bodies.If a) place x e = anywhere (declared ds) q
  entered_ends (on_bodies.Wp a) place x e = anywhere (declared ds) q
  entered_ends (on_bodies.Case f) place x e = anywhere (declared ds) q
  entered_ends (on_bodies.Conseq w) place x e = anywhere (declared ds) q
  entered_ends on_bodies.Unfit place x e = anywhere (declared ds) q

  of_bodies : (r : BodyRule) (place : Place) (qs : List Sequent) → ((ls rs : List TypedName) → IsGoalOver c ls rs G → bodies.IsTypedRule c (rule.OnBodies r) ls rs G) → entered ds r place q ≡ given qs → LeadTo ds q qs
  of_bodies r place qs typed e =
      let x = given_bind (entering ds r place G) _ qs e in
      by_law (rule.OnBodies r) (entered_ends r place x.0 x.1) place qs
      (λ ls rs w. g.rules.on_bodies ds scope q t (rule.OnBodies r) (g.rules.outer (declared ds) q t.frames) ls rs G w (typed ls rs w))
      (λ ls rs w Gs y. g.loops.bodies ds scope (rule.OnBodies r) G Gs y) x.2

  said_forms : (fs : List Term) → AreSaid ds q t fs → AllByRecursion (IsForm (around ds q t)) fs
  said_forms [] w = tt
  said_forms (f ∷ fs) w = (w.0.0, said_forms fs w.1)

  said_hold : (fs : List Term) → AreSaid ds q t fs → AllByRecursion (λ f. Holds (declared ds) (record q { conclusion = f })) fs
  said_hold [] w = tt
  said_hold (f ∷ fs) w = (g.rules.instances (declared ds) scope q t f w.0.0 w.0.1, said_hold fs w.1)

  of_smt : (known : List Term) → AreSaid ds q t known → (place : Place) (qs : List Sequent) (found : Option Why) → IsAnswerOf ds (leaves_of known q) found → given qs ≡ closed_unless found place → LeadTo ds q qs
  of_smt known w place qs None a e =
      let none : [] ≡ qs = sym (given_is _ _ e) in
      subst (LeadTo ds q) none (record { typed = tt; ends = λ h. tt; leads = λ h k. g.rules.smt ds scope q t known (said_forms known w) a (said_hold known w) })
  of_smt known w place qs (Some why) a e = nothing_given _ _ qs (sym e)

  of_linear : (ms : List Multiple) (place : Place) (qs : List Sequent) → linear_answer ms place q ≡ given qs → LeadTo ds q qs
  of_linear ms place qs e =
      let k = g.rules.linear (declared ds) scope q t ms place qs e in
      record { typed = k.0; ends = λ h. subst (AllByRecursion (SequentEnds (declared ds))) (closes ms place q qs e) tt; leads = λ h. k.1 }

  event_typed : (l : EventLaw) → HasTypedEvents ds q t (rule.Rewrite (Law l)) → IsTypedLaw (around ds q t) l
  event_typed (event_law.Split p f) k = k p f refl
  event_typed event_law.Or k = tt
  event_typed event_law.Not k = tt
  event_typed event_law.False k = tt

  usable : (r : RewriteRule) → HasTypedEvents ds q t (rule.Rewrite r) → AreSaid ds q t (rewrites_by r) → IsUsable (declared ds) q (around ds q t) r
  usable (Forward f) k w = (w.0.0, g.rules.instances (declared ds) scope q t f w.0.0 w.0.1)
  usable (Back f) k w = (w.0.0, g.rules.instances (declared ds) scope q t f w.0.0 w.0.1)
  usable (Subst i) k w = tt
  usable (Unfold x) k w = tt
  usable (Law l) k w = event_typed l k

  by_both_law : (r : RelationalRule) (place : Place) (qs : List Sequent) → IsTypedAt ds q t (rule.Relational r) → given qs ≡ stepped (row_of ds (rule.Relational r)) place q → LeadTo ds q qs
  by_both_law r place qs typed a =
      by_law (rule.Relational r) (anywhere (declared ds) q) place qs
      (λ ls rs w. g.rules.relational ds scope q t (rule.Relational r) (g.rules.outer (declared ds) q t.frames) ls rs G w (typed ls rs w).1)
      (λ ls rs w Gs y s over x. g.loops.relational ds c ls rs (rule.Relational r) G w Gs y s over) (sym a)

  of_both : (r : RelationalRule) (place : Place) (qs : List Sequent) → IsTypedAt ds q t (rule.Relational r) → OnBoth ds r place q (given qs) → LeadTo ds q qs
  of_both on_both.Sim place qs typed a = of_same place qs a
  of_both (on_both.Rnd fs) place qs typed a = by_both_law (on_both.Rnd fs) place qs typed a
  of_both on_both.Symmetry place qs typed a = by_both_law on_both.Symmetry place qs typed a
  of_both (on_both.Drawn b) place qs typed a = by_both_law (on_both.Drawn b) place qs typed a
  of_both (on_both.Transitivity b) place qs typed a = by_both_law (on_both.Transitivity b) place qs typed a

  -- a rule that puts other statements into a program
  of_program : (b : Acts) (k : Transformation) (place : Place) (qs : List Sequent) → stepped (row_of ds (rule.Transform b k)) place q ≡ given qs → LeadTo ds q qs
  of_program b k place qs e =
      by_proved_law (rule.Transform b k) place qs (λ ls rs w. g.loops.transformations ds scope q t (rule.Transform b k) (g.rules.outer (declared ds) q t.frames) ls rs G w) e

  none_of_two : (b : Acts) (f : Term) → one_of_two b (ambient f) ≡ None
  none_of_two on.All f = refl
  none_of_two on.Left f = refl
  none_of_two on.Right f = refl

  beside_refused : {X : Type 0} (n : ℕ) (u : Bool) (b : Acts) (place : Place) (qs : List Sequent) → G ≡ ambient q.conclusion → beside_answer ds n u b place q ≡ given qs → X
  beside_refused {X} n u b place qs is e = by_test (goal_quantifies_modules q) e
    where
      by_test : (m : Bool) → (if m then refused Shape place else placed_at place (on_body ds n u q (one_of_two b G))) ≡ given qs → X
      by_test true e = nothing_given _ _ qs e
      by_test false e =
          nothing_given _ _ qs
          (sym (sym (given_placed (on_body ds n u q (one_of_two b G)) place qs (sym e)) ∙ ap (λ Y. on_body ds n u q (one_of_two b Y)) is ∙ ap (on_body ds n u q) (none_of_two b q.conclusion)))

  -- a guard on one of two programs
  of_guard : (n : ℕ) (u : Bool) (b : Acts) (place : Place) (qs : List Sequent) → beside_answer ds n u b place q ≡ given qs → LeadTo ds q qs
  of_guard n u b place qs e = by_front (has_module q.conclusion) refl
    where
      by_front : (m : Bool) → has_module q.conclusion ≡ m → LeadTo ds q qs
      by_front true h = beside_refused n u b place qs (g.rules.front q.conclusion h) e
      by_front false h =
          let w = g.rules.goal c q.conclusion t.conclusion h in
          let k = g.loops.beside ds scope q t w.1 w.0.0 w.0.1 w.0.2 n u b place qs e in
          record { typed = k.0; ends = λ h. (k.1 h).0; leads = λ h. (k.1 h).1 }

  of_programs : (b : Acts) (k : Transformation) (place : Place) (qs : List Sequent) → transformed ds b k place q ≡ given qs → LeadTo ds q qs
  of_programs on.All (transformation.Decided n u) place qs e = of_program on.All (transformation.Decided n u) place qs e
  of_programs on.Left (transformation.Decided n u) place qs e = of_guard n u on.Left place qs e
  of_programs on.Right (transformation.Decided n u) place qs e = of_guard n u on.Right place qs e
  of_programs b (transformation.Swap w) place qs e = of_program b (transformation.Swap w) place qs e
  of_programs b (transformation.Kill n) place qs e = of_program b (transformation.Kill n) place qs e
  of_programs b (transformation.Unroll n) place qs e = of_program b (transformation.Unroll n) place qs e
  of_programs b (transformation.Inline w) place qs e = of_program b (transformation.Inline w) place qs e

  pub applied_lead : (r : Rule) (place : Place) (qs : List Sequent) → IsTypedAt ds q t r → HasTypedForms ds q t r → UsesHypotheses ds q t r → HasSaidForms ds q t r → HasTypedEvents ds q t r → Applied ds r place q (given qs) → LeadTo ds q qs
  applied_lead (rule.Smt known) place qs typed forms used said events a = of_smt known said place qs a.0 a.1 a.2
  applied_lead (rule.Linear ms) place qs typed forms used said events a = of_linear ms place qs (sym a)
  applied_lead (rule.OnBodies r) place qs typed forms used said events a = of_bodies r place qs (λ ls rs w. (typed ls rs w).0) (sym a)
  applied_lead (rule.Relational r) place qs typed forms used said events a = of_both r place qs typed a
  applied_lead (rule.Chance r) place qs typed forms used said events a =
      by_law (rule.Chance r) (anywhere (declared ds) q) place qs
      (λ ls rs w. g.rules.chances ds scope q t (rule.Chance r) (g.rules.outer (declared ds) q t.frames) ls rs G w tt)
      (λ ls rs w Gs y s over x. g.loops.chances ds c ls rs (rule.Chance r) G w Gs y s over) (sym a)
  applied_lead (rule.Probability r) place qs typed forms used said events a =
      by_law (rule.Probability r) (anywhere (declared ds) q) place qs
      (λ ls rs w. g.rules.probabilities ds scope q t (rule.Probability r) (g.rules.outer (declared ds) q t.frames) ls rs G w (typed ls rs w).3)
      (λ ls rs w Gs y s over x h. probabilities_end s ds r G Gs y) (sym a)
  applied_lead (rule.Call k) place qs typed forms used said events a =
      by_law (rule.Call k) (anywhere (declared ds) q) place qs
      (λ ls rs w. g.rules.calls ds scope q t (rule.Call k) (g.rules.outer (declared ds) q t.frames) ls rs G w (typed ls rs w).2)
      (λ ls rs w Gs y s over x. g.loops.calls ds c ls rs (rule.Call k) G w Gs y s over) (sym a)
  applied_lead (rule.Abstract k) place qs typed forms used said events a =
      by_law (rule.Abstract k) (anywhere (declared ds) q) place qs
      (λ ls rs w. g.rules.abstract_calls ds scope q t k (g.rules.outer (declared ds) q t.frames) ls rs G w ((typed ls rs w).4 k refl))
      (λ ls rs w Gs y s over x. g.loops.abstract_calls ds c ls rs k G w Gs y s over) (sym a)
  applied_lead (rule.CallKnown b f) place qs typed forms used said events a =
      let known = g.rules.instances (declared ds) scope q t f said.0.0 said.0.1 in
      let k = g.rules.known_calls ds scope q t b f said.0.0 known place qs a in
      record { typed = k.0; ends = g.loops.known_calls ds scope q t b f said.0.0 known place qs a; leads = λ h. k.1 }
  applied_lead (rule.While v) place qs typed forms used said events a =
      by_loop_law (rule.While v) place qs (λ ls rs w. g.loops.while ds scope q t v.acts v.kept (g.rules.outer (declared ds) q t.frames) ls rs G w (invariant_typed c v.kept ls rs G (typed ls rs w).0)) (sym a)
  applied_lead (rule.Transform b k) place qs typed forms used said events a =
      of_programs b k place qs (sym a)
  applied_lead (rule.Ambient r) place qs typed forms used said events a =
      let f = forms r refl in
      let k = g.rules.on_conclusions (declared ds) scope q f.0 r f.1 place qs a in
      record { typed = k.typed; ends = g.loops.conclusions (declared ds) q f.0 r f.1 place qs a; leads = λ h. k.leads }
  applied_lead (rule.Use r) place qs typed forms used said events a =
      let k = g.rules.on_uses (declared ds) scope q t r (used r refl) place qs a in
      let w = used r refl in
      record { typed = k.typed; ends = g.loops.uses (declared ds) q c r w.form place qs a; leads = λ h. k.leads }
  applied_lead (rule.Rewrite r) place qs typed forms used said events a =
      let k = g.rules.on_equals ds scope q t r (usable r events said) place qs a in
      record { typed = k.typed; ends = g.loops.equals ds scope q t r (usable r events said) place qs a; leads = λ h. k.leads }
