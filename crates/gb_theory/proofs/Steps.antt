-- What rules give, and the goals after a step.
use Rattle.std.proofs.Common.{◌≡◌, ℕ, Bool, List, [], ◌∷◌, ◌++◌, drop, Some, None, refl, ap, sym, ◌∙◌, subst}
use Rattle.std.specs.List.{slice_get}
use Rattle.std.specs.Prelude.{Result, Ok, Err}
use Rattle.gb_core.specs.declared.place.Place.{Place}
use Rattle.gb_core.specs.declared.refusal.Refused.{Refused}
use Rattle.gb_core.specs.declared.refusal.Refused.TheVariants.{NoMemory, ReadFault, Script}
use Rattle.gb_terms.specs.declared.term.Term.{Term}
use Rattle.gb_goal.specs.Scope.{Declarations}
use Rattle.gb_goal.specs.declared.sequent.Sequent.{Sequent}
use Rattle.gb_steps.specs.declared.step.Rule.{Rule}
use Rattle.gb_steps.specs.declared.step.Rule.TheVariants as rule
use Rattle.gb_steps.specs.declared.step.Multiple.{Multiple}
use Rattle.gb_steps.specs.declared.step.Step.{Step}
use Rattle.gb_script.specs.declared.tree.Node.{Node}
use Rattle.gb_goal.specs.Answers.{Answer, Answers, Gives, Fails, ◌>>=◌}
use Rattle.gb_goal.specs.Rows.{stepped}
use Rattle.gb_steps.specs.declared.step.Acts.{Acts}
use Rattle.gb_steps.specs.declared.step.Acts.TheVariants as acts
use Rattle.gb_steps.specs.declared.step.Transformation.{Transformation}
use Rattle.gb_steps.specs.declared.step.Transformation.TheVariants as transformation
use Rattle.gb_trans.specs.Beside.{beside_answer}
use Rattle.gb_inline.specs.Rows as transformations
use Rattle.gb_steps.specs.declared.step.AbstractRule.{AbstractRule}
use Rattle.gb_steps.specs.declared.step.AmbientRule.{AmbientRule}
use Rattle.gb_steps.specs.declared.step.RewriteRule.{RewriteRule}
use Rattle.gb_steps.specs.declared.step.UseRule.{UseRule}
use Rattle.gb_loops.specs.While.{while_row}
use Rattle.gb_steps.specs.declared.step.BodyRule.{BodyRule}
use Rattle.gb_steps.specs.declared.step.Invariant.{Invariant}
use Rattle.gb_steps.specs.declared.step.RelationalRule.{RelationalRule}
use Rattle.gb_steps.specs.declared.step.RelationalRule.TheVariants as on_both
use Rattle.gb_equiv.specs.Rows as equiv
use Rattle.gb_goal.specs.Answers.Answer.{given, refused}
use Rattle.gb_elab_mod.specs.Steps.{step_given}
use Rattle.gb_smt.specs.Leaves.{leaves_of}
use Rattle.gb_smt.specs.Apply.{IsResult}
use Rattle.gb_amb.specs.Steps.{IsAnswer, Returns}
use Rattle.gb_linear.specs.Closing.{linear_answer}
use Rattle.gb_amb.specs.Uses as uses
use Rattle.gb_adv.specs.Rows.{abstract_row}
use Rattle.gb_call_both.specs.Known as known_calls
use Rattle.gb_sim.specs.Sim as same_statements
use Rattle.gb_rewrite.specs.Rewriting.{rewrite_answer}
use Rattle.gb_theory.specs.Built.{Session, OpenProof, with_goals, seen_in}
use Rattle.gb_theory.specs.Combinators.{Stepping, works}
use Rattle.gb_theory.specs.Commands.{After, allowed, entered, Applied, AreRules, OnBoth, RuleAnswers, continued, on_guard, transformed, WorksOn}
use Rattle.gb_theory.specs.Sessions.{Meets, IsDue}
use Rattle.gb_theory.proofs.Answered.{gives_meets}

of_smt : (ds : Declarations) (known : List Term) (place : Place) (q : Sequent) (result : Result (List Sequent) Refused)
    → IsResult ds (leaves_of known q) place result → Meets (λ (x : List Sequent). x) (Applied ds (rule.Smt known) place q) result
of_smt ds known place q (Ok qs) h = (None, h.answer, ap given h.none)
of_smt ds known place q (Err NoMemory) h = tt
of_smt ds known place q (Err ReadFault) h = h
of_smt ds known place q (Err (Script why at)) h = (Some why, h.answer, ap (refused why) h.at_step)

-- what `smt` gives is what is applied
pub smt_meets : (ds : Declarations) (r : Rule) (known : List Term) (place : Place) (q : Sequent) (result : Result (List Sequent) Refused)
    → r ≡ rule.Smt known → IsResult ds (leaves_of known q) place result → Meets (λ (x : List Sequent). x) (Applied ds r place q) result
smt_meets ds r known place q result is h =
    subst (λ x. Meets (λ (y : List Sequent). y) (Applied ds x place q) result) (sym is) (of_smt ds known place q result h)

-- what is returned as one of the wanted answers
returned : (P : Answer (List Sequent) → Type 0) (result : Result (List Sequent) Refused) → Returns P result → Meets (λ (x : List Sequent). x) P result
returned P (Ok qs) h = h
returned P (Err NoMemory) h = h
returned P (Err ReadFault) h = h
returned P (Err (Script why at)) h = h

-- what a step on a conclusion gives is what is applied
pub ambient_meets : (ds : Declarations) (r : Rule) (b : AmbientRule) (place : Place) (q : Sequent) (result : Result (List Sequent) Refused)
    → r ≡ rule.Ambient b → Returns (IsAnswer b place q) result → Meets (λ (x : List Sequent). x) (Applied ds r place q) result
ambient_meets ds r b place q result is h =
    subst (λ x. Meets (λ (y : List Sequent). y) (Applied ds x place q) result) (sym is) (returned (IsAnswer b place q) result h)

-- what a step that uses a form gives is what is applied
pub use_meets : (ds : Declarations) (r : Rule) (b : UseRule) (place : Place) (q : Sequent) (result : Result (List Sequent) Refused)
    → r ≡ rule.Use b → Returns (uses.IsAnswer b place q) result → Meets (λ (x : List Sequent). x) (Applied ds r place q) result
use_meets ds r b place q result is h =
    subst (λ x. Meets (λ (y : List Sequent). y) (Applied ds x place q) result) (sym is) (returned (uses.IsAnswer b place q) result h)

-- what `call` by what is known gives is what is applied
pub known_meets : (ds : Declarations) (r : Rule) (a : Acts) (f : Term) (place : Place) (q : Sequent) (result : Result (List Sequent) Refused)
    → r ≡ rule.CallKnown a f → Returns (known_calls.IsAnswer ds a f place q) result → Meets (λ (x : List Sequent). x) (Applied ds r place q) result
known_meets ds r a f place q result is h =
    subst (λ x. Meets (λ (y : List Sequent). y) (Applied ds x place q) result) (sym is) (returned (known_calls.IsAnswer ds a f place q) result h)

-- what a row gives is what is applied
pub body_meets : (ds : Declarations) (r : Rule) (b : BodyRule) (place : Place) (q : Sequent) (result : Result (List Sequent) Refused)
    → r ≡ rule.OnBodies b → Answers (entered ds b place q) result → Meets (λ (x : List Sequent). x) (Applied ds r place q) result
body_meets ds r b place q result is h =
    subst (λ x. Meets (λ (y : List Sequent). y) (Applied ds x place q) result) (sym is)
    (gives_meets (λ (x : List Sequent). x) (Applied ds (rule.OnBodies b) place q) (entered ds b place q) result h (λ x e. e))

pub while_meets : (ds : Declarations) (r : Rule) (v : Invariant) (place : Place) (q : Sequent) (result : Result (List Sequent) Refused)
    → r ≡ rule.While v → Answers (stepped (while_row ds v.acts v.kept) place q) result → Meets (λ (x : List Sequent). x) (Applied ds r place q) result
while_meets ds r v place q result is h =
    subst (λ x. Meets (λ (y : List Sequent). y) (Applied ds x place q) result) (sym is)
    (gives_meets (λ (x : List Sequent). x) (Applied ds (rule.While v) place q) (stepped (while_row ds v.acts v.kept) place q) result h (λ x e. e))

-- what a rule on procedures of abstract modules gives is what is applied
pub abstract_meets : (ds : Declarations) (r : Rule) (b : AbstractRule) (place : Place) (q : Sequent) (result : Result (List Sequent) Refused)
    → r ≡ rule.Abstract b → Answers (stepped (abstract_row ds b) place q) result → Meets (λ (x : List Sequent). x) (Applied ds r place q) result
abstract_meets ds r b place q result is h =
    subst (λ x. Meets (λ (y : List Sequent). y) (Applied ds x place q) result) (sym is)
    (gives_meets (λ (x : List Sequent). x) (Applied ds (rule.Abstract b) place q) (stepped (abstract_row ds b) place q) result h (λ x e. e))

pub both_meets : (ds : Declarations) (r : Rule) (b : RelationalRule) (place : Place) (q : Sequent) (result : Result (List Sequent) Refused)
    → r ≡ rule.Relational b → (b ≡ on_both.Sim → ⊥) → Answers (stepped (equiv.rule_row ds r) place q) result → Meets (λ (x : List Sequent). x) (Applied ds r place q) result
both_meets ds r b place q result is other h =
    subst (λ x. Meets (λ (y : List Sequent). y) (Applied ds x place q) result) (sym is)
    (of_rule b other (subst (λ x. Answers (stepped (equiv.rule_row ds x) place q) result) is h))
  where
    of_rule : (b : RelationalRule) → (b ≡ on_both.Sim → ⊥) → Answers (stepped (equiv.rule_row ds (rule.Relational b)) place q) result →
        Meets (λ (y : List Sequent). y) (Applied ds (rule.Relational b) place q) result
    of_rule on_both.Sim n k = absurd (n refl)
    of_rule (on_both.Rnd fs) n k =
        gives_meets (λ (x : List Sequent). x) (OnBoth ds (on_both.Rnd fs) place q) (stepped (equiv.rule_row ds (rule.Relational (on_both.Rnd fs))) place q) result k (λ x e. e)
    of_rule on_both.Symmetry n k =
        gives_meets (λ (x : List Sequent). x) (OnBoth ds on_both.Symmetry place q) (stepped (equiv.rule_row ds (rule.Relational on_both.Symmetry)) place q) result k (λ x e. e)
    of_rule (on_both.Drawn a) n k =
        gives_meets (λ (x : List Sequent). x) (OnBoth ds (on_both.Drawn a) place q) (stepped (equiv.rule_row ds (rule.Relational (on_both.Drawn a))) place q) result k (λ x e. e)
    of_rule (on_both.Transitivity t) n k =
        gives_meets (λ (x : List Sequent). x) (OnBoth ds (on_both.Transitivity t) place q) (stepped (equiv.rule_row ds (rule.Relational (on_both.Transitivity t))) place q) result k
        (λ x e. e)

-- what the rule on the same statements gives is what is applied
pub same_meets : (ds : Declarations) (r : Rule) (b : RelationalRule) (place : Place) (q : Sequent) (result : Result (List Sequent) Refused)
    → r ≡ rule.Relational b → b ≡ on_both.Sim → Returns (same_statements.IsAnswer ds place q) result → Meets (λ (x : List Sequent). x) (Applied ds r place q) result
same_meets ds r b place q result is sim h =
    subst (λ x. Meets (λ (y : List Sequent). y) (Applied ds x place q) result) (sym (is ∙ ap rule.Relational sim)) (returned (same_statements.IsAnswer ds place q) result h)

-- what a rule that puts other statements into a program gives is what is applied
pub programs_meet : (ds : Declarations) (r : Rule) (a : Acts) (k : Transformation) (place : Place) (q : Sequent) (result : Result (List Sequent) Refused)
    → r ≡ rule.Transform a k → Answers (transformed ds a k place q) result → Meets (λ (x : List Sequent). x) (Applied ds r place q) result
programs_meet ds r a k place q result is h =
    subst (λ x. Meets (λ (y : List Sequent). y) (Applied ds x place q) result) (sym is)
    (gives_meets (λ (x : List Sequent). x) (Applied ds (rule.Transform a k) place q) (transformed ds a k place q) result h (λ x e. e))

-- a rule on a guard, on one program and on one of two
pub guard_answers : (ds : Declarations) (r : Rule) (a : Acts) (n : ℕ) (t : Bool) (place : Place) (q : Sequent) (result : Result (List Sequent) Refused)
    → r ≡ rule.Transform a (transformation.Decided n t) → a ≡ acts.All → Answers (stepped (transformations.rule_row ds r) place q) result → Answers (on_guard ds a n t place q) result
guard_answers ds r a n t place q result is all h =
    subst (λ a. Answers (on_guard ds a n t place q) result) (sym all)
    (subst (λ r. Answers (stepped (transformations.rule_row ds r) place q) result) (is ∙ ap (λ a. rule.Transform a (transformation.Decided n t)) all) h)

pub beside_answers : (ds : Declarations) (a : Acts) (n : ℕ) (t : Bool) (place : Place) (q : Sequent) (result : Result (List Sequent) Refused)
    → (a ≡ acts.All → ⊥) → Answers (beside_answer ds n t a place q) result → Answers (on_guard ds a n t place q) result
beside_answers ds acts.All n t place q result other h = absurd (other refl)
beside_answers ds acts.Left n t place q result other h = h
beside_answers ds acts.Right n t place q result other h = h

-- what a transformation of other rows gives
pub row_answers : (ds : Declarations) (r : Rule) (a : Acts) (k : Transformation) (place : Place) (q : Sequent) (result : Result (List Sequent) Refused)
    → r ≡ rule.Transform a k → ((n : ℕ) (t : Bool) → k ≡ transformation.Decided n t → ⊥) → Answers (stepped (transformations.rule_row ds r) place q) result
    → Answers (transformed ds a k place q) result
row_answers ds r a k place q result is other h =
    of_rule k other (subst (λ x. Answers (stepped (transformations.rule_row ds x) place q) result) is h)
  where
    of_rule : (k : Transformation) → ((n : ℕ) (t : Bool) → k ≡ transformation.Decided n t → ⊥) → Answers (stepped (transformations.rule_row ds (rule.Transform a k)) place q) result →
        Answers (transformed ds a k place q) result
    of_rule (transformation.Decided n t) f w = absurd (f n t refl)
    of_rule (transformation.Swap p) f w = w
    of_rule (transformation.Kill n) f w = w
    of_rule (transformation.Unroll n) f w = w
    of_rule (transformation.Inline x) f w = w

-- what multiples of hypotheses give is what is applied
pub linear_meets : (ds : Declarations) (r : Rule) (ms : List Multiple) (place : Place) (q : Sequent) (result : Result (List Sequent) Refused)
    → r ≡ rule.Linear ms → Answers (linear_answer ms place q) result → Meets (λ (x : List Sequent). x) (Applied ds r place q) result
linear_meets ds r ms place q result is h =
    subst (λ x. Meets (λ (y : List Sequent). y) (Applied ds x place q) result) (sym is)
    (gives_meets (λ (x : List Sequent). x) (Applied ds (rule.Linear ms) place q) (linear_answer ms place q) result h (λ x e. e))

-- what a rule that puts equals for equals gives is what is applied
pub rewrite_meets : (ds : Declarations) (r : Rule) (b : RewriteRule) (place : Place) (q : Sequent) (result : Result (List Sequent) Refused)
    → r ≡ rule.Rewrite b → Answers (rewrite_answer ds b place q) result → Meets (λ (x : List Sequent). x) (Applied ds r place q) result
rewrite_meets ds r b place q result is h =
    subst (λ x. Meets (λ (y : List Sequent). y) (Applied ds x place q) result) (sym is)
    (gives_meets (λ (x : List Sequent). x) (Applied ds (rule.Rewrite b) place q) (rewrite_answer ds b place q) result h (λ x e. e))

-- what goes on from an answer that is given
after_given : {X Y : Type 0} (P : X → Answer Y → Type 0) (a : Answer X) (x : X) (r : Answer Y) → a ≡ given x → P x r → After a P r
after_given P a x r e h = subst (λ y. After y P r) (sym e) h

-- what a typed step at a goal comes to
abbrev Ruled : Declarations → Sequent → Step → Answer (List Sequent) → Type 0
Ruled ds q step x = (y : Answer (List Sequent)) × Applied ds step.rule step.place q y × (x ≡ (y >>= allowed step.place))

-- the subgoals of a rule, each within its limits
pub subgoals_meet : (ds : Declarations) (t : Node) (q : Sequent) (step : Step) (qs : List Sequent) (r : Result (List Sequent) Refused)
    → step_given ds q t ≡ given step → Applied ds step.rule step.place q (given qs) → Answers (allowed step.place qs) r → Meets (λ (x : List Sequent). x) (RuleAnswers ds t q) r
subgoals_meet ds t q step qs r typed applied h =
    gives_meets (λ (x : List Sequent). x) (RuleAnswers ds t q) (allowed step.place qs) r h
    (λ x e. after_given (Ruled ds q) (step_given ds q t) step x typed (given qs, applied, e))

-- where one answer is due, what meets it is that answer
pub one_is_met : (P : Answer (List Sequent) → Type 0) (a : Answer (List Sequent)) (r : Result (List Sequent) Refused)
    → ((x y : Answer (List Sequent)) → P x → P y → x ≡ y) → P a → Meets (λ (x : List Sequent). x) P r → Answers a r
one_is_met P a (Ok qs) one h m = one a (given qs) h m
one_is_met P a (Err NoMemory) one h m = tt
one_is_met P a (Err ReadFault) one h m = m
one_is_met P a (Err (Script why at)) one h m = one a (refused why at) h m

-- the session in which these goals stand in front of the others
abbrev goes_on : Session → OpenProof → List Sequent → List Sequent → Session
goes_on s p rest qs = with_goals s p (qs ++ rest)

-- the first goal, and the others
first_and_rest : (goals : List Sequent) (q : Sequent) → slice_get goals 0 ≡ Some q → goals ≡ q ∷ drop 1 goals
first_and_rest [] q e = absurd (cc)
first_and_rest (g ∷ gs) q e = cc

-- what becomes of the first goal and the others, in each proof whose steps see these declarations
module _ (ds : Declarations) (goals : List Sequent) (q : Sequent) (t : Node) (place : Place) (first : slice_get goals 0 ≡ Some q) (f : Node → Stepping) (rules : AreRules ds f) where
  pub next_meets : (qs : List Sequent) (r : Result (List Sequent) Refused) → works ds f t (q ∷ []) ≡ given qs
      → ((s : Session) (p : OpenProof) → Gives (goes_on s p (drop 1 goals)) (continued s p (drop 1 goals) place qs) r)
      → (s : Session) (p : OpenProof) → seen_in s.scope p.claim ≡ ds → Meets (goes_on s p (drop 1 goals)) (WorksOn goals s p t place) r
  next_meets qs r worked h s p is =
      let seen = subst (λ d. works d f t (q ∷ []) ≡ given qs) (sym is) worked in
      subst (λ (gs : List Sequent). Meets (goes_on s p (drop 1 goals)) (WorksOn gs s p t place) r) (sym (first_and_rest goals q first))
      (gives_meets (goes_on s p (drop 1 goals)) (WorksOn (q ∷ drop 1 goals) s p t place) (continued s p (drop 1 goals) place qs) r (h s p)
      (λ x e. (f, subst (λ d. AreRules d f) (sym is) rules, e ∙ sym (ap (λ (a : Answer (List Sequent)). a >>= continued s p (drop 1 goals) place) seen))))

  pub next_fails : (e : Refused) → Fails (works ds f t (q ∷ [])) e → (s : Session) (p : OpenProof) → seen_in s.scope p.claim ≡ ds → IsDue (WorksOn goals s p t place) e
  next_fails NoMemory h s p is = tt
  next_fails ReadFault h s p is = h
  next_fails (Script why at) h s p is =
      let seen = subst (λ d. Fails (works d f t (q ∷ [])) (Script why at)) (sym is) h in
      subst (λ (gs : List Sequent). WorksOn gs s p t place (refused why at)) (sym (first_and_rest goals q first))
      (f, subst (λ d. AreRules d f) (sym is) rules, sym (ap (λ (a : Answer (List Sequent)). a >>= continued s p (drop 1 goals) place) seen))
