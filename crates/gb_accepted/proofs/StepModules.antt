-- Each step leads to goals over the same modules.
use Rattle.std.proofs.Common.{◌≡◌, inl, inr, ℕ, Bool, true, false, if◌then◌else◌, List, [], ◌∷◌, map, Option, Some, None, refl, sym, ◌∙◌, subst}
use Rattle.gb_core.specs.declared.place.Place.{Place}
use Rattle.gb_core.specs.declared.refusal.Why.{Why}
use Rattle.gb_core.specs.declared.refusal.Why.TheVariants.{Argument, Shape}
use Rattle.gb_terms.specs.declared.term.Instr.{out-Instr}
use Rattle.gb_terms.specs.declared.term.Term.{Term}
use Rattle.gb_goal.specs.Answers.{Answer, placed_at}
use Rattle.gb_goal.specs.Answers.Answer.{given, refused}
use Rattle.gb_goal.specs.Goal.{Goal, goal_of}
use Rattle.gb_goal.specs.Rows.{Row, concluding, each_concluding, refusing, stepped}
use Rattle.gb_goal.specs.Scope.{Declarations}
use Rattle.gb_goal.specs.declared.sequent.Sequent.{Sequent}
use Rattle.gb_steps.specs.declared.step.Acts.{Acts}
use Rattle.gb_steps.specs.declared.step.Acts.TheVariants as on
use Rattle.gb_steps.specs.declared.step.BodyRule.{BodyRule}
use Rattle.gb_steps.specs.declared.step.Multiple.{Multiple}
use Rattle.gb_steps.specs.declared.step.RelationalRule.{RelationalRule}
use Rattle.gb_steps.specs.declared.step.RelationalRule.TheVariants as on_both
use Rattle.gb_steps.specs.declared.step.Rule.{Rule}
use Rattle.gb_steps.specs.declared.step.Rule.TheVariants as rule
use Rattle.gb_steps.specs.declared.step.Transformation.{Transformation}
use Rattle.gb_steps.specs.declared.step.Transformation.TheVariants as transformation
use Rattle.gb_typing.proofs.Given.{refused_at, refused_given, same_given}
use Rattle.gb_bodies.specs.Rows as bodies
use Rattle.gb_prog.specs.OneBody.{OneBody}
use Rattle.gb_trans.specs.Places.{At, on_place, statement_at}
use Rattle.gb_trans.specs.Decided.{Decision, decision}
use Rattle.gb_call_both.specs.OneSide.{speaks}
use Rattle.gb_call_both.specs.Known.{behind, behind_first, by_conditions}
use Rattle.gb_call_both.specs.Known as of_known
use Rattle.gb_amb.specs.Quantified.{goal_quantifies_modules}
use Rattle.gb_trans.specs.Beside.{at_place, beside_answer, by_decision, on_body, one_of_two}
use Rattle.gb_sim.specs.Sim as same_statements
use Rattle.gb_linear.specs.Closing.{linear_answer}
use Rattle.gb_closing_laws.proofs.LinearIsSound.{closes}
use Rattle.gb_elab_laws.proofs.Given.{given_bind}
use Rattle.gb_theory.specs.Commands.{Applied, OnBoth, closed_unless, entered, entering, on_guard, row_of, transformed}
use Rattle.gb_accepted.proofs.SameModules.{HaveSameModules, conclusions_same, equals_same, none_same, uses_same}

module _ (q : Sequent) where
  abbrev Same : List Sequent → Type 0
  Same qs = HaveSameModules q qs

  -- Rows.

  goals_same : (Gs : List Goal) → Same (map (concluding q) Gs)
  goals_same [] = tt
  goals_same (G ∷ Gs) = (refl, goals_same Gs)

  placed_same : (a : Answer (List Goal)) (place : Place) (qs : List Sequent) → given qs ≡ placed_at place (each_concluding q a) → Same qs
  placed_same (given Gs) place qs e = subst Same (sym (same_given qs (map (concluding q) Gs) e)) (goals_same Gs)
  placed_same (refused w p) place qs e = refused_at w _ qs (sym e)

  row_same : (row : Row) (place : Place) (qs : List Sequent) → given qs ≡ stepped row place q → Same qs
  row_same row place qs e = placed_same (row (goal_of q.conclusion)) place qs e

  -- Calls by what is known.

  behind_same : (qs : List Sequent) → Same qs → Same (behind qs)
  behind_same [] k = tt
  behind_same (p ∷ qs) k = k.1

  rest_same : (row : Row) (place : Place) (qs : List Sequent) → given qs ≡ behind_first (stepped row place q) → Same qs
  rest_same row place qs e = step (stepped row place q) refl e
    where
      step : (a : Answer (List Sequent)) → stepped row place q ≡ a → given qs ≡ behind_first a → Same qs
      step (given ps) u e = subst Same (sym (same_given qs (behind ps) e)) (behind_same ps (row_same row place ps (sym u)))
      step (refused w p) u e = refused_at w p qs (sym e)

  known_same : (ds : Declarations) (a : Acts) (f : Term) (place : Place) (qs : List Sequent) → of_known.IsAnswer ds a f place q (given qs) → Same qs
  known_same ds a f place qs (inl (k, e)) = rest_same (by_conditions ds a (goal_of f)) place qs e
  known_same ds a f place qs (inr (k, e)) = refused_at Shape place qs (sym e)

  -- A guard on one of two programs.

  decided_same : (ds : Declarations) (b : Bool) (o : OneBody) (k : At) (d : Option Decision) (qs : List Sequent) → by_decision ds b q o k d ≡ given qs → Same qs
  decided_same ds b o k None qs e = refused_given Shape qs e
  decided_same ds b o k (Some d) qs e = subst Same (same_given _ qs e) (refl, (refl, tt))

  statement_same : (ds : Declarations) (b : Bool) (o : OneBody) (k : Option At) (qs : List Sequent) → on_place (λ k. by_decision ds b q o k (decision b k.statement (out-Instr k.statement))) k ≡ given qs → Same qs
  statement_same ds b o None qs e = refused_given Argument qs e
  statement_same ds b o (Some k) qs e = decided_same ds b o k (decision b k.statement (out-Instr k.statement)) qs e

  body_same : (ds : Declarations) (n : ℕ) (b : Bool) (o : Option OneBody) (qs : List Sequent) → on_body ds n b q o ≡ given qs → Same qs
  body_same ds n b None qs e = refused_given Shape qs e
  body_same ds n b (Some o) qs e = step (speaks o.pre) e
    where
      step : (z : Bool) → (if z then refusing Shape else at_place ds n b q o) ≡ given qs → Same qs
      step true e = refused_given Shape qs e
      step false e = statement_same ds b o (statement_at n o.list) qs e

  beside_same : (ds : Declarations) (n : ℕ) (b : Bool) (a : Acts) (place : Place) (qs : List Sequent) → given qs ≡ beside_answer ds n b a place q → Same qs
  beside_same ds n b a place qs e = by_test (goal_quantifies_modules q) e
    where
      answer : Answer (List Sequent)
      answer = on_body ds n b q (one_of_two a (goal_of q.conclusion))

      by_answer : (x : Answer (List Sequent)) → answer ≡ x → given qs ≡ placed_at place x → Same qs
      by_answer (given ps) u e = body_same ds n b (one_of_two a (goal_of q.conclusion)) qs (u ∙ sym e)
      by_answer (refused w p) u e = refused_at w _ qs (sym e)

      by_test : (z : Bool) → given qs ≡ (if z then refused Shape place else placed_at place answer) → Same qs
      by_test true e = refused_at Shape place qs (sym e)
      by_test false e = by_answer answer refl e

  -- Steps that close goals.

  closed_same : (found : Option Why) (place : Place) (qs : List Sequent) → given qs ≡ closed_unless found place → Same qs
  closed_same None place qs e = none_same q qs e
  closed_same (Some w) place qs e = refused_at w place qs (sym e)

  linear_same : (ms : List Multiple) (place : Place) (qs : List Sequent) → given qs ≡ linear_answer ms place q → Same qs
  linear_same ms place qs e = subst Same (closes ms place q qs (sym e)) tt

  -- Steps on programs.

  module _ (ds : Declarations) where
    entered_same : (r : BodyRule) (place : Place) (qs : List Sequent) → given qs ≡ entered ds r place q → Same qs
    entered_same r place qs e =
        let k = given_bind (entering ds r place (goal_of q.conclusion)) (λ _. stepped (bodies.rule_row ds (rule.OnBodies r)) place q) qs (sym e) in
        row_same (bodies.rule_row ds (rule.OnBodies r)) place qs (sym k.2)

    statements_same : (place : Place) (qs : List Sequent) → same_statements.IsAnswer ds place q (given qs) → Same qs
    statements_same place qs (inl (k, e)) = row_same (same_statements.sim_row ds) place qs e
    statements_same place qs (inr (k, e)) = refused_at Shape place qs (sym e)

    both_same : (r : RelationalRule) (place : Place) (qs : List Sequent) → OnBoth ds r place q (given qs) → Same qs
    both_same on_both.Sim place qs k = statements_same place qs k
    both_same (on_both.Rnd fs) place qs e = row_same (row_of ds (rule.Relational (on_both.Rnd fs))) place qs e
    both_same on_both.Symmetry place qs e = row_same (row_of ds (rule.Relational on_both.Symmetry)) place qs e
    both_same (on_both.Drawn a) place qs e = row_same (row_of ds (rule.Relational (on_both.Drawn a))) place qs e
    both_same (on_both.Transitivity b) place qs e = row_same (row_of ds (rule.Relational (on_both.Transitivity b))) place qs e

    guard_same : (a : Acts) (n : ℕ) (b : Bool) (place : Place) (qs : List Sequent) → given qs ≡ on_guard ds a n b place q → Same qs
    guard_same on.All n b place qs e = row_same (row_of ds (rule.Transform on.All (transformation.Decided n b))) place qs e
    guard_same on.Left n b place qs e = beside_same ds n b on.Left place qs e
    guard_same on.Right n b place qs e = beside_same ds n b on.Right place qs e

    transformed_same : (a : Acts) (k : Transformation) (place : Place) (qs : List Sequent) → given qs ≡ transformed ds a k place q → Same qs
    transformed_same a (transformation.Decided n b) place qs e = guard_same a n b place qs e
    transformed_same a (transformation.Swap w) place qs e = row_same (row_of ds (rule.Transform a (transformation.Swap w))) place qs e
    transformed_same a (transformation.Kill n) place qs e = row_same (row_of ds (rule.Transform a (transformation.Kill n))) place qs e
    transformed_same a (transformation.Unroll n) place qs e = row_same (row_of ds (rule.Transform a (transformation.Unroll n))) place qs e
    transformed_same a (transformation.Inline w) place qs e = row_same (row_of ds (rule.Transform a (transformation.Inline w))) place qs e

    pub applied_same : (r : Rule) (place : Place) (qs : List Sequent) → Applied ds r place q (given qs) → Same qs
    applied_same (rule.Smt known) place qs k = closed_same k.0 place qs k.2
    applied_same (rule.Ambient r) place qs k = conclusions_same q r place qs k
    applied_same (rule.Linear ms) place qs e = linear_same ms place qs e
    applied_same (rule.Use r) place qs k = uses_same q r place qs k
    applied_same (rule.CallKnown a f) place qs k = known_same ds a f place qs k
    applied_same (rule.Rewrite r) place qs e = equals_same q ds r place qs e
    applied_same (rule.OnBodies r) place qs e = entered_same r place qs e
    applied_same (rule.Relational r) place qs k = both_same r place qs k
    applied_same (rule.Transform a k) place qs e = transformed_same a k place qs e
    applied_same (rule.While v) place qs e = row_same (row_of ds (rule.While v)) place qs e
    applied_same (rule.Chance r) place qs e = row_same (row_of ds (rule.Chance r)) place qs e
    applied_same (rule.Probability r) place qs e = row_same (row_of ds (rule.Probability r)) place qs e
    applied_same (rule.Abstract r) place qs e = row_same (row_of ds (rule.Abstract r)) place qs e
    applied_same (rule.Call s) place qs e = row_same (row_of ds (rule.Call s)) place qs e
