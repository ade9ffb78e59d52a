-- Each step leads from a typed goal whose names are names to such goals.
use Rattle.std.proofs.Common.{◌≡◌, ℕ, pos, Bool, true, false, not, if◌then◌else◌, List, [], Option, Some, None, refl, sym, subst}
use Rattle.std.specs.List.{AllByRecursion}
use Rattle.gb_core.specs.declared.place.Place.{Place}
use Rattle.gb_core.specs.declared.refusal.Why.{Why}
use Rattle.gb_core.specs.declared.refusal.Why.TheVariants as why
use Rattle.gb_goal.specs.Answers.{Answer, given_or, nowhere, placed_at}
use Rattle.gb_goal.specs.Answers.Answer.{given, refused}
use Rattle.gb_goal.specs.Goal.{goal_of}
use Rattle.gb_goal.specs.Rows.{Row, stepped}
use Rattle.gb_goal.specs.Scope as scope
use Rattle.gb_goal.specs.declared.sequent.Sequent.{Sequent}
use Rattle.gb_meaning.specs.Declared.{Declarations}
use Rattle.gb_steps.specs.declared.step.Acts.{Acts}
use Rattle.gb_steps.specs.declared.step.Acts.TheVariants as acts
use Rattle.gb_steps.specs.declared.step.BodyRule.{BodyRule}
use Rattle.gb_steps.specs.declared.step.Multiple.{Multiple}
use Rattle.gb_steps.specs.declared.step.RelationalRule.{RelationalRule}
use Rattle.gb_steps.specs.declared.step.RelationalRule.TheVariants as relational
use Rattle.gb_steps.specs.declared.step.Rule.{Rule}
use Rattle.gb_steps.specs.declared.step.Rule.TheVariants as rule
use Rattle.gb_steps.specs.declared.step.Transformation.{Transformation}
use Rattle.gb_steps.specs.declared.step.Transformation.TheVariants as transformation
use Rattle.gb_typing.specs.Scopes.{context_of}
use Rattle.gb_typing.specs.Sequents.{IsTypedSequent}
use Rattle.gb_typing.proofs.Given.{refused_at, same_given}
use Rattle.gb_bodies.specs.Rows as bodies
use Rattle.gb_linear.specs.Closing.{compared, all_assumed, allowed, rest, is_closed, closed_by, closed_with, closing, linear_answer}
use Rattle.gb_linear.specs.Forms.{is_constant}
use Rattle.gb_linear.specs.declared.forms.LinearForm.{LinearForm}
use Rattle.gb_theory.specs.Commands.{closed_unless, entering, entered, OnBoth, on_guard, transformed, Applied}
use Rattle.gb_print_names.specs.declared.bound_names.Enumeration.{Enumeration}
use Rattle.gb_shown.specs.Named.{IsNamedSequent}
use Rattle.gb_shown.specs.Rules.{AreNamedArguments, AreNamedGlobals, AreNamedOperators, AreNamedProcedures, IsNamedRelational, IsNamedRule, KeepsNames}
use Rattle.gb_shown.proofs.AbstractCalls.{abstract_keep}
use Rattle.gb_shown.proofs.Conclusions.{conclusions_keep}
use Rattle.gb_shown.proofs.Programs.{given_bind, programs_keep}
use Rattle.gb_shown.proofs.Rows.{stepped_keep}
use Rattle.gb_shown.proofs.Uses.{uses_keep}
use Rattle.gb_shown.proofs.BothCalls.{call_keeps, known_calls_keep}
use Rattle.gb_shown.proofs.Chances.{chances_keep}
use Rattle.gb_shown.proofs.Loops.{while_keeps}
use Rattle.gb_shown.proofs.Probabilities.{probabilities_keep}
use Rattle.gb_shown.proofs.Relational.{relational_keep}
use Rattle.gb_shown.proofs.Rewriting.{rewriting_kept}
use Rattle.gb_shown.proofs.Beside.{beside_keeps}
use Rattle.gb_shown.proofs.Transformations.{transformations_keep}
use Rattle.gb_shown.proofs.Sim.{sim_keeps}

-- What closes a goal leaves none.

none_closed : (equal : Bool) (r : LinearForm) (qs : List Sequent) → closed_by equal r ≡ given qs → [] ≡ qs
none_closed equal r qs e = step (is_closed equal r) e
  where
    step : (b : Bool) → (if b then given [] else refused (why.NotLinear r.constant.0 (pos r.constant.1) (not (is_constant r))) nowhere) ≡ given qs → [] ≡ qs
    step true e = same_given [] qs e
    step false e = refused_at _ nowhere qs e

none_left : (ms : List Multiple) (q : Sequent) (qs : List Sequent) → closing ms q ≡ given qs → [] ≡ qs
unfolding closing
none_left ms q qs e =
    let c = given_bind (given_or (compared q.conclusion) why.Shape nowhere) _ qs e in
    let hs = given_bind (given_or (all_assumed c.0.equal q.hyps ms) why.Shape nowhere) (closed_with c.0) qs c.2 in
    let a = given_bind (allowed hs.0) _ qs hs.2 in
    let r = given_bind (rest c.0 hs.0) (closed_by c.0.equal) qs a.2 in
    none_closed c.0.equal r.0 qs r.2

module _ (es : List Enumeration) (ds : scope.Declarations) (globals : AreNamedGlobals ds) (procedures : AreNamedProcedures es ds) (operators : AreNamedOperators es ds) where
  module _ (d : Declarations) (q : Sequent) (t : IsTypedSequent (context_of d) q) (n : IsNamedSequent es q) where
    abbrev Keeps : List Sequent → Type 0
    Keeps qs = AllByRecursion (IsNamedSequent es) qs

    by_row : (row : Row) → KeepsNames es row → (place : Place) (qs : List Sequent) → given qs ≡ stepped row place q → Keeps qs
    by_row row k place qs e = stepped_keep es row k q n place qs (sym e)

    closed_keeps : (found : Option Why) (place : Place) (qs : List Sequent) → given qs ≡ closed_unless found place → Keeps qs
    closed_keeps None place qs e = subst Keeps (sym (same_given qs [] e)) tt
    closed_keeps (Some w) place qs e = refused_at w place qs (sym e)

    linear_keeps : (ms : List Multiple) (place : Place) (qs : List Sequent) → given qs ≡ linear_answer ms place q → Keeps qs
    linear_keeps ms place qs e = step (closing ms q) refl (sym e)
      where
        step : (a : Answer (List Sequent)) → closing ms q ≡ a → placed_at place a ≡ given qs → Keeps qs
        step (given rs) h e = subst Keeps (same_given rs qs e) (subst Keeps (none_left ms q rs h) tt)
        step (refused w p) h e = refused_at w _ qs e

    entered_keeps : (r : BodyRule) → IsNamedRule es r → (place : Place) (qs : List Sequent) → given qs ≡ entered ds r place q → Keeps qs
    entered_keeps r w place qs e =
        let k = given_bind (entering ds r place (goal_of q.conclusion)) (λ _. stepped (bodies.rule_row ds (rule.OnBodies r)) place q) qs (sym e) in
        stepped_keep es (bodies.rule_row ds (rule.OnBodies r)) (programs_keep es ds procedures r w) q n place qs k.2

    both_keep : (r : RelationalRule) → IsNamedRelational es r → (place : Place) (qs : List Sequent) → OnBoth ds r place q (given qs) → Keeps qs
    both_keep relational.Sim w place qs k = sim_keeps es ds procedures q n place qs k
    both_keep (relational.Rnd fs) w place qs e = by_row _ (relational_keep es ds (relational.Rnd fs) w) place qs e
    both_keep relational.Symmetry w place qs e = by_row _ (relational_keep es ds relational.Symmetry w) place qs e
    both_keep (relational.Drawn a) w place qs e = by_row _ (relational_keep es ds (relational.Drawn a) w) place qs e
    both_keep (relational.Transitivity b) w place qs e = by_row _ (relational_keep es ds (relational.Transitivity b) w) place qs e

    guard_keeps : (a : Acts) (i : ℕ) (b : Bool) (place : Place) (qs : List Sequent) → given qs ≡ on_guard ds a i b place q → Keeps qs
    guard_keeps acts.All i b place qs e = by_row _ (transformations_keep es ds procedures acts.All (transformation.Decided i b)) place qs e
    guard_keeps acts.Left i b place qs e = beside_keeps es ds q n i b acts.Left place qs (sym e)
    guard_keeps acts.Right i b place qs e = beside_keeps es ds q n i b acts.Right place qs (sym e)

    transformed_keeps : (a : Acts) (k : Transformation) (place : Place) (qs : List Sequent) → given qs ≡ transformed ds a k place q → Keeps qs
    transformed_keeps a (transformation.Decided i b) place qs e = guard_keeps a i b place qs e
    transformed_keeps a (transformation.Swap p) place qs e = by_row _ (transformations_keep es ds procedures a (transformation.Swap p)) place qs e
    transformed_keeps a (transformation.Kill i) place qs e = by_row _ (transformations_keep es ds procedures a (transformation.Kill i)) place qs e
    transformed_keeps a (transformation.Unroll i) place qs e = by_row _ (transformations_keep es ds procedures a (transformation.Unroll i)) place qs e
    transformed_keeps a (transformation.Inline w) place qs e = by_row _ (transformations_keep es ds procedures a (transformation.Inline w)) place qs e

    pub applied_keep : (r : Rule) → AreNamedArguments es r → (place : Place) (qs : List Sequent) → Applied ds r place q (given qs) → Keeps qs
    applied_keep (rule.Smt known) w place qs k = closed_keeps k.0 place qs k.2
    applied_keep (rule.Ambient r) w place qs k = conclusions_keep es d q t n r w place qs k
    applied_keep (rule.Linear ms) w place qs e = linear_keeps ms place qs e
    applied_keep (rule.Use r) w place qs k = uses_keep es q n r w place qs k
    applied_keep (rule.Abstract r) w place qs e = by_row _ (abstract_keep es ds globals procedures r w) place qs e
    applied_keep (rule.CallKnown a f) w place qs k = known_calls_keep es ds globals procedures a f w q n place qs k
    applied_keep (rule.Rewrite r) w place qs e = rewriting_kept es q n ds operators r w place qs (sym e)
    applied_keep (rule.OnBodies r) w place qs e = entered_keeps r w place qs e
    applied_keep (rule.Relational r) w place qs k = both_keep r w place qs k
    applied_keep (rule.Transform a k) w place qs e = transformed_keeps a k place qs e
    applied_keep (rule.While v) w place qs e = by_row _ (while_keeps es ds v.acts v.kept w) place qs e
    applied_keep (rule.Chance r) w place qs e = by_row _ (chances_keep es ds r) place qs e
    applied_keep (rule.Probability r) w place qs e = by_row _ (probabilities_keep es ds r w) place qs e
    applied_keep (rule.Call s) w place qs e = by_row _ (call_keeps es ds globals procedures s w) place qs e
