-- `sim` has one answer at each goal.
use Rattle.std.proofs.Common.{◌≡◌, inl, inr, true, List, [], refl, ap, sym, ◌∙◌}
use Rattle.gb_core.specs.declared.place.Place.{Place}
use Rattle.gb_core.specs.declared.refusal.Why.TheVariants.{Shape}
use Rattle.gb_terms.specs.declared.term.Instr.{Instr}
use Rattle.gb_terms.specs.Make.{truth_literal}
use Rattle.gb_meaning.proofs.SameTerms.{same_terms}
use Rattle.gb_goal.specs.Answers.{Answer}
use Rattle.gb_goal.specs.Answers.Answer.{refused}
use Rattle.gb_goal.specs.Goal.{Goal, form_of, goal_of}
use Rattle.gb_goal.specs.Goal.Code.{body, procedure}
use Rattle.gb_goal.specs.Goal.Goal.{hoare, phoare, equiv, ambient}
use Rattle.gb_goal.specs.Rows.{stepped}
use Rattle.gb_goal.specs.Scope.{Declarations}
use Rattle.gb_goal.specs.declared.sequent.Sequent.{Sequent}
use Rattle.gb_typing.proofs.Shapes.{form_goal}
use Rattle.gb_sim.specs.Sim.{AreSame, IsAnswer, sim_row}

-- Bodies are told apart by the judgments that speak of them.
of_body : List Instr → Goal
of_body is = hoare (body is) (truth_literal true) (truth_literal true)

body_in : Goal → List Instr
body_in (hoare (body is) p q) = is
body_in G = []

there_and_back : (is : List Instr) → body_in (goal_of (form_of (of_body is))) ≡ is
unfolding of_body body_in
there_and_back is = ap body_in (form_goal (of_body is) tt)

bodies : (is js : List Instr) → Dec (is ≡ js)
bodies is js = by_forms (same_terms (form_of (of_body is)) (form_of (of_body js)))
  where
    by_forms : Dec (form_of (of_body is) ≡ form_of (of_body js)) → Dec (is ≡ js)
    by_forms (yes e) = yes (sym (there_and_back is) ∙ ap (λ f. body_in (goal_of f)) e ∙ there_and_back js)
    by_forms (no n) = no (λ e. n (ap (λ ks. form_of (of_body ks)) e))

same_or_not : (G : Goal) → Dec (AreSame G)
same_or_not (equiv (body is) (body js) p q) = bodies is js
same_or_not (equiv (body is) (procedure b) p q) = no (λ o. o)
same_or_not (equiv (procedure a) d p q) = no (λ o. o)
same_or_not (hoare c p q) = no (λ o. o)
same_or_not (phoare c r p q b) = no (λ o. o)
same_or_not (ambient f) = no (λ o. o)

module _ (ds : Declarations) (place : Place) (q : Sequent) where
  pub some_answer : (x : Answer (List Sequent)) × IsAnswer ds place q x
  some_answer = by_test (same_or_not (goal_of q.conclusion))
    where
      by_test : Dec (AreSame (goal_of q.conclusion)) → (x : Answer (List Sequent)) × IsAnswer ds place q x
      by_test (yes o) = (stepped (sim_row ds) place q, inl (o, refl))
      by_test (no n) = (refused Shape place, inr (n, refl))

  pub one_answer : (x y : Answer (List Sequent)) → IsAnswer ds place q x → IsAnswer ds place q y → x ≡ y
  one_answer x y (inl h) (inl k) = h.1 ∙ sym k.1
  one_answer x y (inl h) (inr k) = absurd (k.0 h.0)
  one_answer x y (inr h) (inl k) = absurd (h.0 k.0)
  one_answer x y (inr h) (inr k) = h.1 ∙ sym k.1
