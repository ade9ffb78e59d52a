-- What the code returned is an answer of `call` by what is known.
use Rattle.std.proofs.Common.{◌≡◌, inl, List, sym, subst}
use Rattle.std.specs.Prelude.{Result, Ok, Err}
use Rattle.gb_core.specs.declared.place.Place.{Place}
use Rattle.gb_core.specs.declared.refusal.Refused.{Refused}
use Rattle.gb_core.specs.declared.refusal.Refused.TheVariants.{NoMemory, ReadFault, Script}
use Rattle.gb_terms.specs.declared.term.Term.{Term}
use Rattle.gb_steps.specs.declared.step.Acts.{Acts}
use Rattle.gb_goal.specs.Answers.{Answer, Answers}
use Rattle.gb_goal.specs.Answers.Answer.{given, refused}
use Rattle.gb_goal.specs.Goal.{Goal, goal_of}
use Rattle.gb_goal.specs.Rows.{stepped}
use Rattle.gb_goal.specs.Scope.{Declarations}
use Rattle.gb_goal.specs.declared.sequent.Sequent.{Sequent}
use Rattle.gb_amb.specs.Steps.{Returns}
use Rattle.gb_call_both.specs.Known.{IsAnswer, IsOfCalls, behind_first, by_conditions}

-- where a judgment seen so is one of the called procedures
pub returned : (ds : Declarations) (a : Acts) (f : Term) (place : Place) (q : Sequent) (K G : Goal) → K ≡ goal_of f → G ≡ goal_of q.conclusion → IsOfCalls a K G →
    (r : Result (List Sequent) Refused) → Answers (behind_first (stepped (by_conditions ds a K) place q)) r → Returns (IsAnswer ds a f place q) r
returned ds a f place q K G e i o r h = by_result r (subst (λ K. Answers (behind_first (stepped (by_conditions ds a K) place q)) r) e h)
  where
    there : IsOfCalls a (goal_of f) (goal_of q.conclusion)
    there = subst (λ x. x) (λ j. IsOfCalls a (e j) (i j)) o

    by_result : (r : Result (List Sequent) Refused) → Answers (behind_first (stepped (by_conditions ds a (goal_of f)) place q)) r → Returns (IsAnswer ds a f place q) r
    by_result (Ok qs) m = inl (there, sym m)
    by_result (Err NoMemory) m = tt
    by_result (Err ReadFault) m = m
    by_result (Err (Script why at)) m = inl (there, sym m)
