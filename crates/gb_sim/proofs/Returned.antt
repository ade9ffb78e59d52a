-- What the code returned is the answer of `sim`.
use Rattle.std.proofs.Common.{◌≡◌, inl, List, sym, subst}
use Rattle.std.specs.Prelude.{Result, Ok, Err}
use Rattle.gb_core.specs.declared.place.Place.{Place}
use Rattle.gb_core.specs.declared.refusal.Refused.{Refused}
use Rattle.gb_core.specs.declared.refusal.Refused.TheVariants.{NoMemory, ReadFault, Script}
use Rattle.gb_terms.specs.declared.term.Instr.{Instr}
use Rattle.gb_terms.specs.declared.term.Term.{Term}
use Rattle.gb_goal.specs.Answers.{Answers, placed_at}
use Rattle.gb_goal.specs.Goal.{goal_of}
use Rattle.gb_goal.specs.Goal.Code.{body}
use Rattle.gb_goal.specs.Goal.Goal.{equiv}
use Rattle.gb_goal.specs.Rows.{each_concluding, stepped}
use Rattle.gb_goal.specs.Scope.{Declarations}
use Rattle.gb_goal.specs.declared.sequent.Sequent.{Sequent}
use Rattle.gb_amb.specs.Steps.{Returns}
use Rattle.gb_sim.specs.Sim.{AreSame, IsAnswer, on_statements, sim_row}

module _ (ds : Declarations) (place : Place) (q : Sequent) where
  by_result : AreSame (goal_of q.conclusion) → (r : Result (List Sequent) Refused) → Answers (stepped (sim_row ds) place q) r → Returns (IsAnswer ds place q) r
  by_result same (Ok qs) m = inl (same, sym m)
  by_result same (Err NoMemory) m = tt
  by_result same (Err ReadFault) m = m
  by_result same (Err (Script why at)) m = inl (same, sym m)

  -- at two bodies that are the same
  pub returned : (is js : List Instr) (p h : Term) → equiv (body is) (body js) p h ≡ goal_of q.conclusion → is ≡ js → (r : Result (List Sequent) Refused) →
      Answers (placed_at place (each_concluding q (on_statements ds is p h))) r → Returns (IsAnswer ds place q) r
  returned is js p h e same r m = by_result (subst AreSame e same) r (subst (λ G. Answers (placed_at place (each_concluding q (sim_row ds G))) r) e m)
