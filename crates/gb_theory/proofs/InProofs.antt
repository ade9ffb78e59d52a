-- What is done in an open proof.
use Rattle.std.proofs.Common.{◌≡◌, false, List, Option, Some, option_map, sym, subst}
use Rattle.gb_core.specs.declared.refusal.Refused.{Refused}
use Rattle.gb_goal.specs.Scope.{Declarations}
use Rattle.gb_goal.specs.declared.sequent.Sequent.{Sequent}
use Rattle.gb_script.specs.declared.tree.Node.{Node}
use Rattle.gb_core.specs.declared.place.Place.{Place}
use Rattle.gb_goal.specs.Answers.{Answer}
use Rattle.gb_goal.specs.Answers.Answer.{given}
use Rattle.gb_theory.specs.Built.{Session, with_goals}
use Rattle.gb_theory.specs.Built.{OpenProof as Opened}
use Rattle.gb_theory.specs.Commands.{InProof, WorksOn}
use Rattle.gb_state.specs.declared.state.OpenProof.{OpenProof}
use Rattle.gb_state.specs.declared.state.State.{State}
use Rattle.gb_theory.specs.Sessions.{session_of, open_of, IsDue}

-- what a step does in an open proof
abbrev steps : State → Node → Place → Opened → Answer Session → Type 0
steps s t place p = WorksOn p.goals (session_of s) p t place

module _ (s : State) (p : OpenProof) (t : Node) (place : Place) (some : s.proof ≡ Some p) where
  -- the refusal of a step is that of its goals
  pub works_or_fails : (e : Refused) → IsDue (WorksOn p.goals (session_of s) (open_of p) t place) e → IsDue (InProof (session_of s).proof place (steps s t place)) e
  works_or_fails e h = subst (λ (o : Option OpenProof). IsDue (InProof (option_map open_of o) place (steps s t place)) e) (sym some) h

  -- the session in which the proof is this one, in a scope
  abbrev left_with : Declarations → OpenProof → Session
  left_with ds q = record { scope = ds; proof = Some (open_of q); lemmas = s.lemmas }

  -- the proof goes on with the goals that a step leaves, and the scope is as it was
  pub works : (next : List Sequent) (ds : Declarations) (q : OpenProof) → ds ≡ s.scope → q ≡ record p { goals = next; fresh = false }
      → WorksOn p.goals (session_of s) (open_of p) t place (given (with_goals (session_of s) (open_of p) next))
      → InProof (session_of s).proof place (steps s t place) (given (left_with ds q))
  works next ds q same is h =
      subst (λ (ds : Declarations). InProof (session_of s).proof place (steps s t place) (given (left_with ds q))) (sym same)
      (subst (λ (q : OpenProof). InProof (session_of s).proof place (steps s t place) (given (left_with s.scope q))) (sym is)
      (subst (λ (o : Option OpenProof). InProof (option_map open_of o) place (steps s t place) (given (with_goals (session_of s) (open_of p) next))) (sym some) h))
