-- What a session shows, wherever its lines have led to.
use Rattle.std.specs.Prelude.{ℕ, Bool, List, [], ◌∷◌, Option, Some, None}
use Rattle.gb_core.specs.declared.place.Place.{Place}
use Rattle.gb_goal.specs.Answers.Answer.{given}
use Rattle.gb_goal.specs.declared.sequent.Sequent.{Sequent}
use Rattle.gb_print.specs.GoalText.{place_of_goal, printed_goal}
use Rattle.gb_print.specs.Goals.{IsGoalReadAs}
use Rattle.gb_state.specs.declared.state.Claim.{Claim}
use Rattle.gb_state.specs.Opened.{in_context}
use Rattle.gb_theory.specs.Built.{OpenProof}
use Rattle.gb_session.specs.Commands.{EntryLeads, TextLeads}
use Rattle.gb_session.specs.History.{Stage, History, fresh_history}

-- a session that lines or commands lead to, from before the first one
pub data IsReached : History → Type 0 where
  begun : (file : List ℕ) (keeps : Bool) → IsReached (fresh_history file keeps)
  entered : {h next : History} (text : List ℕ) (at : Place) → IsReached h → EntryLeads h text at (given next) → IsReached next
  run : {h next : History} (text : List ℕ) (at : Place) → IsReached h → TextLeads h text at (given next) → IsReached next

-- a goal is read as it is from what is printed of it
abbrev pub IsGoalReadBack : Stage → Sequent → Type 0
IsGoalReadBack s q = IsGoalReadAs (printed_goal s.session.scope s.enumerations q) (place_of_goal s.session.scope s.enumerations q) q

-- the first of these goals is, with the modules in its context that the lemma binds
abbrev pub IsFirstReadBack : Stage → Claim → List Sequent → Type 0
IsFirstReadBack s c [] = Unit {0}
IsFirstReadBack s c (q ∷ qs) = IsGoalReadBack s (in_context c q)

abbrev pub IsReadBackIn : Stage → Option OpenProof → Type 0
IsReadBackIn s None = Unit {0}
IsReadBackIn s (Some p) = IsFirstReadBack s p.claim p.goals

-- the goal that is shown, if one is, is read back as it is
abbrev pub IsReadBack : Stage → Type 0
IsReadBack s = IsReadBackIn s s.session.proof
