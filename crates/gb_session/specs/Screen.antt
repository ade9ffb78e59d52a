-- What a session shows.
use Rattle.std.specs.Prelude.{ℕ, List, [], ◌∷◌, ◌++◌, length, codes, Option, Some, None}
use Rattle.std.specs.Fmt.{decimal}
use Rattle.gb_goal.specs.declared.sequent.Sequent.{Sequent}
use Rattle.gb_print.specs.GoalText.{printed_goal}
use Rattle.gb_state.specs.declared.state.Claim.{Claim}
use Rattle.gb_state.specs.Opened.{in_context}
use Rattle.gb_theory.specs.Built.{OpenProof}
use Rattle.gb_session.specs.History.{Stage}
use Rattle.gb_session.specs.declared.screen.Shown.{Shown}
use Rattle.gb_session.specs.declared.screen.Shown.TheVariants.{Ready, Goals}

-- whether a proof is open, and how many goals it has left
abbrev pub shown_of : Option OpenProof → Shown
shown_of None = Ready
shown_of (Some p) = Goals (length p.goals)

-- the first goal, with the modules that the lemma binds in its context
abbrev pub first_goal : Stage → Claim → List Sequent → List ℕ
first_goal s c [] = []
first_goal s c (q ∷ qs) = printed_goal s.session.scope s.enumerations (in_context c q)

abbrev pub screen_in : Stage → Option OpenProof → List ℕ
screen_in s None = codes "ready\n"
screen_in s (Some p) = codes "goals " ++ decimal (length p.goals) ++ codes "\n" ++ first_goal s p.claim p.goals

-- `ready` outside proofs, else the number of open goals, and the first one
abbrev pub screen_of : Stage → List ℕ
screen_of s = screen_in s s.session.proof
