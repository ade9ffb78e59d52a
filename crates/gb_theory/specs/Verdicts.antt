-- Which verdict is due on a text.
use Rattle.std.specs.Prelude.{◌≡◌, ℕ, List}
use Rattle.gb_goal.specs.Answers.{Answer}
use Rattle.gb_goal.specs.Answers.Answer.{given, refused}
use Rattle.gb_theory.specs.Built.{Session}
use Rattle.gb_core.specs.declared.place.Place.{Place}
use Rattle.gb_script.specs.declared.tree.Node.{Node}
use Rattle.gb_theory.specs.Outcome.{IsReadAs, RunsTo, IsOutcome}
use Rattle.gb_state.specs.declared.verdict.Verdict.{Verdict}
use Rattle.gb_state.specs.declared.verdict.Verdict.TheVariants.{Accepted, Refused}

-- what a piece of a text comes to: it is read and run
abbrev pub PieceRunsTo : Session → List ℕ → Place → Answer Session → Type 0
PieceRunsTo s piece at r = (x : Answer Node) × IsReadAs piece at x × RunsTo s x r

-- the lemmas of the last session, or the first refusal
abbrev pub verdict_of : Answer Session → Verdict
verdict_of (given s) = Accepted s.lemmas
verdict_of (refused why place) = Refused why place

-- The verdict is that of what the text comes to.
abbrev pub IsVerdict : List ℕ → Verdict → Type 0
IsVerdict text v = (r : Answer Session) × IsOutcome text r × (v ≡ verdict_of r)
