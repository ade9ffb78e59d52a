-- What is promised of the check of a file.
use Rattle.std.specs.Prelude.{◌≡◌, ℕ, List, Option, Some, None, Result, Ok, Err}
use Rattle.gb_core.specs.declared.refusal.Why.TheVariants as why
use Rattle.gb_outside.specs.HeldBytes.{bytes_of}
use Rattle.gb_outside.specs.Whole.{whole_of}
use Rattle.gb_outside.specs.declared.whole.ReadRefused.{ReadRefused}
use Rattle.gb_outside.specs.declared.whole.ReadRefused.TheVariants as read
use Rattle.gb_goal.specs.Answers.Answer.{given}
use Rattle.gb_theory.specs.Built.{Session}
use Rattle.gb_theory.specs.Outcome.{start, IsOutcome}
use Rattle.gb_accepted.specs.Holding.{IsPromised}
use Rattle.gb_state.specs.declared.verdict.Verdict.{Verdict}
use Rattle.gb_state.specs.declared.verdict.Verdict.TheVariants.{Accepted, Refused}
use Rattle.gb_theory.specs.Verdicts.{IsVerdict}
use Rattle.gb_app.specs.Report.{report_of}

-- files, each a name with its bytes, where it is known what they hold
abbrev pub Held : Type 0
Held = Option (List (List ℕ × List ℕ))

-- reading the file of this name gives this, but for faults and want of memory
abbrev pub IsRead : Held → List ℕ → Result (List ℕ) ReadRefused → Type 0
IsRead None file r = Unit {0}
IsRead (Some held) file r = whole_of (bytes_of file held) ≡ r

-- The verdict on what was read: that on a script, and too long a file is refused at its first byte.
abbrev pub IsVerdictOn : Result (List ℕ) ReadRefused → Verdict → Type 0
IsVerdictOn (Ok text) v = IsVerdict text v
IsVerdictOn (Err read.Length) v = v ≡ Refused why.Length start
IsVerdictOn (Err _) v = ⊥

-- the verdict on the file of this name
abbrev pub IsVerdictFor : Held → List ℕ → Verdict → Type 0
IsVerdictFor held file v = (r : Result (List ℕ) ReadRefused) × IsRead held file r × IsVerdictOn r v

-- The file of this name is accepted with this report: its text comes to a session of which all is kept that is promised, that each
-- of its lemmas holds among it; and the report names the lemmas.
pub record IsAccepted (held : Held) (file : List ℕ) (report : List ℕ) : Type 0 where
  pub text : List ℕ
  pub session : Session
  pub read : IsRead held file (Ok text)
  pub outcome : IsOutcome text (given session)
  pub promised : IsPromised session
  pub names : report ≡ report_of file (Accepted session.lemmas)
