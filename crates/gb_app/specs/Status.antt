-- How a run ends.
use Rattle.std.specs.Prelude.{◌≡◌, ◌⊎◌, ℕ}
use Rattle.gb_app.specs.declared.status.Status.{Status}
use Rattle.gb_app.specs.declared.status.Status.TheVariants as status
use Rattle.gb_state.specs.declared.verdict.Verdict.{Verdict}
use Rattle.gb_state.specs.declared.verdict.Verdict.TheVariants as verdict

-- the exit status of the process
abbrev pub exit_of : Status → ℕ
exit_of status.Accepted = 0
exit_of status.Refused = 1
exit_of status.Usage = 2
exit_of status.Missing = 3
exit_of status.ReadFault = 4
exit_of status.WriteFault = 5
exit_of status.NoMemory = 6

-- the status of a run that reports this verdict
abbrev pub status_of : Verdict → Status
status_of (verdict.Accepted lemmas) = status.Accepted
status_of (verdict.Refused why place) = status.Refused

-- a run that has to end with a status does so, but for faults and want of memory
abbrev pub EndsBy : Status → Status → Type 0
EndsBy wanted s = (s ≡ wanted) ⊎ (s ≡ status.ReadFault) ⊎ (s ≡ status.WriteFault) ⊎ (s ≡ status.NoMemory)
