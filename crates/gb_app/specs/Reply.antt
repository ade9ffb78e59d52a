-- What a run may write.
use Rattle.std.specs.Prelude.{◌≡◌, ℕ, List, Option, Some, None, codes}
use Rattle.gb_state.specs.declared.verdict.Verdict.{Verdict}
use Rattle.gb_app.specs.Checked.{Held, IsVerdictFor}
use Rattle.gb_app.specs.Report.{report_of}

abbrev pub usage_line : List ℕ
usage_line = codes "usage: gb check FILE | gb step | gb selftest N\n"

-- the report of the verdict on the file of this name
abbrev pub IsReport : Held → List ℕ → List ℕ → Type 0
IsReport held file text = (verdict : Verdict) × IsVerdictFor held file verdict × (text ≡ report_of file verdict)

-- the whole text that a run writes, if nothing stops it: the usage line, or the report on the file
abbrev pub IsReply : Held → Option (List ℕ) → List ℕ → Type 0
IsReply held None text = text ≡ usage_line
IsReply held (Some file) text = IsReport held file text
