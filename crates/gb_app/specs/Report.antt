-- The report on a verdict.
use Rattle.std.specs.Prelude.{ℕ, ◌++◌, List, [], ◌∷◌, length, map, codes, nat_lt, if◌then◌else◌}
use Rattle.std.specs.List.{concat}
use Rattle.std.specs.Fmt.{decimal}
use Rattle.gb_core.specs.declared.place.Place.{Place}
use Rattle.gb_core.specs.Refusal.{code_of}
use Rattle.gb_state.specs.declared.verdict.Verdict.{Verdict}
use Rattle.gb_state.specs.declared.verdict.Verdict.TheVariants.{Accepted, Refused}

-- a number in at least two digits
abbrev pub two_digits : ℕ → List ℕ
two_digits n = if nat_lt n 10 then 48 ∷ decimal n else decimal n

-- `lemma NAME`
abbrev pub lemma_line : List ℕ → List ℕ
lemma_line name = codes "lemma " ++ name ++ codes "\n"

-- `accepted N`
abbrev pub accepted_line : ℕ → List ℕ
accepted_line count = codes "accepted " ++ decimal count ++ codes "\n"

-- `refused CODE FILE LINE COL`
abbrev pub refused_line : List ℕ → ℕ → Place → List ℕ
refused_line file code place =
    codes "refused E" ++ two_digits code ++ codes " " ++ file ++ codes " " ++ decimal place.line ++ codes " "
    ++ decimal place.col ++ codes "\n"

-- the lemmas in the order of their proofs, and how many they are
abbrev pub accepted_lines : List (List ℕ) → List (List ℕ)
accepted_lines lemmas = map lemma_line lemmas ++ (accepted_line (length lemmas) ∷ [])

-- the lines of the report on a file
abbrev pub lines_of : List ℕ → Verdict → List (List ℕ)
lines_of file (Accepted lemmas) = accepted_lines lemmas
lines_of file (Refused why place) = refused_line file (code_of why) place ∷ []

-- the last one of them
abbrev pub last_line : List ℕ → Verdict → List ℕ
last_line file (Accepted lemmas) = accepted_line (length lemmas)
last_line file (Refused why place) = refused_line file (code_of why) place

-- the bytes of the report
abbrev pub report_of : List ℕ → Verdict → List ℕ
report_of file verdict = concat (lines_of file verdict)
