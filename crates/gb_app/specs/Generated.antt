-- The scripts that are made from a number.
use Rattle.std.specs.Prelude.{◌≡◌, ℕ, zero, suc, ◌+◌, ◌%◌, List, [], ◌++◌, ◌∷◌, length, codes, Option}
use Rattle.std.specs.List.{concat}
use Rattle.std.specs.Fmt.{decimal}
use Rattle.std.specs.Io.KnownBytes.{Appends}
use Rattle.gb_outside.specs.Appended.{AppendsFront}
use Rattle.gb_state.specs.declared.verdict.Verdict.{Verdict}
use Rattle.gb_theory.specs.Verdicts.{IsVerdict}
use Rattle.gb_app.specs.declared.status.Status.{Status}
use Rattle.gb_app.specs.declared.status.Status.TheVariants as status
use Rattle.gb_app.specs.Status.{status_of}
use Rattle.gb_app.specs.Report.{last_line}

-- how many bits the values of a part have: 1 to 8, by turns
abbrev pub width : ℕ → ℕ
width i = i % 8 + 1

-- what the second module of a part adds: 0 or 1, by turns
abbrev pub added : ℕ → ℕ
added i = i % 2

-- `module M3 = { proc f() : bits 4 = { .. } }.`: a value is drawn, and this is returned
unfoldable pub module_pieces : List ℕ → ℕ → List ℕ → List (List ℕ)
module_pieces letter i returned =
    codes "module " ∷ letter ∷ decimal i ∷ codes " = { proc f() : bits " ∷ decimal (width i) ∷ codes " = { var x : bits "
    ∷ decimal (width i) ∷ codes "; x <$ uniform (bits " ∷ decimal (width i) ∷ codes "); return " ∷ returned ∷ codes "; } }.\n" ∷ []

abbrev pub module_line : List ℕ → ℕ → List ℕ → List ℕ
module_line letter i returned = concat (module_pieces letter i returned)

-- `x +^ 1`
unfoldable pub moved_pieces : ℕ → List (List ℕ)
moved_pieces i = codes "x +^ " ∷ decimal (added i) ∷ []

abbrev pub moved : ℕ → List ℕ
moved i = concat (moved_pieces i)

unfoldable pub lemma_pieces : ℕ → List (List ℕ)
lemma_pieces i =
    codes "lemma L" ∷ decimal i ∷ codes " : equiv [M" ∷ decimal i ∷ codes ".f ~ N" ∷ decimal i ∷ codes ".f : true ==> ={res}].\n" ∷ []

abbrev pub lemma_line : ℕ → List ℕ
lemma_line i = concat (lemma_pieces i)

unfoldable pub proof_pieces : ℕ → List (List ℕ)
proof_pieces i = codes "proof. proc. rnd (fun v => v +^ " ∷ decimal (added i) ∷ codes "). skip. smt(). qed.\n" ∷ []

abbrev pub proof_line : ℕ → List ℕ
proof_line i = concat (proof_pieces i)

-- two modules that draw a value, and a lemma that couples them
unfoldable pub part_of : ℕ → List ℕ
part_of i =
    concat (module_line (codes "M") i (codes "x") ∷ module_line (codes "N") i (moved i) ∷ lemma_line i ∷ proof_line i ∷ [])

-- script n: the first n parts
abbrev pub script_of : ℕ → List ℕ
script_of zero = []
script_of (suc n) = script_of n ++ part_of n

-- the name of its file
abbrev pub script_name : List ℕ
script_name = codes "selftest"

-- the lines that are written where the verdict on script n is this: n, its bytes, and the last line of the report
abbrev pub summary_lines : ℕ → Verdict → List (List ℕ)
summary_lines n v =
    (codes "selftest " ++ decimal n ++ codes "\n") ∷ (codes "bytes " ++ decimal (length (script_of n)) ++ codes "\n") ∷ last_line script_name v ∷ []

abbrev pub summary_of : ℕ → Verdict → List ℕ
summary_of n v = concat (summary_lines n v)

-- What a run that checks script n wrote where it ended so: the summary of its verdict; a front of it after a fault of writing; and
-- nothing where memory ran out.
abbrev pub Summarised : ℕ → Status → Option (List ℕ) → Option (List ℕ) → Type 0
Summarised n status.WriteFault old new = (v : Verdict) × IsVerdict (script_of n) v × AppendsFront old new (summary_of n v)
Summarised n status.NoMemory old new = new ≡ old
Summarised n s old new = (v : Verdict) × IsVerdict (script_of n) v × (s ≡ status_of v) × Appends old new (summary_of n v)
