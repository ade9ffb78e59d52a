-- What is written in a session that is typed line by line.
use Rattle.std.specs.Prelude.{◌≡◌, ℕ, zero, suc, Bool, true, false, not, nat_lt, ◌&&◌, if◌then◌else◌, List, ◌++◌, length, take, drop, codes}
use Rattle.std.specs.Fmt.{decimal}
use Rattle.gb_core.specs.declared.place.Place.{Place}
use Rattle.gb_core.specs.Refusal.{code_of}
use Rattle.gb_core.specs.declared.refusal.Why.TheVariants as why
use Rattle.gb_lex.specs.Lex.{cut_of}
use Rattle.gb_lex.specs.declared.token.Cut.{Cut}
use Rattle.gb_lex.specs.declared.token.Cut.TheVariants.{Command, Rest, End}
use Rattle.gb_lex.specs.PlaceAfter.{place_after}
use Rattle.gb_goal.specs.Answers.{Answer}
use Rattle.gb_goal.specs.Answers.Answer.{given, refused}
use Rattle.gb_theory.specs.Outcome.{start}
use Rattle.gb_session.specs.History.{History, fresh_history}
use Rattle.gb_session.specs.Commands.{EntryLeads}
use Rattle.gb_session.specs.Screen.{screen_of}
use Rattle.gb_app.specs.Report.{refused_line}

-- the name of standard input
abbrev pub input_name : List ℕ
input_name = codes "-"

-- what is written behind a line: the screen, or the refusal
abbrev pub told : Answer History → List ℕ
told (given h) = screen_of h.present
told (refused why place) = refused_line input_name (code_of why) place

-- the session behind a line: one that is refused leaves it as it was
abbrev pub behind : History → Answer History → History
behind h (given next) = next
behind h (refused why place) = h

-- `kept N`
abbrev pub kept_line : ℕ → List ℕ
kept_line count = codes "kept " ++ decimal count ++ codes "\n"

-- A cut of a text of this size. Where the input goes on behind the text, a line counts only if a byte of the text stands behind it.
abbrev pub counted : Bool → ℕ → Cut → Cut
counted goes_on size (Command to) = if goes_on && not (nat_lt to size) then Rest else Command to
counted goes_on size c = c

-- where the next line of a text ends
abbrev pub line_of : Bool → List ℕ → Cut
line_of goes_on rest = counted goes_on (length rest) (cut_of rest 0)

-- what is written where an input is too long
abbrev pub length_line : List ℕ
length_line = refused_line input_name (code_of why.Length) start

-- what is written for a rest without a final dot, which ends at this place
abbrev pub unclosed_line : Place → List ℕ
unclosed_line place = refused_line input_name (code_of why.Unclosed) place

-- what is written where no line is left: an input that goes on is too long, a rest without a final dot is refused
abbrev pub Closes : Bool → Cut → History → Place → List ℕ → List ℕ → Type 0
Closes goes_on (Command to) h at rest out = ⊥
Closes true c h at rest out = out ≡ length_line
Closes false End h at rest out = out ≡ kept_line (length h.earlier)
Closes false Rest h at rest out = out ≡ unclosed_line (place_after at rest) ++ kept_line (length h.earlier)

-- what is written for the rest of a text where a line of so many bytes is cut off, and for what stands behind it
abbrev pub Tells : Cut → (History → Place → List ℕ → List ℕ → Type 0) → History → Place → List ℕ → List ℕ → Type 0
Tells (Command to) P h at rest out =
    (r : Answer History) × EntryLeads h (take to rest) at r
    × ((more : List ℕ) × P (behind h r) (place_after at (take to rest)) (drop to rest) more × (out ≡ told r ++ more))
Tells End P h at rest out = ⊥
Tells Rest P h at rest out = ⊥

-- what is written for the rest of a text that holds so many lines
abbrev pub Writes : ℕ → Bool → History → Place → List ℕ → List ℕ → Type 0
Writes zero goes_on h at rest out = Closes goes_on (line_of goes_on rest) h at rest out
Writes (suc n) goes_on h at rest out = Tells (line_of goes_on rest) (Writes n goes_on) h at rest out

-- an input has 1,048,576 bytes at most
abbrev pub is_long : List ℕ → Bool
is_long input = nat_lt 1048576 (length input)

-- what is written for an input behind so many of its bytes, where this session stands there at this place
abbrev pub IsTail : History → Place → ℕ → List ℕ → List ℕ → Type 0
IsTail h at from input out = (n : ℕ) × Writes n (is_long input) h at (drop from (take 1048576 input)) out

-- What is written for an input: for each of its lines the screen behind it or its refusal, and then the closing lines.
abbrev pub AreScreens : List ℕ → List ℕ → Type 0
AreScreens input out = IsTail (fresh_history input_name true) start 0 input out
