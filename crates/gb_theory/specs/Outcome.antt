-- What a script comes to: its commands are run in their order, up to the first refusal.
use Rattle.std.specs.Prelude.{◌≡◌, ◌⊎◌, ℕ, zero, suc, List, take, drop, Option, Some, None}
use Rattle.gb_core.specs.declared.place.Place.{Place}
use Rattle.gb_core.specs.declared.refusal.Refused.TheVariants.{Script}
use Rattle.gb_core.specs.declared.refusal.Why.TheVariants.{Unclosed}
use Rattle.gb_lex.specs.Lex.{tokens_of, fault_of, IsCharacterFault, cut_of}
use Rattle.gb_lex.specs.declared.token.Cut.{Cut}
use Rattle.gb_lex.specs.declared.token.Cut.TheVariants as cut
use Rattle.gb_lex.specs.PlaceAfter.{place_after}
use Rattle.gb_script.specs.declared.tree.Node.{Node}
use Rattle.gb_language.specs.declared.rows.TheConstants.{COMMAND}
use Rattle.gb_limits.specs.Lexeme.{text_at}
use Rattle.gb_read_script.specs.Reading.{SpellsCommand, IsRefusal, IsAllowed}
use Rattle.gb_goal.specs.Answers.{Answer}
use Rattle.gb_goal.specs.Answers.Answer.{given, refused}
use Rattle.gb_theory.specs.Built.{Session, OpenProof, fresh_session}
use Rattle.gb_theory.specs.Commands.{After, ComesTo}

-- what a piece of a text is read as: a command that passes no limit, or the first refusal of it
abbrev pub IsReadAs : List ℕ → Place → Answer Node → Type 0
IsReadAs piece at (given c) =
    (fault_of piece ≡ None) × SpellsCommand (text_at piece at (tokens_of piece)) c × IsAllowed COMMAND (text_at piece at (tokens_of piece))
IsReadAs piece at (refused why place) =
    IsCharacterFault piece at (Script why place)
    ⊎ ((fault_of piece ≡ None) × IsRefusal COMMAND (text_at piece at (tokens_of piece)) why place)

-- the end of a script: no proof is open, or it is refused as not closed
abbrev pub IsEnd : Session → Option OpenProof → Place → Answer Session → Type 0
IsEnd s None place r = r ≡ given s
IsEnd s (Some p) place r = r ≡ refused Unclosed place

-- what the rest of a text comes to where no command is left
abbrev pub Ends : Cut → Session → Place → List ℕ → Answer Session → Type 0
Ends (cut.Command to) s at rest r = ⊥
Ends cut.End s at rest r = IsEnd s s.proof (place_after at rest) r
Ends cut.Rest s at rest r = r ≡ refused Unclosed (place_after at rest)

-- what a piece of a text comes to
abbrev pub RunsTo : Session → Answer Node → Answer Session → Type 0
RunsTo s x r = After x (ComesTo s) r

-- what the rest of a text comes to where a command of so many bytes is cut off, and the others go on from there
abbrev pub Goes : Cut → (Session → Place → List ℕ → Answer Session → Type 0) → Session → Place → List ℕ → Answer Session → Type 0
Goes (cut.Command to) P s at rest r =
    (x : Answer Node) × IsReadAs (take to rest) at x
    × ((y : Answer Session) × RunsTo s x y × After y (λ next. P next (place_after at (take to rest)) (drop to rest)) r)
Goes cut.End P s at rest r = ⊥
Goes cut.Rest P s at rest r = ⊥

-- what the rest of a text comes to, in so many commands
abbrev pub RunsIn : ℕ → Session → Place → List ℕ → Answer Session → Type 0
RunsIn zero s at rest r = Ends (cut_of rest 0) s at rest r
RunsIn (suc n) s at rest r = Goes (cut_of rest 0) (RunsIn n) s at rest r

-- the first byte of the file
abbrev pub start : Place
start = record { file = 0; line = 1; col = 1 }

-- What a script comes to: the session after its last command, or the first refusal.
abbrev pub IsOutcome : List ℕ → Answer Session → Type 0
IsOutcome text r = (n : ℕ) × RunsIn n fresh_session start text r
