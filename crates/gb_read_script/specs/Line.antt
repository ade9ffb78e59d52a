-- The lines of a text.
use Rattle.std.specs.Prelude.{List, [], ◌∷◌, nat_eq, map, if◌then◌else◌}
use Rattle.gb_core.specs.declared.place.Place.{Place}
use Rattle.gb_script.specs.declared.text.Lexeme.{Lexeme}
use Rattle.gb_script.specs.declared.text.Text.{Text}
use Rattle.gb_read_script.specs.declared.line.Line.{Line}

-- a line of one token
abbrev pub line_of : Lexeme → Place → Line
line_of l end = record { tokens = l ∷ []; start = l.place; end = end }

-- A token before lines: on the first of them where it stands there, else on a line of its own.
abbrev pub before : Lexeme → Place → List Line → List Line
before l end [] = line_of l end ∷ []
before l end (m ∷ ms) =
    if nat_eq l.place.line m.start.line
    then record { tokens = l ∷ m.tokens; start = l.place; end = m.end } ∷ ms
    else line_of l m.start ∷ m ∷ ms

-- the lines of these tokens, which end at a place, and of those behind them
abbrev pub lines_before : Place → List Lexeme → List Line → List Line
lines_before end [] lines = lines
lines_before end (l ∷ ls) lines = before l end (lines_before end ls lines)

-- a line as a text of its own, which ends where the next line begins
abbrev pub text_of : Line → Text
text_of l = record { lexemes = l.tokens; end = l.end }

-- the lines of a text, without those that are blank
abbrev pub line_texts : Text → List Text
line_texts t = map text_of (lines_before t.end t.lexemes [])
