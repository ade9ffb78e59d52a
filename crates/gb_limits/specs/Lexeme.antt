-- From tokens to lexemes.
use Rattle.std.specs.Prelude.{ℕ, Bool, ◌==◌, ◌&&◌, ◌||◌, List, [], ◌∷◌, Option, Some, None, length, map, nat_eq, nat_le, slice_index, slice_range, take, unwrap_or, if◌then◌else◌}
use Rattle.std.specs.List.{starts_with}
use Rattle.std.specs.Str.Lossy.{utf8_lossy}
use Rattle.gb_core.specs.declared.place.Place.{Place}
use Rattle.gb_lex.specs.declared.token.Kind.{Kind}
use Rattle.gb_lex.specs.declared.token.Kind.TheVariants.{Word, Number, Symbol, Final as FinalDot}
use Rattle.gb_lex.specs.declared.token.Token.{Token}
use Rattle.gb_lex.specs.PlaceAfter.{place_after}
use Rattle.gb_script.specs.declared.terminal.Terminal.{Terminal}
use Rattle.gb_script.specs.declared.terminal.Terminal.TheVariants.{Final, Name, Other, Number as NumberTerminal}
use Rattle.gb_limits.specs.declared.spelling.Spelling.{Spelling}
use Rattle.gb_limits.specs.declared.spelling.TheConstants.{WIDTH, SPELLINGS}
use Rattle.gb_script.specs.declared.text.Lexeme.{Lexeme}
use Rattle.gb_script.specs.declared.text.Text.{Text}
use Rattle.gb_limits.specs.Kinds.{kind_of}

-- These bytes, filled up with spaces, are the text of a spelling.
unfoldable pub spells : List ℕ → List ℕ → Bool
spells text bytes = starts_with nat_eq text bytes && (nat_le WIDTH (length bytes) || slice_index text (length bytes) == 32)

-- the terminal of the spelling that these bytes are
abbrev pub spelled_in : List Spelling → List ℕ → Option Terminal
spelled_in [] bytes = None
spelled_in (s ∷ ss) bytes = if spells s.text bytes then Some s.terminal else spelled_in ss bytes

-- the terminal of a token
abbrev pub terminal_of : Kind → List ℕ → Terminal
terminal_of Word bytes = unwrap_or (spelled_in SPELLINGS bytes) Name
terminal_of Number bytes = unwrap_or (spelled_in SPELLINGS bytes) NumberTerminal
terminal_of Symbol bytes = unwrap_or (spelled_in SPELLINGS bytes) Other
terminal_of FinalDot bytes = Final

abbrev pub bytes_of : List ℕ → Token → List ℕ
bytes_of text t = slice_range text t.from t.to

-- a token of a text, at this place
abbrev pub placed : List ℕ → Token → Place → Lexeme
placed text t place = record { terminal = terminal_of t.kind (bytes_of text t); name = utf8_lossy (bytes_of text t); place = place }

-- a token of a text that begins at a place
abbrev pub lexeme_of : List ℕ → Place → Token → Lexeme
lexeme_of text at t = placed text t (place_after at (take t.from text))

-- the tokens of a text that begins at a place
abbrev pub text_at : List ℕ → Place → List Token → Text
text_at text at tokens = record { lexemes = map (lexeme_of text at) tokens; end = place_after at text }

-- the kinds of token of a text
abbrev pub kinds_of : Text → List ℕ
kinds_of t = map (λ (l : Lexeme). kind_of l.terminal) t.lexemes
