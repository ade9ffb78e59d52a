-- The tokens of a text, and where its commands end.
use Rattle.std.specs.Prelude.{ℕ, ◌+◌, ◌≡◌, ◌≤◌, ◌<◌, Bool, true, false, ◌&&◌, List, [], ◌∷◌, Option, Some, None, drop, take, if◌then◌else◌}
use Rattle.gb_core.specs.declared.place.Place.{Place}
use Rattle.gb_core.specs.declared.refusal.Refused.{Refused}
use Rattle.gb_core.specs.declared.refusal.Refused.TheVariants.{Script}
use Rattle.gb_core.specs.declared.refusal.Why.TheVariants.{Character}
use Rattle.gb_lex.specs.declared.token.Kind.TheVariants.{Word, Number, Symbol, Final}
use Rattle.gb_lex.specs.declared.token.Token.{Token}
use Rattle.gb_lex.specs.declared.token.What.{What}
use Rattle.gb_lex.specs.declared.token.What.TheVariants.{Blank, Unclosed, Token as IsToken, Faulty}
use Rattle.gb_lex.specs.declared.token.Piece.{Piece}
use Rattle.gb_lex.specs.declared.token.Cut.{Cut}
use Rattle.gb_lex.specs.declared.token.Cut.TheVariants.{Command, Rest, End}
use Rattle.gb_lex.specs.Piece.{pieces_of}
use Rattle.gb_lex.specs.PlaceAfter.{place_after}

-- the token that a piece is, if it is one, before other tokens
abbrev pub with_token : What → ℕ → ℕ → List Token → List Token
with_token (IsToken kind) from to later = record { kind = kind; from = from; to = to } ∷ later
with_token Blank from to later = later
with_token Unclosed from to later = later
with_token Faulty from to later = later

-- the tokens among pieces, of which the first begins at the offset `at`
abbrev pub tokens_among : ℕ → List Piece → List Token
tokens_among at [] = []
tokens_among at (p ∷ rest) = with_token p.what at (at + p.size) (tokens_among (at + p.size) rest)

-- this piece's offset if it is faulty, else a later one
abbrev pub or_fault : What → ℕ → Option ℕ → Option ℕ
or_fault Faulty at later = Some at
or_fault Blank at later = later
or_fault Unclosed at later = later
or_fault (IsToken kind) at later = later

-- the offset of the first byte that starts no token
abbrev pub fault_among : ℕ → List Piece → Option ℕ
fault_among at [] = None
fault_among at (p ∷ rest) = or_fault p.what at (fault_among (at + p.size) rest)

-- the tokens of a text
abbrev pub tokens_of : List ℕ → List Token
tokens_of text = tokens_among 0 (pieces_of text)

-- the offset of the first byte outside comments that starts no token
abbrev pub fault_of : List ℕ → Option ℕ
fault_of text = fault_among 0 (pieces_of text)

abbrev pub is_final : What → Bool
is_final (IsToken Final) = true
is_final (IsToken Word) = false
is_final (IsToken Number) = false
is_final (IsToken Symbol) = false
is_final Blank = false
is_final Unclosed = false
is_final Faulty = false

abbrev pub is_blank : What → Bool
is_blank Blank = true
is_blank Unclosed = false
is_blank (IsToken kind) = false
is_blank Faulty = false

-- the end of the first final dot
abbrev pub final_among : ℕ → List Piece → Option ℕ
final_among at [] = None
final_among at (p ∷ rest) =
    (if is_final p.what then Some (at + p.size) else final_among (at + p.size) rest)

-- only white space and closed comments
abbrev pub are_blank : List Piece → Bool
are_blank [] = true
are_blank (p ∷ rest) = is_blank p.what && are_blank rest

-- a cut at the final dot; without one, the end where all is blank
abbrev pub cut_at : Option ℕ → Bool → Cut
cut_at (Some to) blank = Command to
cut_at None true = End
cut_at None false = Rest

-- where the command of a text that begins at the offset `from` ends
abbrev pub cut_of : List ℕ → ℕ → Cut
cut_of text from =
    cut_at (final_among from (pieces_of (drop from text))) (are_blank (pieces_of (drop from text)))

-- the refusal of the first byte that starts no token, with its place in a text that begins at `at`
abbrev pub IsCharacterFault : List ℕ → Place → Refused → Type 0
IsCharacterFault text at e =
    (offset : ℕ) × (fault_of text ≡ Some offset)
    × (e ≡ Script Character (place_after at (take offset text)))

-- tokens in order, from the offset `at` on, each of a byte at least, that end by `end`
abbrev pub AreSpans : ℕ → List Token → ℕ → Type 0
AreSpans at [] end = at ≤ end
AreSpans at (t ∷ rest) end = (at ≤ t.from) × (t.from < t.to) × AreSpans t.to rest end
