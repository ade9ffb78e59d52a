-- The pieces that a text falls into.
use Rattle.std.specs.Prelude.{ℕ, zero, suc, ◌+◌, ◌-◌, Bool, true, false, ◌==◌, ◌&&◌, ◌||◌, List, [], ◌∷◌, length, drop, Option, Some, None, if◌then◌else◌}
use Rattle.std.specs.List.{prefix_len}
use Rattle.std.specs.Char.{is_ascii_digit}
use Rattle.gb_lex.specs.declared.token.Kind.{Kind}
use Rattle.gb_lex.specs.declared.token.Kind.TheVariants.{Word, Number, Symbol, Final}
use Rattle.gb_lex.specs.declared.token.What.TheVariants.{Blank, Unclosed, Token, Faulty}
use Rattle.gb_lex.specs.declared.token.Piece.{Piece}
use Rattle.gb_lex.specs.Byte.{is_white, is_word_start, is_word_byte}
use Rattle.gb_lex.specs.Symbol.{symbol_size}
use Rattle.gb_lex.specs.Comment.{opens_comment, comment_end}

-- a `.` before this text joins a path
abbrev pub goes_on_path : List ℕ → Bool
goes_on_path [] = false
goes_on_path (b ∷ rest) = is_word_start b

-- a `.` before this text ends a command: white space, a comment or nothing follows
abbrev pub follows_command : List ℕ → Bool
follows_command [] = true
follows_command (b ∷ rest) = is_white b || opens_comment (b ∷ rest)

abbrev pub token : Kind → ℕ → Piece
token kind size = record { what = Token kind; size = size }

-- the comment at the front of a text of `size` bytes that ends so many bytes behind its mark `(*`
abbrev pub comment : Option ℕ → ℕ → Piece
comment None size = record { what = Unclosed; size = size }
comment (Some end) size = record { what = Blank; size = end + 2 }

-- the symbol of this size, or a faulty byte where it is 0
abbrev pub symbol : ℕ → Piece
symbol zero = record { what = Faulty; size = 1 }
symbol (suc n) = token Symbol (suc n)

-- the piece at the front of a text
unfoldable pub first_piece : List ℕ → Piece
first_piece [] = record { what = Blank; size = 0 }
first_piece (b ∷ rest) =
    (if is_white b then record { what = Blank; size = 1 }
    else (if opens_comment (b ∷ rest) then comment (comment_end 1 0 0 (drop 1 rest)) (length (b ∷ rest))
    else (if is_word_start b then token Word (prefix_len is_word_byte (b ∷ rest))
    else (if is_ascii_digit b then token Number (prefix_len is_ascii_digit (b ∷ rest))
    else (if b == 46 && goes_on_path rest then token Symbol 1
    else (if b == 46 && follows_command rest then token Final 1
    else symbol (symbol_size (b ∷ rest))))))))

-- the pieces of a text without its first `n` bytes: each begins where the one before it ends
unfoldable pub pieces_after : ℕ → List ℕ → List Piece
pieces_after n [] = []
pieces_after (suc n) (b ∷ rest) = pieces_after n rest
pieces_after zero (b ∷ rest) =
    first_piece (b ∷ rest) ∷ pieces_after ((first_piece (b ∷ rest)).size - 1) rest

-- the pieces of a text
abbrev pub pieces_of : List ℕ → List Piece
pieces_of text = pieces_after 0 text
