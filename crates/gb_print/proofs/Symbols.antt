-- Symbols and words of the language in front of what follows.
use Rattle.std.specs.Prelude.{ℕ, ◌≡◌, true, false, nat_eq, List, [], ◌∷◌, ◌++◌, codes}
use Rattle.std.proofs.Common.{refl}
use Rattle.gb_lex.specs.declared.token.Kind.TheVariants.{Symbol}
use Rattle.gb_lex.specs.Byte.{is_word_start}
use Rattle.gb_lex.specs.Symbol.{symbol_size}
use Rattle.gb_lex.specs.Piece.{token, first_piece}
use Rattle.gb_limits.specs.Kinds.{kind_of}
use Rattle.gb_limits.specs.LeftOut.{is_word_of}
use Rattle.gb_limits.specs.Lexeme.{spells}
use Rattle.gb_script.specs.declared.terminal.Terminal.TheVariants as terminal
use Rattle.gb_print.proofs.Fine.{is_fine}
use Rattle.gb_print.proofs.Lexed.{ahead}
use Rattle.gb_print.proofs.Tokens.{Next, begins_form, not_star, not_greater, start_not_ampersand, low_byte, next_symbol, next_word, spaced, trailed}

-- Symbols in front of whatever follows.

pub close_round : (mid : List ℕ) → Next (41 ∷ mid) 83 (codes ")") mid
unfolding first_piece symbol_size spells kind_of low_byte is_fine is_word_of
close_round [] = next_symbol 41 ([]) 0 terminal.CloseRound 83 refl refl refl refl
close_round (b ∷ []) = next_symbol 41 (b ∷ []) 0 terminal.CloseRound 83 refl refl refl refl
close_round (b ∷ c ∷ mid) = next_symbol 41 (b ∷ c ∷ mid) 0 terminal.CloseRound 83 refl refl refl refl

pub open_square : (mid : List ℕ) → Next (91 ∷ mid) 84 (codes "[") mid
unfolding first_piece symbol_size spells kind_of low_byte is_fine is_word_of
open_square [] = next_symbol 91 ([]) 0 terminal.OpenSquare 84 refl refl refl refl
open_square (b ∷ []) = next_symbol 91 (b ∷ []) 0 terminal.OpenSquare 84 refl refl refl refl
open_square (b ∷ c ∷ mid) = next_symbol 91 (b ∷ c ∷ mid) 0 terminal.OpenSquare 84 refl refl refl refl

pub close_square : (mid : List ℕ) → Next (93 ∷ mid) 85 (codes "]") mid
unfolding first_piece symbol_size spells kind_of low_byte is_fine is_word_of
close_square [] = next_symbol 93 ([]) 0 terminal.CloseSquare 85 refl refl refl refl
close_square (b ∷ []) = next_symbol 93 (b ∷ []) 0 terminal.CloseSquare 85 refl refl refl refl
close_square (b ∷ c ∷ mid) = next_symbol 93 (b ∷ c ∷ mid) 0 terminal.CloseSquare 85 refl refl refl refl

pub open_brace : (mid : List ℕ) → Next (123 ∷ mid) 86 (codes "{") mid
unfolding first_piece symbol_size spells kind_of low_byte is_fine is_word_of
open_brace [] = next_symbol 123 ([]) 0 terminal.OpenBrace 86 refl refl refl refl
open_brace (b ∷ []) = next_symbol 123 (b ∷ []) 0 terminal.OpenBrace 86 refl refl refl refl
open_brace (b ∷ c ∷ mid) = next_symbol 123 (b ∷ c ∷ mid) 0 terminal.OpenBrace 86 refl refl refl refl

pub close_brace : (mid : List ℕ) → Next (125 ∷ mid) 87 (codes "}") mid
unfolding first_piece symbol_size spells kind_of low_byte is_fine is_word_of
close_brace [] = next_symbol 125 ([]) 0 terminal.CloseBrace 87 refl refl refl refl
close_brace (b ∷ []) = next_symbol 125 (b ∷ []) 0 terminal.CloseBrace 87 refl refl refl refl
close_brace (b ∷ c ∷ mid) = next_symbol 125 (b ∷ c ∷ mid) 0 terminal.CloseBrace 87 refl refl refl refl

pub semicolon : (mid : List ℕ) → Next (59 ∷ mid) 92 (codes ";") mid
unfolding first_piece symbol_size spells kind_of low_byte is_fine is_word_of
semicolon [] = next_symbol 59 ([]) 0 terminal.Semicolon 92 refl refl refl refl
semicolon (b ∷ []) = next_symbol 59 (b ∷ []) 0 terminal.Semicolon 92 refl refl refl refl
semicolon (b ∷ c ∷ mid) = next_symbol 59 (b ∷ c ∷ mid) 0 terminal.Semicolon 92 refl refl refl refl

pub open_get : (mid : List ℕ) → Next (46 ∷ 91 ∷ mid) 89 (codes ".[") mid
unfolding first_piece symbol_size spells kind_of low_byte is_fine is_word_of
open_get [] = next_symbol 46 (91 ∷ []) 1 terminal.OpenGet 89 refl refl refl refl
open_get (b ∷ []) = next_symbol 46 (91 ∷ b ∷ []) 1 terminal.OpenGet 89 refl refl refl refl
open_get (b ∷ c ∷ mid) = next_symbol 46 (91 ∷ b ∷ c ∷ mid) 1 terminal.OpenGet 89 refl refl refl refl

pub bars : (mid : List ℕ) → Next (96 ∷ 124 ∷ mid) 90 (codes "`|") mid
unfolding first_piece symbol_size spells kind_of low_byte is_fine is_word_of
bars [] = next_symbol 96 (124 ∷ []) 1 terminal.Bars 90 refl refl refl refl
bars (b ∷ []) = next_symbol 96 (124 ∷ b ∷ []) 1 terminal.Bars 90 refl refl refl refl
bars (b ∷ c ∷ mid) = next_symbol 96 (124 ∷ b ∷ c ∷ mid) 1 terminal.Bars 90 refl refl refl refl

pub exclamation : (mid : List ℕ) → Next (33 ∷ mid) 95 (codes "!") mid
unfolding first_piece symbol_size spells kind_of low_byte is_fine is_word_of
exclamation [] = next_symbol 33 ([]) 0 terminal.Exclamation 95 refl refl refl refl
exclamation (b ∷ []) = next_symbol 33 (b ∷ []) 0 terminal.Exclamation 95 refl refl refl refl
exclamation (b ∷ c ∷ mid) = next_symbol 33 (b ∷ c ∷ mid) 0 terminal.Exclamation 95 refl refl refl refl

pub dot_number : (mid : List ℕ) → Next (46 ∷ 96 ∷ mid) 124 (codes ".`") mid
unfolding first_piece symbol_size spells kind_of low_byte is_fine is_word_of
dot_number [] = next_symbol 46 (96 ∷ []) 1 terminal.DotNumber 124 refl refl refl refl
dot_number (b ∷ []) = next_symbol 46 (96 ∷ b ∷ []) 1 terminal.DotNumber 124 refl refl refl refl
dot_number (b ∷ c ∷ mid) = next_symbol 46 (96 ∷ b ∷ c ∷ mid) 1 terminal.DotNumber 124 refl refl refl refl

pub percent_real : (mid : List ℕ) → Next (37 ∷ 114 ∷ mid) 123 (codes "%r") mid
unfolding first_piece symbol_size spells kind_of low_byte is_fine is_word_of
percent_real [] = next_symbol 37 (114 ∷ []) 1 terminal.PercentReal 123 refl refl refl refl
percent_real (b ∷ []) = next_symbol 37 (114 ∷ b ∷ []) 1 terminal.PercentReal 123 refl refl refl refl
percent_real (b ∷ c ∷ mid) = next_symbol 37 (114 ∷ b ∷ c ∷ mid) 1 terminal.PercentReal 123 refl refl refl refl

pub comma : (mid : List ℕ) → Next (44 ∷ mid) 91 (codes ",") mid
unfolding first_piece symbol_size spells kind_of low_byte is_fine is_word_of
comma [] = next_symbol 44 ([]) 0 terminal.Comma 91 refl refl refl refl
comma (b ∷ []) = next_symbol 44 (b ∷ []) 0 terminal.Comma 91 refl refl refl refl
comma (b ∷ c ∷ mid) = next_symbol 44 (b ∷ c ∷ mid) 0 terminal.Comma 91 refl refl refl refl

open_round_piece : (b : ℕ) (mid : List ℕ) → begins_form b ≡ true → first_piece (40 ∷ b ∷ mid) ≡ token Symbol 1
unfolding first_piece symbol_size
open_round_piece b [] h = let no = not_star b h in rw no refl
open_round_piece b (c ∷ mid) h = let no = not_star b h in rw no refl

pub open_round : (b : ℕ) (mid : List ℕ) → begins_form b ≡ true → Next (40 ∷ b ∷ mid) 82 (codes "(") (b ∷ mid)
unfolding spells kind_of low_byte is_fine is_word_of
open_round b mid h = next_symbol 40 (b ∷ mid) 0 terminal.OpenRound 82 (open_round_piece b mid h) refl refl refl

minus_piece : (b : ℕ) (mid : List ℕ) → begins_form b ≡ true → first_piece (45 ∷ b ∷ mid) ≡ token Symbol 1
unfolding first_piece symbol_size
minus_piece b [] h = let no = not_greater b h in rw no refl
minus_piece b (c ∷ mid) h = let no = not_greater b h in rw no refl

pub minus : (b : ℕ) (mid : List ℕ) → begins_form b ≡ true → Next (45 ∷ b ∷ mid) 99 (codes "-") (b ∷ mid)
unfolding spells kind_of low_byte is_fine is_word_of
minus b mid h = next_symbol 45 (b ∷ mid) 0 terminal.Minus 99 (minus_piece b mid h) refl refl refl

ampersand_piece : (b : ℕ) (mid : List ℕ) → is_word_start b ≡ true → first_piece (38 ∷ b ∷ mid) ≡ token Symbol 1
unfolding first_piece symbol_size
ampersand_piece b [] h = let no = start_not_ampersand b h in rw no refl
ampersand_piece b (c ∷ mid) h = let no = start_not_ampersand b h in rw no refl

pub ampersand : (b : ℕ) (mid : List ℕ) → is_word_start b ≡ true → Next (38 ∷ b ∷ mid) 109 (codes "&") (b ∷ mid)
unfolding spells kind_of low_byte is_fine is_word_of
ampersand b mid h = next_symbol 38 (b ∷ mid) 0 terminal.Ampersand 109 (ampersand_piece b mid h) refl refl refl

bar_piece : (mid : List ℕ) → ahead (λ b. nat_eq 124 b) mid ≡ false → first_piece (124 ∷ mid) ≡ token Symbol 1
unfolding first_piece symbol_size
bar_piece [] h = refl
bar_piece (b ∷ []) h = rw h refl
bar_piece (b ∷ c ∷ mid) h = rw h refl

-- a bar that closes, in front of no further one
pub closing_bar : (mid : List ℕ) → ahead (λ b. nat_eq 124 b) mid ≡ false → Next (124 ∷ mid) 94 (codes "|") mid
unfolding spells kind_of low_byte is_fine is_word_of
closing_bar mid h = next_symbol 124 mid 0 terminal.Bar 94 (bar_piece mid h) refl refl refl

dot_piece : (b : ℕ) (mid : List ℕ) → is_word_start b ≡ true → first_piece (46 ∷ b ∷ mid) ≡ token Symbol 1
unfolding first_piece
dot_piece b mid h = rw h refl

pub path_dot : (b : ℕ) (mid : List ℕ) → is_word_start b ≡ true → Next (46 ∷ b ∷ mid) 125 (codes ".") (b ∷ mid)
unfolding spells kind_of low_byte is_fine is_word_of
path_dot b mid h = next_symbol 46 (b ∷ mid) 0 terminal.Dot 125 (dot_piece b mid h) refl refl refl

-- Symbols and words in front of a space.

pub and_word : (mid : List ℕ) → Next (codes " /\\ " ++ mid) 116 (codes "/\\") mid
unfolding first_piece symbol_size spells kind_of low_byte is_fine is_word_of
and_word [] = spaced (trailed ([]) (next_symbol 47 (92 ∷ 32 ∷ []) 1 terminal.And 116 refl refl refl refl))
and_word (b ∷ mid) = spaced (trailed (b ∷ mid) (next_symbol 47 (92 ∷ 32 ∷ b ∷ mid) 1 terminal.And 116 refl refl refl refl))

pub or_word : (mid : List ℕ) → Next (codes " \\/ " ++ mid) 117 (codes "\\/") mid
unfolding first_piece symbol_size spells kind_of low_byte is_fine is_word_of
or_word [] = spaced (trailed ([]) (next_symbol 92 (47 ∷ 32 ∷ []) 1 terminal.Or 117 refl refl refl refl))
or_word (b ∷ mid) = spaced (trailed (b ∷ mid) (next_symbol 92 (47 ∷ 32 ∷ b ∷ mid) 1 terminal.Or 117 refl refl refl refl))

pub implies_word : (mid : List ℕ) → Next (codes " => " ++ mid) 118 (codes "=>") mid
unfolding first_piece symbol_size spells kind_of low_byte is_fine is_word_of
implies_word [] = spaced (trailed ([]) (next_symbol 61 (62 ∷ 32 ∷ []) 1 terminal.Arrow 118 refl refl refl refl))
implies_word (b ∷ mid) = spaced (trailed (b ∷ mid) (next_symbol 61 (62 ∷ 32 ∷ b ∷ mid) 1 terminal.Arrow 118 refl refl refl refl))

pub iff_word : (mid : List ℕ) → Next (codes " <=> " ++ mid) 119 (codes "<=>") mid
unfolding first_piece symbol_size spells kind_of low_byte is_fine is_word_of
iff_word [] = spaced (trailed ([]) (next_symbol 60 (61 ∷ 62 ∷ 32 ∷ []) 2 terminal.DoubleArrow 119 refl refl refl refl))
iff_word (b ∷ mid) = spaced (trailed (b ∷ mid) (next_symbol 60 (61 ∷ 62 ∷ 32 ∷ b ∷ mid) 2 terminal.DoubleArrow 119 refl refl refl refl))

pub equal_word : (mid : List ℕ) → Next (codes " = " ++ mid) 102 (codes "=") mid
unfolding first_piece symbol_size spells kind_of low_byte is_fine is_word_of
equal_word [] = spaced (trailed ([]) (next_symbol 61 (32 ∷ []) 0 terminal.Equals 102 refl refl refl refl))
equal_word (b ∷ mid) = spaced (trailed (b ∷ mid) (next_symbol 61 (32 ∷ b ∷ mid) 0 terminal.Equals 102 refl refl refl refl))

pub different_word : (mid : List ℕ) → Next (codes " <> " ++ mid) 103 (codes "<>") mid
unfolding first_piece symbol_size spells kind_of low_byte is_fine is_word_of
different_word [] = spaced (trailed ([]) (next_symbol 60 (62 ∷ 32 ∷ []) 1 terminal.Different 103 refl refl refl refl))
different_word (b ∷ mid) = spaced (trailed (b ∷ mid) (next_symbol 60 (62 ∷ 32 ∷ b ∷ mid) 1 terminal.Different 103 refl refl refl refl))

pub less_word : (mid : List ℕ) → Next (codes " < " ++ mid) 104 (codes "<") mid
unfolding first_piece symbol_size spells kind_of low_byte is_fine is_word_of
less_word [] = spaced (trailed ([]) (next_symbol 60 (32 ∷ []) 0 terminal.Less 104 refl refl refl refl))
less_word (b ∷ mid) = spaced (trailed (b ∷ mid) (next_symbol 60 (32 ∷ b ∷ mid) 0 terminal.Less 104 refl refl refl refl))

pub at_most_word : (mid : List ℕ) → Next (codes " <= " ++ mid) 105 (codes "<=") mid
unfolding first_piece symbol_size spells kind_of low_byte is_fine is_word_of
at_most_word [] = spaced (trailed ([]) (next_symbol 60 (61 ∷ 32 ∷ []) 1 terminal.LessEqual 105 refl refl refl refl))
at_most_word (b ∷ mid) = spaced (trailed (b ∷ mid) (next_symbol 60 (61 ∷ 32 ∷ b ∷ mid) 1 terminal.LessEqual 105 refl refl refl refl))

pub plus_word : (mid : List ℕ) → Next (codes " + " ++ mid) 98 (codes "+") mid
unfolding first_piece symbol_size spells kind_of low_byte is_fine is_word_of
plus_word [] = spaced (trailed ([]) (next_symbol 43 (32 ∷ []) 0 terminal.Plus 98 refl refl refl refl))
plus_word (b ∷ mid) = spaced (trailed (b ∷ mid) (next_symbol 43 (32 ∷ b ∷ mid) 0 terminal.Plus 98 refl refl refl refl))

pub minus_word : (mid : List ℕ) → Next (codes " - " ++ mid) 99 (codes "-") mid
unfolding first_piece symbol_size spells kind_of low_byte is_fine is_word_of
minus_word [] = spaced (trailed ([]) (next_symbol 45 (32 ∷ []) 0 terminal.Minus 99 refl refl refl refl))
minus_word (b ∷ mid) = spaced (trailed (b ∷ mid) (next_symbol 45 (32 ∷ b ∷ mid) 0 terminal.Minus 99 refl refl refl refl))

pub times_word : (mid : List ℕ) → Next (codes " * " ++ mid) 97 (codes "*") mid
unfolding first_piece symbol_size spells kind_of low_byte is_fine is_word_of
times_word [] = spaced (trailed ([]) (next_symbol 42 (32 ∷ []) 0 terminal.Times 97 refl refl refl refl))
times_word (b ∷ mid) = spaced (trailed (b ∷ mid) (next_symbol 42 (32 ∷ b ∷ mid) 0 terminal.Times 97 refl refl refl refl))

pub xor_word : (mid : List ℕ) → Next (codes " +^ " ++ mid) 110 (codes "+^") mid
unfolding first_piece symbol_size spells kind_of low_byte is_fine is_word_of
xor_word [] = spaced (trailed ([]) (next_symbol 43 (94 ∷ 32 ∷ []) 1 terminal.Xor 110 refl refl refl refl))
xor_word (b ∷ mid) = spaced (trailed (b ∷ mid) (next_symbol 43 (94 ∷ 32 ∷ b ∷ mid) 1 terminal.Xor 110 refl refl refl refl))

pub divide_word : (mid : List ℕ) → Next (codes " / " ++ mid) 100 (codes "/") mid
unfolding first_piece symbol_size spells kind_of low_byte is_fine is_word_of
divide_word [] = spaced (trailed ([]) (next_symbol 47 (32 ∷ []) 0 terminal.Slash 100 refl refl refl refl))
divide_word (b ∷ mid) = spaced (trailed (b ∷ mid) (next_symbol 47 (32 ∷ b ∷ mid) 0 terminal.Slash 100 refl refl refl refl))

pub in_word : (mid : List ℕ) → Next (codes " \\in " ++ mid) 104 (codes "\\in") mid
unfolding first_piece symbol_size spells kind_of low_byte is_fine is_word_of
in_word [] = spaced (trailed ([]) (next_symbol 92 (105 ∷ 110 ∷ 32 ∷ []) 2 terminal.In 104 refl refl refl refl))
in_word (b ∷ mid) = spaced (trailed (b ∷ mid) (next_symbol 92 (105 ∷ 110 ∷ 32 ∷ b ∷ mid) 2 terminal.In 104 refl refl refl refl))

pub power_word : (mid : List ℕ) → Next (codes " `*` " ++ mid) 101 (codes "`*`") mid
unfolding first_piece symbol_size spells kind_of low_byte is_fine is_word_of
power_word [] = spaced (trailed ([]) (next_symbol 96 (42 ∷ 96 ∷ 32 ∷ []) 2 terminal.PowerTimes 101 refl refl refl refl))
power_word (b ∷ mid) = spaced (trailed (b ∷ mid) (next_symbol 96 (42 ∷ 96 ∷ 32 ∷ b ∷ mid) 2 terminal.PowerTimes 101 refl refl refl refl))

pub question_word : (mid : List ℕ) → Next (codes " ? " ++ mid) 96 (codes "?") mid
unfolding first_piece symbol_size spells kind_of low_byte is_fine is_word_of
question_word [] = spaced (trailed ([]) (next_symbol 63 (32 ∷ []) 0 terminal.Question 96 refl refl refl refl))
question_word (b ∷ mid) = spaced (trailed (b ∷ mid) (next_symbol 63 (32 ∷ b ∷ mid) 0 terminal.Question 96 refl refl refl refl))

pub colon_word : (mid : List ℕ) → Next (codes " : " ++ mid) 93 (codes ":") mid
unfolding first_piece symbol_size spells kind_of low_byte is_fine is_word_of
colon_word [] = spaced (trailed ([]) (next_symbol 58 (32 ∷ []) 0 terminal.Colon 93 refl refl refl refl))
colon_word (b ∷ mid) = spaced (trailed (b ∷ mid) (next_symbol 58 (32 ∷ b ∷ mid) 0 terminal.Colon 93 refl refl refl refl))

pub comma_word : (mid : List ℕ) → Next (codes ", " ++ mid) 91 (codes ",") mid
unfolding first_piece symbol_size spells kind_of low_byte is_fine is_word_of
comma_word [] = trailed ([]) (next_symbol 44 (32 ∷ []) 0 terminal.Comma 91 refl refl refl refl)
comma_word (b ∷ mid) = trailed (b ∷ mid) (next_symbol 44 (32 ∷ b ∷ mid) 0 terminal.Comma 91 refl refl refl refl)

pub assign_word : (mid : List ℕ) → Next (codes " <- " ++ mid) 111 (codes "<-") mid
unfolding first_piece symbol_size spells kind_of low_byte is_fine is_word_of
assign_word [] = spaced (trailed ([]) (next_symbol 60 (45 ∷ 32 ∷ []) 1 terminal.Assign 111 refl refl refl refl))
assign_word (b ∷ mid) = spaced (trailed (b ∷ mid) (next_symbol 60 (45 ∷ 32 ∷ b ∷ mid) 1 terminal.Assign 111 refl refl refl refl))

pub sample_word : (mid : List ℕ) → Next (codes " <$ " ++ mid) 112 (codes "<$") mid
unfolding first_piece symbol_size spells kind_of low_byte is_fine is_word_of
sample_word [] = spaced (trailed ([]) (next_symbol 60 (36 ∷ 32 ∷ []) 1 terminal.Samples 112 refl refl refl refl))
sample_word (b ∷ mid) = spaced (trailed (b ∷ mid) (next_symbol 60 (36 ∷ 32 ∷ b ∷ mid) 1 terminal.Samples 112 refl refl refl refl))

pub call_word : (mid : List ℕ) → Next (codes " <@ " ++ mid) 113 (codes "<@") mid
unfolding first_piece symbol_size spells kind_of low_byte is_fine is_word_of
call_word [] = spaced (trailed ([]) (next_symbol 60 (64 ∷ 32 ∷ []) 1 terminal.Calls 113 refl refl refl refl))
call_word (b ∷ mid) = spaced (trailed (b ∷ mid) (next_symbol 60 (64 ∷ 32 ∷ b ∷ mid) 1 terminal.Calls 113 refl refl refl refl))

pub below_word : (mid : List ℕ) → Next (codes " <: " ++ mid) 114 (codes "<:") mid
unfolding first_piece symbol_size spells kind_of low_byte is_fine is_word_of
below_word [] = spaced (trailed ([]) (next_symbol 60 (58 ∷ 32 ∷ []) 1 terminal.Below 114 refl refl refl refl))
below_word (b ∷ mid) = spaced (trailed (b ∷ mid) (next_symbol 60 (58 ∷ 32 ∷ b ∷ mid) 1 terminal.Below 114 refl refl refl refl))

pub tilde_word : (mid : List ℕ) → Next (codes " ~ " ++ mid) 107 (codes "~") mid
unfolding first_piece symbol_size spells kind_of low_byte is_fine is_word_of
tilde_word [] = spaced (trailed ([]) (next_symbol 126 (32 ∷ []) 0 terminal.Tilde 107 refl refl refl refl))
tilde_word (b ∷ mid) = spaced (trailed (b ∷ mid) (next_symbol 126 (32 ∷ b ∷ mid) 0 terminal.Tilde 107 refl refl refl refl))

pub long_word : (mid : List ℕ) → Next (codes " ==> " ++ mid) 120 (codes "==>") mid
unfolding first_piece symbol_size spells kind_of low_byte is_fine is_word_of
long_word [] = spaced (trailed ([]) (next_symbol 61 (61 ∷ 62 ∷ 32 ∷ []) 2 terminal.LongArrow 120 refl refl refl refl))
long_word (b ∷ mid) = spaced (trailed (b ∷ mid) (next_symbol 61 (61 ∷ 62 ∷ 32 ∷ b ∷ mid) 2 terminal.LongArrow 120 refl refl refl refl))

pub semicolon_word : (mid : List ℕ) → Next (codes "; " ++ mid) 92 (codes ";") mid
unfolding first_piece symbol_size spells kind_of low_byte is_fine is_word_of
semicolon_word [] = trailed ([]) (next_symbol 59 (32 ∷ []) 0 terminal.Semicolon 92 refl refl refl refl)
semicolon_word (b ∷ mid) = trailed (b ∷ mid) (next_symbol 59 (32 ∷ b ∷ mid) 0 terminal.Semicolon 92 refl refl refl refl)

pub at_word : (mid : List ℕ) → Next (codes " @ " ++ mid) 108 (codes "@") mid
unfolding first_piece symbol_size spells kind_of low_byte is_fine is_word_of
at_word [] = spaced (trailed ([]) (next_symbol 64 (32 ∷ []) 0 terminal.At 108 refl refl refl refl))
at_word (b ∷ mid) = spaced (trailed (b ∷ mid) (next_symbol 64 (32 ∷ b ∷ mid) 0 terminal.At 108 refl refl refl refl))

pub fun_word : (mid : List ℕ) → Next (codes "fun " ++ mid) 45 (codes "fun") mid
unfolding spells kind_of is_fine is_word_of
fun_word mid = trailed mid (next_word (codes "fun") (32 ∷ mid) terminal.Fun 45 refl refl refl refl)

pub glob_word : (mid : List ℕ) → Next (codes "glob " ++ mid) 42 (codes "glob") mid
unfolding spells kind_of is_fine is_word_of
glob_word mid = trailed mid (next_word (codes "glob") (32 ∷ mid) terminal.Glob 42 refl refl refl refl)

pub uniform_word : (mid : List ℕ) → Next (codes "uniform " ++ mid) 47 (codes "uniform") mid
unfolding spells kind_of is_fine is_word_of
uniform_word mid = trailed mid (next_word (codes "uniform") (32 ∷ mid) terminal.Uniform 47 refl refl refl refl)

pub bits_word : (mid : List ℕ) → Next (codes "bits " ++ mid) 39 (codes "bits") mid
unfolding spells kind_of is_fine is_word_of
bits_word mid = trailed mid (next_word (codes "bits") (32 ∷ mid) terminal.Bits 39 refl refl refl refl)

pub forall_word : (mid : List ℕ) → Next (codes "forall " ++ mid) 43 (codes "forall") mid
unfolding spells kind_of is_fine is_word_of
forall_word mid = trailed mid (next_word (codes "forall") (32 ∷ mid) terminal.Forall 43 refl refl refl refl)

pub exists_word : (mid : List ℕ) → Next (codes "exists " ++ mid) 44 (codes "exists") mid
unfolding spells kind_of is_fine is_word_of
exists_word mid = trailed mid (next_word (codes "exists") (32 ∷ mid) terminal.Exists 44 refl refl refl refl)

pub hoare_word : (mid : List ℕ) → Next (codes "hoare " ++ mid) 49 (codes "hoare") mid
unfolding spells kind_of is_fine is_word_of
hoare_word mid = trailed mid (next_word (codes "hoare") (32 ∷ mid) terminal.Hoare 49 refl refl refl refl)

pub phoare_word : (mid : List ℕ) → Next (codes "phoare " ++ mid) 50 (codes "phoare") mid
unfolding spells kind_of is_fine is_word_of
phoare_word mid = trailed mid (next_word (codes "phoare") (32 ∷ mid) terminal.Phoare 50 refl refl refl refl)

pub equiv_word : (mid : List ℕ) → Next (codes "equiv " ++ mid) 51 (codes "equiv") mid
unfolding spells kind_of is_fine is_word_of
equiv_word mid = trailed mid (next_word (codes "equiv") (32 ∷ mid) terminal.Equiv 51 refl refl refl refl)

pub weights_word : (mid : List ℕ) → Next (codes "weights " ++ mid) 48 (codes "weights") mid
unfolding spells kind_of is_fine is_word_of
weights_word mid = trailed mid (next_word (codes "weights") (32 ∷ mid) terminal.Weights 48 refl refl refl refl)

pub if_word : (mid : List ℕ) → Next (codes "if " ++ mid) 32 (codes "if") mid
unfolding spells kind_of is_fine is_word_of
if_word mid = trailed mid (next_word (codes "if") (32 ∷ mid) terminal.If 32 refl refl refl refl)

pub else_word : (mid : List ℕ) → Next (codes "else " ++ mid) 33 (codes "else") mid
unfolding spells kind_of is_fine is_word_of
else_word mid = trailed mid (next_word (codes "else") (32 ∷ mid) terminal.Else 33 refl refl refl refl)

pub while_word : (mid : List ℕ) → Next (codes "while " ++ mid) 34 (codes "while") mid
unfolding spells kind_of is_fine is_word_of
while_word mid = trailed mid (next_word (codes "while") (32 ∷ mid) terminal.While 34 refl refl refl refl)

pub variant_word : (mid : List ℕ) → Next (codes "variant " ++ mid) 35 (codes "variant") mid
unfolding spells kind_of is_fine is_word_of
variant_word mid = trailed mid (next_word (codes "variant") (32 ∷ mid) terminal.Variant 35 refl refl refl refl)

dash_piece : (b : ℕ) (mid : List ℕ) → nat_eq 62 b ≡ false → first_piece (45 ∷ b ∷ mid) ≡ token Symbol 1
unfolding first_piece symbol_size
dash_piece b [] h = rw h refl
dash_piece b (c ∷ mid) h = rw h refl

-- a `-` in front of what is no `>`
pub dash : (b : ℕ) (mid : List ℕ) → nat_eq 62 b ≡ false → Next (45 ∷ b ∷ mid) 99 (codes "-") (b ∷ mid)
unfolding spells kind_of low_byte is_fine is_word_of
dash b mid h = next_symbol 45 (b ∷ mid) 0 terminal.Minus 99 (dash_piece b mid h) refl refl refl

-- brackets with nothing in them
pub empty_round : (mid : List ℕ) → Next (40 ∷ 41 ∷ mid) 82 (codes "(") (41 ∷ mid)
unfolding first_piece symbol_size spells kind_of low_byte is_fine is_word_of
empty_round [] = next_symbol 40 (41 ∷ []) 0 terminal.OpenRound 82 refl refl refl refl
empty_round (b ∷ mid) = next_symbol 40 (41 ∷ b ∷ mid) 0 terminal.OpenRound 82 refl refl refl refl

pub at_least_word : (mid : List ℕ) → Next (codes " >= " ++ mid) 106 (codes ">=") mid
unfolding first_piece symbol_size spells kind_of low_byte is_fine is_word_of
at_least_word [] = spaced (trailed [] (next_symbol 62 (61 ∷ 32 ∷ []) 1 terminal.GreaterEqual 106 refl refl refl refl))
at_least_word (b ∷ mid) = spaced (trailed (b ∷ mid) (next_symbol 62 (61 ∷ 32 ∷ b ∷ mid) 1 terminal.GreaterEqual 106 refl refl refl refl))
