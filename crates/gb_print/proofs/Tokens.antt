-- Tokens in front of what follows: words, numbers and symbols.
use Rattle.std.specs.Prelude.{ℕ, zero, suc, ◌≡◌, ◌<◌, ◌==◌, Bool, true, false, ◌&&◌, ◌||◌, nat_eq, nat_le, List, [], ◌∷◌, ◌++◌, length, take, drop}
use Rattle.std.specs.List.{list_all, prefix_len}
use Rattle.std.specs.Char.{is_ascii_digit}
use Rattle.std.specs.Str.{IsAscii}
use Rattle.std.specs.Str.Lossy.{utf8_lossy}
use Rattle.std.proofs.Common.{refl, ap, ap₂, sym, ◌∙◌, subst, arith}
use Rattle.std.proofs.lemmas.Bool.{leb-true}
use Rattle.std.proofs.lemmas.Bool.Decides.{nat_tests}
use Rattle.std.proofs.lemmas.Str.{utf8_lossy-IsUtf8, IsUtf8-from_ascii}
use Rattle.std.proofs.Math.Seq.{take-append_seam, drop-append_seam}
use Rattle.gb_lex.specs.declared.token.Kind.TheVariants.{Word, Number, Symbol}
use Rattle.gb_lex.specs.Byte.{is_white, is_word_start, is_word_byte}
use Rattle.gb_lex.specs.Comment.{opens_comment}
use Rattle.gb_lex.specs.Piece.{token, first_piece}
use Rattle.gb_limits.specs.Kinds.{kind_of}
use Rattle.gb_limits.specs.Lexeme.{terminal_of}
use Rattle.gb_script.specs.declared.terminal.Terminal.{Terminal}
use Rattle.gb_lex.specs.declared.token.Piece.{Piece}
use Rattle.gb_print.proofs.Cut.{Cut, cut_more, cut_piece, cut_space, is_whole, on_line}
use Rattle.gb_print.proofs.Fine.{is_fine}
use Rattle.gb_print.specs.Written.{is_word}
use Rattle.gb_print.proofs.Reading.{lexeme}
use Rattle.gb_print.proofs.Lexed.{lexed, lexed_after, lexed_token, ahead, prefix_is}

-- The first token of bytes is of a kind, and has these bytes; the others follow.
pub record Next (i : List ℕ) (k : ℕ) (n mid : List ℕ) : Type 0 where
  pub terminal : Terminal
  pub first : lexed i ≡ lexeme terminal n ∷ lexed mid
  pub kind : kind_of terminal ≡ k
  pub fine : is_fine k n ≡ true
  pub cut : Cut i mid

-- Words and numbers.

abbrev pub is_digits : List ℕ → Bool
is_digits [] = false
is_digits (b ∷ w) = is_ascii_digit b && list_all is_ascii_digit w

pub both : (a b : Bool) → (a && b) ≡ true → (a ≡ true) × (b ≡ true)
both true b h = (refl, h)
both false b h = absurd cc

low_word : (b : ℕ) → is_word_byte b ≡ true → b < 128
low_word b h = grind (arith, nat_tests)

low_digit : (b : ℕ) → is_ascii_digit b ≡ true → b < 128
low_digit b h = grind (arith, nat_tests)

all_ascii : (p : ℕ → Bool) → ((b : ℕ) → p b ≡ true → b < 128) → (w : List ℕ) → list_all p w ≡ true → IsAscii w
all_ascii p low [] h i = omega arith
all_ascii p low (b ∷ w) h zero = low b (both (p b) (list_all p w) h).0
all_ascii p low (b ∷ w) h (suc i) = all_ascii p low w (both (p b) (list_all p w) h).1 i

pub start_is_byte : (b : ℕ) → is_word_start b ≡ true → is_word_byte b ≡ true
start_is_byte b h = grind (arith, nat_tests)

start_not_white : (b : ℕ) → is_word_start b ≡ true → is_white b ≡ false
start_not_white b h = grind (arith, nat_tests)

start_not_bracket : (b : ℕ) → is_word_start b ≡ true → nat_eq 40 b ≡ false
start_not_bracket b h = grind (arith, nat_tests)

digit_not_white : (b : ℕ) → is_ascii_digit b ≡ true → is_white b ≡ false
digit_not_white b h = grind (arith, nat_tests)

digit_not_bracket : (b : ℕ) → is_ascii_digit b ≡ true → nat_eq 40 b ≡ false
digit_not_bracket b h = grind (arith, nat_tests)

digit_not_start : (b : ℕ) → is_ascii_digit b ≡ true → is_word_start b ≡ false
digit_not_start b h = grind (arith, nat_tests)

no_comment : (b : ℕ) (rest : List ℕ) → nat_eq 40 b ≡ false → opens_comment (b ∷ rest) ≡ false
no_comment b rest h = rw h refl

all_of : (p : ℕ → Bool) (b : ℕ) (w : List ℕ) → p b ≡ true → list_all p w ≡ true → list_all p (b ∷ w) ≡ true
all_of p b w h a = rw h a

first_word : (b : ℕ) (w mid : List ℕ) → is_word_start b ≡ true → list_all is_word_byte w ≡ true → ahead is_word_byte mid ≡ false
    → first_piece (b ∷ (w ++ mid)) ≡ token Word (suc (length w))
unfolding first_piece
first_word b w mid s a f =
    let n : prefix_len is_word_byte ((b ∷ w) ++ mid) ≡ suc (length w) = prefix_is is_word_byte (b ∷ w) mid (all_of is_word_byte b w (start_is_byte b s) a) f in
    let white = start_not_white b s in
    let comment = no_comment b (w ++ mid) (start_not_bracket b s) in
    rw (n, white, comment, s) refl

first_number : (b : ℕ) (w mid : List ℕ) → is_ascii_digit b ≡ true → list_all is_ascii_digit w ≡ true → ahead is_ascii_digit mid ≡ false
    → first_piece (b ∷ (w ++ mid)) ≡ token Number (suc (length w))
unfolding first_piece
first_number b w mid s a f =
    let n : prefix_len is_ascii_digit ((b ∷ w) ++ mid) ≡ suc (length w) = prefix_is is_ascii_digit (b ∷ w) mid (all_of is_ascii_digit b w s a) f in
    let white = digit_not_white b s in
    let comment = no_comment b (w ++ mid) (digit_not_bracket b s) in
    let word = digit_not_start b s in
    rw (n, white, comment, word, s) refl

same_text : (b : ℕ) (w mid : List ℕ) → take (suc (length w)) (b ∷ (w ++ mid)) ≡ b ∷ w
same_text b w mid = ap (λ l. b ∷ l) (take-append_seam w mid)

pub word_lexed : (x mid : List ℕ) → is_word x ≡ true → ahead is_word_byte mid ≡ false → lexed (x ++ mid) ≡ lexeme (terminal_of Word x) x ∷ lexed mid
word_lexed [] mid h f = absurd cc
word_lexed (b ∷ w) mid h f =
    let parts = both (is_word_start b) (list_all is_word_byte w) h in
    let ascii = all_ascii is_word_byte low_word (b ∷ w) (all_of is_word_byte b w (start_is_byte b parts.0) parts.1) in
    lexed_token b (w ++ mid) Word (length w) (first_word b w mid parts.0 parts.1 f)
    ∙ ap₂ (λ t i. lexeme (terminal_of Word t) (utf8_lossy t) ∷ lexed i) (same_text b w mid) (drop-append_seam w mid)
    ∙ ap (λ t. lexeme (terminal_of Word (b ∷ w)) t ∷ lexed mid) (utf8_lossy-IsUtf8 (b ∷ w) (IsUtf8-from_ascii (b ∷ w) ascii))

pub number_lexed : (x mid : List ℕ) → is_digits x ≡ true → ahead is_ascii_digit mid ≡ false → lexed (x ++ mid) ≡ lexeme (terminal_of Number x) x ∷ lexed mid
number_lexed [] mid h f = absurd cc
number_lexed (b ∷ w) mid h f =
    let parts = both (is_ascii_digit b) (list_all is_ascii_digit w) h in
    let ascii = all_ascii is_ascii_digit low_digit (b ∷ w) (all_of is_ascii_digit b w parts.0 parts.1) in
    lexed_token b (w ++ mid) Number (length w) (first_number b w mid parts.0 parts.1 f)
    ∙ ap₂ (λ t i. lexeme (terminal_of Number t) (utf8_lossy t) ∷ lexed i) (same_text b w mid) (drop-append_seam w mid)
    ∙ ap (λ t. lexeme (terminal_of Number (b ∷ w)) t ∷ lexed mid) (utf8_lossy-IsUtf8 (b ∷ w) (IsUtf8-from_ascii (b ∷ w) ascii))

word_on_line : (b : ℕ) → is_word_byte b ≡ true → on_line b ≡ true
word_on_line b h = grind (arith, nat_tests)

digit_on_line : (b : ℕ) → is_ascii_digit b ≡ true → on_line b ≡ true
digit_on_line b h = grind (arith, nat_tests)

all_on_line : (p : ℕ → Bool) → ((b : ℕ) → p b ≡ true → on_line b ≡ true) → (w : List ℕ) → list_all p w ≡ true → list_all on_line w ≡ true
all_on_line p line [] h = refl
all_on_line p line (b ∷ w) h = let parts = both (p b) (list_all p w) h in ap₂ (λ x y. x && y) (line b parts.0) (all_on_line p line w parts.1)

pub word_cut : (x mid : List ℕ) → is_word x ≡ true → ahead is_word_byte mid ≡ false → Cut (x ++ mid) mid
word_cut [] mid h f = absurd cc
word_cut (b ∷ w) mid h f =
    let parts = both (is_word_start b) (list_all is_word_byte w) h in
    let lines = all_on_line is_word_byte word_on_line (b ∷ w) (all_of is_word_byte b w (start_is_byte b parts.0) parts.1) in
    subst (λ l. Cut (b ∷ (w ++ mid)) l) (drop-append_seam w mid)
    (cut_piece b (w ++ mid) (length w) (ap (λ (p : Piece). p.size) (first_word b w mid parts.0 parts.1 f)) (ap (λ (p : Piece). is_whole p.what) (first_word b w mid parts.0 parts.1 f)) (subst (λ l. list_all on_line l ≡ true) (sym (same_text b w mid)) lines))

pub number_cut : (x mid : List ℕ) → is_digits x ≡ true → ahead is_ascii_digit mid ≡ false → Cut (x ++ mid) mid
number_cut [] mid h f = absurd cc
number_cut (b ∷ w) mid h f =
    let parts = both (is_ascii_digit b) (list_all is_ascii_digit w) h in
    let lines = all_on_line is_ascii_digit digit_on_line (b ∷ w) (all_of is_ascii_digit b w parts.0 parts.1) in
    subst (λ l. Cut (b ∷ (w ++ mid)) l) (drop-append_seam w mid)
    (cut_piece b (w ++ mid) (length w) (ap (λ (p : Piece). p.size) (first_number b w mid parts.0 parts.1 f)) (ap (λ (p : Piece). is_whole p.what) (first_number b w mid parts.0 parts.1 f)) (subst (λ l. list_all on_line l ≡ true) (sym (same_text b w mid)) lines))

-- Bytes with which the text of a form begins.
abbrev pub begins_form : ℕ → Bool
begins_form c = is_word_start c || (is_ascii_digit c || (c == 40 || (c == 123 || (c == 96 || (c == 45 || c == 33)))))

pub not_star : (c : ℕ) → begins_form c ≡ true → nat_eq 42 c ≡ false
not_star c h = grind (arith, nat_tests)

pub not_greater : (c : ℕ) → begins_form c ≡ true → nat_eq 62 c ≡ false
not_greater c h = grind (arith, nat_tests)

pub start_not_ampersand : (c : ℕ) → is_word_start c ≡ true → nat_eq 38 c ≡ false
start_not_ampersand c h = grind (arith, nat_tests)

unfoldable pub low_byte : ℕ → Bool
low_byte b = nat_le b 127 && on_line b

lossless : (n : List ℕ) → list_all low_byte n ≡ true → utf8_lossy n ≡ n
unfolding low_byte
lossless n h = utf8_lossy-IsUtf8 n (IsUtf8-from_ascii n (all_ascii low_byte (λ b e. let l = leb-true b 127 (both (nat_le b 127) (on_line b) e).0 in omega arith) n h))

all_of_low : (n : List ℕ) → list_all low_byte n ≡ true → list_all on_line n ≡ true
unfolding low_byte
all_of_low [] h = refl
all_of_low (b ∷ n) h =
    let parts = both (low_byte b) (list_all low_byte n) h in
    ap₂ (λ x y. x && y) (both (nat_le b 127) (on_line b) parts.0).1 (all_of_low n parts.1)

pub next_symbol : (b : ℕ) (rest : List ℕ) (n : ℕ) (t : Terminal) (k : ℕ) → first_piece (b ∷ rest) ≡ token Symbol (suc n) → terminal_of Symbol (take (suc n) (b ∷ rest)) ≡ t
    → (list_all low_byte (take (suc n) (b ∷ rest)) && is_fine k (take (suc n) (b ∷ rest))) ≡ true → kind_of t ≡ k → Next (b ∷ rest) k (take (suc n) (b ∷ rest)) (drop n rest)
next_symbol b rest n t k piece is facts kind = let low = (both (list_all low_byte (take (suc n) (b ∷ rest))) (is_fine k (take (suc n) (b ∷ rest))) facts).0 in record {
  terminal = t;
  first = lexed_token b rest Symbol n piece ∙ ap₂ (λ (u : Terminal) m. lexeme u m ∷ lexed (drop n rest)) is (lossless (take (suc n) (b ∷ rest)) low);
  kind = kind;
  fine = (both (list_all low_byte (take (suc n) (b ∷ rest))) (is_fine k (take (suc n) (b ∷ rest))) facts).1;
  cut = cut_piece b rest n (ap (λ (p : Piece). p.size) piece) (ap (λ (p : Piece). is_whole p.what) piece) (all_of_low (take (suc n) (b ∷ rest)) low);
}

pub next_word : (x mid : List ℕ) (t : Terminal) (k : ℕ) → (is_word x && is_fine k x) ≡ true → ahead is_word_byte mid ≡ false → terminal_of Word x ≡ t → kind_of t ≡ k → Next (x ++ mid) k x mid
next_word x mid t k w f is kind =
    let facts = both (is_word x) (is_fine k x) w in
    record { terminal = t; first = word_lexed x mid facts.0 f ∙ ap (λ (u : Terminal). lexeme u x ∷ lexed mid) is; kind = kind; fine = facts.1; cut = word_cut x mid facts.0 f }

pub next_number : (x mid : List ℕ) (t : Terminal) (k : ℕ) → (is_digits x && is_fine k x) ≡ true → ahead is_ascii_digit mid ≡ false → terminal_of Number x ≡ t → kind_of t ≡ k → Next (x ++ mid) k x mid
next_number x mid t k w f is kind =
    let facts = both (is_digits x) (is_fine k x) w in
    record { terminal = t; first = number_lexed x mid facts.0 f ∙ ap (λ (u : Terminal). lexeme u x ∷ lexed mid) is; kind = kind; fine = facts.1; cut = number_cut x mid facts.0 f }

pub space : (mid : List ℕ) → lexed (32 ∷ mid) ≡ lexed mid
unfolding lexed lexed_after first_piece
space mid = refl

pub spaced : {i : List ℕ} {k : ℕ} {n mid : List ℕ} → Next i k n mid → Next (32 ∷ i) k n mid
spaced {i = i} n = record { terminal = n.terminal; first = space i ∙ n.first; kind = n.kind; fine = n.fine; cut = cut_more (cut_space i) n.cut }

pub trailed : {i : List ℕ} {k : ℕ} {n : List ℕ} (mid : List ℕ) → Next i k n (32 ∷ mid) → Next i k n mid
trailed {n = m} mid n = record { terminal = n.terminal; first = n.first ∙ ap (λ l. lexeme n.terminal m ∷ l) (space mid); kind = n.kind; fine = n.fine; cut = cut_more n.cut (cut_space mid) }
