-- A token that is a name has the bytes of one.
use Rattle.std.proofs.Common.{◌≡◌, ℕ, zero, suc, ◌+◌, ◌-◌, ◌<◌, ◌==◌, Bool, true, false, cond, ◌&&◌, ◌||◌, not, nat_eq, if◌then◌else◌, List, [], ◌∷◌, take, Option, Some, None, unwrap_or, refl, ap, sym, ◌∙◌, subst, arith}
use Rattle.std.proofs.lemmas.Bool.{eqb-true, false≢true}
use Rattle.std.proofs.lemmas.Bool.Decides.{nat_tests}
use Rattle.std.proofs.lemmas.Option.{slice_get_within}
use Rattle.std.proofs.lemmas.Str.{utf8_lossy-IsUtf8, IsUtf8-from_ascii}
use Rattle.std.specs.Char.{is_ascii_digit}
use Rattle.std.specs.List.{AllByRecursion, list_all, prefix_len, slice_get}
use Rattle.std.specs.Str.{IsAscii}
use Rattle.std.specs.Str.Lossy.{utf8_lossy}
use Rattle.gb_core.specs.declared.place.Place.{Place}
use Rattle.gb_lex.specs.Byte.{is_white, is_word_start, is_word_byte}
use Rattle.gb_lex.specs.Comment.{opens_comment}
use Rattle.gb_lex.specs.Lex.{tokens_of}
use Rattle.gb_lex.specs.Piece.{comment, first_piece, follows_command, goes_on_path, symbol}
use Rattle.gb_lex.specs.declared.token.Kind.{Kind}
use Rattle.gb_lex.specs.declared.token.Kind.TheVariants.{Word, Number, Symbol, Final}
use Rattle.gb_lex.specs.declared.token.Piece.{Piece}
use Rattle.gb_lex.specs.declared.token.What.{What}
use Rattle.gb_lex.specs.declared.token.What.TheVariants.{Blank, Unclosed, Token as IsToken, Faulty}
use Rattle.gb_limits.specs.LeftOut.{NoneLeftOut, is_left_out, is_word_of, left_out_at, name_before}
use Rattle.gb_limits.specs.declared.left_out.TheConstants.{LEFT_OUT}
use Rattle.gb_limits.specs.Lexeme.{spelled_in, spells, terminal_of, text_at}
use Rattle.gb_limits.specs.declared.spelling.Spelling.{Spelling}
use Rattle.gb_limits.specs.declared.spelling.TheConstants.{SPELLINGS}
use Rattle.gb_read_script.specs.Words.{is_name, IsTokenOf, IsWord}
use Rattle.gb_print.proofs.Lexed.{lexed, lexed_after, lexed_at}
use Rattle.gb_print.proofs.LexemesAre.{lexemes_are}
use Rattle.gb_print.proofs.Sound.{bare_lexemes}
use Rattle.gb_print.specs.Written.{is_name_text, is_word}
use Rattle.gb_script.specs.declared.terminal.Terminal.{Terminal}
use Rattle.gb_script.specs.declared.terminal.Terminal.TheVariants as terminal
use Rattle.gb_script.specs.declared.text.Lexeme.{Lexeme}
use Rattle.gb_script.specs.declared.text.Text.{Text}
use Rattle.gb_script.specs.declared.tree.Node.{Node}
use Rattle.gb_script.specs.Each.{Each}
use Rattle.gb_script.specs.Text.{name_at, name_or_none, terminal_or_other}
use Rattle.gb_script.specs.Tree.{text_of}
use Rattle.gb_script.proofs.Each.{each_so}
use Rattle.gb_shown.proofs.Later.{both_hold, hold_both}
use Rattle.gb_shown.proofs.NamesBySorts.{IsWorded}

-- the bytes of a name, but for the words that are left out
pub record IsWordText (x : List ℕ) : Type 0 where
  pub word : is_word x ≡ true
  pub name : is_name (terminal_of Word x) ≡ true

-- a token of these bytes that is a name
abbrev NamedToken : Kind → List ℕ → Type 0
NamedToken k bs = is_name (terminal_of k bs) ≡ true → IsWordText (utf8_lossy bs)

-- Words.

start_is_byte : (b : ℕ) → is_word_start b ≡ true → is_word_byte b ≡ true
start_is_byte b h = grind (arith, nat_tests)

low_byte : (b : ℕ) → is_word_byte b ≡ true → b < 128
low_byte b h = grind (arith, nat_tests)

digit_no_start : (b : ℕ) → is_ascii_digit b ≡ true → is_word_start b ≡ false
digit_no_start b h = grind (arith, nat_tests)

ascii : (bs : List ℕ) → list_all is_word_byte bs ≡ true → IsAscii bs
ascii [] h i = omega arith
ascii (b ∷ bs) h zero = low_byte b (both_hold (is_word_byte b) (list_all is_word_byte bs) h).0
ascii (b ∷ bs) h (suc i) = ascii bs (both_hold (is_word_byte b) (list_all is_word_byte bs) h).1 i

prefix_all : (p : ℕ → Bool) (i : List ℕ) → list_all p (take (prefix_len p i) i) ≡ true
prefix_all p [] = refl
prefix_all p (x ∷ xs) = step (p x) refl (prefix_all p xs)
  where
    step : (t : Bool) → p x ≡ t → list_all p (take (prefix_len p xs) xs) ≡ true → list_all p (take (cond t (1 + prefix_len p xs) 0) (x ∷ xs)) ≡ true
    step true same h =
        let one : suc (prefix_len p xs) ≡ 1 + prefix_len p xs = omega arith in
        subst (λ n. list_all p (take n (x ∷ xs)) ≡ true) one (hold_both (p x) (list_all p (take (prefix_len p xs) xs)) same h)
    step false same h = refl

-- the first byte of a prefix
prefix_first : (p : ℕ → Bool) (b : ℕ) (rest : List ℕ) → p b ≡ true → take (prefix_len p (b ∷ rest)) (b ∷ rest) ≡ b ∷ take (prefix_len p rest) rest
prefix_first p b rest h =
    let one : 1 + prefix_len p rest ≡ suc (prefix_len p rest) = omega arith in
    ap (λ t. take (cond t (1 + prefix_len p rest) 0) (b ∷ rest)) h ∙ ap (λ n. take n (b ∷ rest)) one

word_token : (b : ℕ) (rest : List ℕ) → is_word_start b ≡ true → NamedToken Word (take (prefix_len is_word_byte (b ∷ rest)) (b ∷ rest))
word_token b rest s =
    let bs = take (prefix_len is_word_byte (b ∷ rest)) (b ∷ rest) in
    let w = take (prefix_len is_word_byte rest) rest in
    let are : bs ≡ b ∷ w = prefix_first is_word_byte b rest (start_is_byte b s) in
    let word : is_word bs ≡ true = subst (λ z. is_word z ≡ true) (sym are) (hold_both (is_word_start b) (list_all is_word_byte w) s (prefix_all is_word_byte rest)) in
    let same : utf8_lossy bs ≡ bs = utf8_lossy-IsUtf8 bs (IsUtf8-from_ascii bs (ascii bs (prefix_all is_word_byte (b ∷ rest)))) in
    λ h. subst IsWordText (sym same) (record { word = word; name = h })

-- Other tokens are no names: each spelling of one begins as a word.

abbrev starts_word : List ℕ → Bool
starts_word [] = false
starts_word (b ∷ bs) = is_word_start b

abbrev implies : Bool → Bool → Bool
implies true c = c
implies false c = true

abbrev spelling_ok : Spelling → Bool
spelling_ok s = implies (is_name s.terminal) (starts_word s.text)

table_ok : list_all spelling_ok SPELLINGS ≡ true
table_ok = refl

implied : (a c : Bool) → implies a c ≡ true → a ≡ true → c ≡ true
implied true c h k = h
implied false c h k = absurd (false≢true k)

first_same : (text : List ℕ) (b : ℕ) (w : List ℕ) → spells text (b ∷ w) ≡ true → starts_word text ≡ true → is_word_start b ≡ true
unfolding spells
first_same [] b w h k = absurd (false≢true k)
first_same (t ∷ text) b w h k =
    let both = both_hold _ _ h in
    let first = both_hold (nat_eq b t) _ both.0 in
    subst (λ z. is_word_start z ≡ true) (sym (eqb-true b t first.0)) k

in_table : (ss : List Spelling) → list_all spelling_ok ss ≡ true → (b : ℕ) (w : List ℕ) (t : Terminal) → spelled_in ss (b ∷ w) ≡ Some t → is_name t ≡ true → is_word_start b ≡ true
in_table [] ok b w t e h = absurd (cc)
in_table (s ∷ ss) ok b w t e h = let k = both_hold (spelling_ok s) (list_all spelling_ok ss) ok in step (spells s.text (b ∷ w)) refl k.0 (λ e. in_table ss k.1 b w t e h) e
  where
    step : (c : Bool) → spells s.text (b ∷ w) ≡ c → spelling_ok s ≡ true → (spelled_in ss (b ∷ w) ≡ Some t → is_word_start b ≡ true) → (if c then Some s.terminal else spelled_in ss (b ∷ w)) ≡ Some t → is_word_start b ≡ true
    step true same o behind i = let is : s.terminal ≡ t = cc in first_same s.text b w same (implied (is_name s.terminal) (starts_word s.text) o (subst (λ z. is_name z ≡ true) (sym is) h))
    step false same o behind i = behind i

no_start : {X : Type 0} (b : ℕ) (w : List ℕ) (d : Terminal) → is_name d ≡ false → is_word_start b ≡ false → is_name (unwrap_or (spelled_in SPELLINGS (b ∷ w)) d) ≡ true → X
no_start {X} b w d n s h = by_spelling (spelled_in SPELLINGS (b ∷ w)) refl h
  where
    by_spelling : (o : Option Terminal) → spelled_in SPELLINGS (b ∷ w) ≡ o → is_name (unwrap_or o d) ≡ true → X
    by_spelling (Some t) e i = absurd (false≢true (sym s ∙ in_table SPELLINGS table_ok b w t e i))
    by_spelling None e i = absurd (false≢true (sym n ∙ i))

number_token : (b : ℕ) (w : List ℕ) → is_word_start b ≡ false → NamedToken Number (b ∷ w)
number_token b w s h = no_start b w terminal.Number refl s h

symbol_token : (b : ℕ) (w : List ℕ) → is_word_start b ≡ false → NamedToken Symbol (b ∷ w)
symbol_token b w s h = no_start b w terminal.Other refl s h

-- Pieces.

abbrev At : What → List ℕ → ℕ → Type 0
At (IsToken k) i size = NamedToken k (take size i)
At Blank i size = Unit {0}
At Unclosed i size = Unit {0}
At Faulty i size = Unit {0}

abbrev Good : List ℕ → Piece → Type 0
Good i p = At p.what i p.size

by_test : (i : List ℕ) (t : Bool) (p q : Piece) → (t ≡ true → Good i p) → (t ≡ false → Good i q) → Good i (if t then p else q)
by_test i true p q h k = h refl
by_test i false p q h k = k refl

comment_good : (i : List ℕ) (o : Option ℕ) (size : ℕ) → Good i (comment o size)
comment_good i None size = tt
comment_good i (Some e) size = tt

symbol_good : (b : ℕ) (rest : List ℕ) (n : ℕ) → is_word_start b ≡ false → Good (b ∷ rest) (symbol n)
symbol_good b rest zero s = tt
symbol_good b rest (suc n) s = symbol_token b (take n rest) s

number_good : (b : ℕ) (rest : List ℕ) → is_ascii_digit b ≡ true → NamedToken Number (take (prefix_len is_ascii_digit (b ∷ rest)) (b ∷ rest))
number_good b rest d = subst (NamedToken Number) (sym (prefix_first is_ascii_digit b rest d)) (number_token b (take (prefix_len is_ascii_digit rest) rest) (digit_no_start b d))

final_good : (bs : List ℕ) → NamedToken Final bs
final_good bs h = absurd (false≢true h)

piece_good : (b : ℕ) (rest : List ℕ) → Good (b ∷ rest) (first_piece (b ∷ rest))
unfolding first_piece
piece_good b rest =
    let i = b ∷ rest in
    by_test i (is_white b) _ _ (λ _. tt)
    (λ _. by_test i (opens_comment i) _ _ (λ _. comment_good i _ _)
    (λ _. by_test i (is_word_start b) _ _ (λ s. word_token b rest s)
    (λ s. by_test i (is_ascii_digit b) _ _ (λ d. number_good b rest d)
    (λ _. by_test i (b == 46 && goes_on_path rest) _ _ (λ _. symbol_token b [] s)
    (λ _. by_test i (b == 46 && follows_command rest) _ _ (λ _. final_good _) (λ _. symbol_good b rest _ s))))))

abbrev GoodLexeme : Lexeme → Type 0
GoodLexeme l = is_name l.terminal ≡ true → IsWordText l.name

at_piece : (w : What) (i : List ℕ) (size : ℕ) (later : List Lexeme) → At w i size → AllByRecursion GoodLexeme later → AllByRecursion GoodLexeme (lexed_at w i size later)
at_piece (IsToken k) i size later h l = (h, l)
at_piece Blank i size later h l = l
at_piece Unclosed i size later h l = l
at_piece Faulty i size later h l = l

all_lexed : (n : ℕ) (i : List ℕ) → AllByRecursion GoodLexeme (lexed_after n i)
unfolding lexed_after
all_lexed n [] = tt
all_lexed (suc n) (b ∷ rest) = all_lexed n rest
all_lexed zero (b ∷ rest) = at_piece (first_piece (b ∷ rest)).what (b ∷ rest) (first_piece (b ∷ rest)).size _ (piece_good b rest) (all_lexed ((first_piece (b ∷ rest)).size - 1) rest)

lexed_good : (i : List ℕ) → AllByRecursion GoodLexeme (lexed i)
unfolding lexed
lexed_good i = all_lexed 0 i

-- the same of the tokens of a text, at their places
placed_good : (ls : List Lexeme) → AllByRecursion GoodLexeme (bare_lexemes ls) → AllByRecursion GoodLexeme ls
placed_good [] h = tt
placed_good (l ∷ ls) h = (h.0, placed_good ls h.1)

there : (ls : List Lexeme) → AllByRecursion GoodLexeme ls → (i : ℕ) (l : Lexeme) → slice_get ls i ≡ Some l → GoodLexeme l
there [] h i l e = absurd (cc)
there (k ∷ ls) h zero l e = let same : k ≡ l = cc in subst GoodLexeme same h.0
there (k ∷ ls) h (suc i) l e = there ls h.1 i l e

-- what is left out is no name
kept : (before name : List ℕ) → is_left_out before name ≡ false → not (is_word_of LEFT_OUT name) ≡ true
kept before name h = step (is_word_of LEFT_OUT name) _ _ h
  where
    step : (b c d : Bool) → (b || c || d) ≡ false → not b ≡ true
    step true c d h = absurd (false≢true (sym h))
    step false c d h = refl

module _ (piece : List ℕ) (at : Place) (kept_all : NoneLeftOut (text_at piece at (tokens_of piece))) where
  abbrev t : Text
  t = text_at piece at (tokens_of piece)

  all_good : AllByRecursion GoodLexeme t.lexemes
  all_good = placed_good t.lexemes (subst (AllByRecursion GoodLexeme) (sym (lexemes_are at piece)) (lexed_good piece))

  token_named : (i : ℕ) (o : Option Lexeme) → slice_get t.lexemes i ≡ o → is_name (terminal_or_other o) ≡ true → is_name_text (name_or_none o) ≡ true
  token_named i None e h = absurd (false≢true h)
  token_named i (Some l) e h =
      let w = there t.lexemes all_good i l e h in
      let out : left_out_at t i ≡ false = kept_all i (slice_get_within t.lexemes i l e) in
      let here : name_at t i ≡ l.name = ap name_or_none e in
      let stays = kept (name_before t i) (name_at t i) out in
      hold_both (is_word l.name) _ w.word (hold_both (is_name (terminal_of Word l.name)) (not (is_word_of LEFT_OUT l.name)) w.name (subst (λ x. not (is_word_of LEFT_OUT x) ≡ true) here stays))

  worded_token : (x : Node) → IsTokenOf is_name t x → is_name_text (text_of x) ≡ true
  worded_token x k = subst (λ y. is_name_text y ≡ true) (sym k.2) (token_named k.0 (slice_get t.lexemes k.0) refl k.1)

  -- each name of a tree that such tokens spell is one
  pub all_worded : (x : Node) → Each (IsWord t) x → Each IsWorded x
  all_worded x d = each_so (IsWord t) IsWorded (λ y w. (λ e. worded_token y (let k = w in k.name e))) d
