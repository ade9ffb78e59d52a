-- Tokens begin with no blank, and so do the texts of nodes, which are theirs.
use Rattle.std.proofs.Common.{◌≡◌, ℕ, zero, suc, ◌-◌, ◌==◌, Bool, true, false, ◌||◌, if◌then◌else◌, List, [], ◌∷◌, ◌++◌, length, take, refl, ap, sym, ◌∙◌, subst}
use Rattle.std.proofs.lemmas.Bool.{false≢true}
use Rattle.std.specs.List.{AllByRecursion}
use Rattle.std.specs.Prelude.{slice_get}
use Rattle.std.specs.Str.Lossy.{utf8_lossy, utf8_lossy_within, utf8_valid_len, after_first_chunk, replacement_bytes}
use Rattle.gb_core.specs.declared.place.Place.{Place}
use Rattle.gb_lex.specs.Byte.{is_white}
use Rattle.gb_lex.specs.Lex.{tokens_of}
use Rattle.gb_lex.specs.Piece.{first_piece}
use Rattle.gb_lex.specs.declared.token.Piece.{Piece}
use Rattle.gb_lex.specs.declared.token.What.{What}
use Rattle.gb_lex.specs.declared.token.What.TheVariants.{Blank, Unclosed, Token as IsToken, Faulty}
use Rattle.gb_limits.specs.Lexeme.{kinds_of, text_at}
use Rattle.gb_language.specs.Language.{node_signatures, node_spelling, still_kinds, IsTreeSpelled}
use Rattle.gb_script.specs.declared.text.Lexeme.{Lexeme}
use Rattle.gb_script.specs.declared.text.Text.{Text}
use Rattle.gb_script.specs.declared.tree.Node.{Node}
use Rattle.gb_script.specs.Each.{Each}
use Rattle.gb_script.specs.Spelled.{IsSpelled, IsSpelledBy, stays}
use Rattle.gb_script.specs.Text.{name_or_none}
use Rattle.gb_script.specs.Tree.{head_of, text_of, place_of}
use Rattle.gb_script.proofs.Each.{each_so}
use Rattle.gb_print.specs.Blank.{begins_blank, IsUnblank}
use Rattle.gb_print.proofs.Lexed.{lexed, lexed_after, lexed_at}
use Rattle.gb_print.proofs.LexemesAre.{lexemes_are}
use Rattle.gb_print.proofs.Sound.{bare_lexemes}

-- Bytes, and the text that they make.

taken : (b : ℕ) (w rest : List ℕ) (n : ℕ) → (b == 32) ≡ false → begins_blank (take n (b ∷ w) ++ (replacement_bytes ++ rest)) ≡ false
taken b w rest zero e = refl
taken b w rest (suc n) e = e

lossy_begins : (b : ℕ) (w : List ℕ) → (b == 32) ≡ false → begins_blank (utf8_lossy (b ∷ w)) ≡ false
unfolding utf8_lossy
lossy_begins b w e = step (utf8_valid_len (b ∷ w) == length (b ∷ w))
  where
    step : (t : Bool) →
        begins_blank (if t then b ∷ w else take (utf8_valid_len (b ∷ w)) (b ∷ w) ++ (replacement_bytes ++ utf8_lossy_within (length w) (after_first_chunk (b ∷ w)))) ≡ false
    step true = e
    step false = taken b w _ (utf8_valid_len (b ∷ w)) e

none_begins : begins_blank (utf8_lossy []) ≡ false
unfolding utf8_lossy
none_begins = refl

front_begins : (b : ℕ) (rest : List ℕ) (size : ℕ) → (b == 32) ≡ false → begins_blank (utf8_lossy (take size (b ∷ rest))) ≡ false
front_begins b rest zero e = none_begins
front_begins b rest (suc n) e = lossy_begins b (take n rest) e

-- Pieces.

abbrev At : What → List ℕ → ℕ → Type 0
At (IsToken k) i size = begins_blank (utf8_lossy (take size i)) ≡ false
At Blank i size = Unit {0}
At Unclosed i size = Unit {0}
At Faulty i size = Unit {0}

abbrev Good : List ℕ → Piece → Type 0
Good i p = At p.what i p.size

by_test : (i : List ℕ) (t : Bool) (p q : Piece) → (t ≡ true → Good i p) → (t ≡ false → Good i q) → Good i (if t then p else q)
by_test i true p q h k = h refl
by_test i false p q h k = k refl

at_good : (b : ℕ) (rest : List ℕ) → (b == 32) ≡ false → (w : What) (size : ℕ) → At w (b ∷ rest) size
at_good b rest e (IsToken k) size = front_begins b rest size e
at_good b rest e Blank size = tt
at_good b rest e Unclosed size = tt
at_good b rest e Faulty size = tt

no_space : (b : ℕ) → is_white b ≡ false → (b == 32) ≡ false
no_space b s = step (b == 32) refl
  where
    step : (t : Bool) → (b == 32) ≡ t → t ≡ false
    step false k = refl
    step true k = absurd (false≢true (sym s ∙ ap (λ t. t || b == 9 || b == 13 || b == 10) k))

piece_good : (b : ℕ) (rest : List ℕ) → Good (b ∷ rest) (first_piece (b ∷ rest))
unfolding first_piece
piece_good b rest = by_test (b ∷ rest) (is_white b) _ _ (λ _. tt) (λ s. at_good b rest (no_space b s) _ _)

abbrev GoodLexeme : Lexeme → Type 0
GoodLexeme l = begins_blank l.name ≡ false

at_piece : (w : What) (i : List ℕ) (size : ℕ) (later : List Lexeme) → At w i size → AllByRecursion GoodLexeme later → AllByRecursion GoodLexeme (lexed_at w i size later)
at_piece (IsToken k) i size later h l = (h, l)
at_piece Blank i size later h l = l
at_piece Unclosed i size later h l = l
at_piece Faulty i size later h l = l

all_lexed : (n : ℕ) (i : List ℕ) → AllByRecursion GoodLexeme (lexed_after n i)
unfolding lexed_after
all_lexed n [] = tt
all_lexed (suc n) (b ∷ rest) = all_lexed n rest
all_lexed zero (b ∷ rest) = at_piece (first_piece (b ∷ rest)).what (b ∷ rest) (first_piece (b ∷ rest)).size _ (piece_good b rest) (all_lexed ((first_piece (b ∷ rest)).size - 1) rest)

lexed_good : (i : List ℕ) → AllByRecursion GoodLexeme (lexed i)
unfolding lexed
lexed_good i = all_lexed 0 i

-- the same of the tokens of a text, at their places
placed_good : (ls : List Lexeme) → AllByRecursion GoodLexeme (bare_lexemes ls) → AllByRecursion GoodLexeme ls
placed_good [] h = tt
placed_good (l ∷ ls) h = (h.0, placed_good ls h.1)

named_good : (ls : List Lexeme) → AllByRecursion GoodLexeme ls → (i : ℕ) → begins_blank (name_or_none (slice_get ls i)) ≡ false
named_good [] h i = refl
named_good (l ∷ ls) h zero = h.0
named_good (l ∷ ls) h (suc i) = named_good ls h.1 i

-- Nodes.

module _ (piece : List ℕ) (at : Place) where
  abbrev t : Text
  t = text_at piece at (tokens_of piece)

  all_good : AllByRecursion GoodLexeme t.lexemes
  all_good = placed_good t.lexemes (subst (AllByRecursion GoodLexeme) (sym (lexemes_are at piece)) (lexed_good piece))

  spelled_unblank : (ks : List ℕ) (still : Bool) (x : List ℕ) (p : Place) → IsSpelledBy (kinds_of t) t ks still x p → begins_blank x ≡ false
  spelled_unblank [] still x p e = ap begins_blank e
  spelled_unblank (k ∷ ks) still x p w = ap begins_blank w.bytes ∙ named_good t.lexemes all_good w.at

  pub all_unblank : (x : Node) → IsTreeSpelled (kinds_of t) t x → Each IsUnblank x
  all_unblank x d =
      each_so (IsSpelled node_signatures node_spelling still_kinds (kinds_of t) t) IsUnblank
      (λ y w. spelled_unblank (node_spelling (head_of y)) (stays node_signatures still_kinds (head_of y)) (text_of y) (place_of y) w) d
