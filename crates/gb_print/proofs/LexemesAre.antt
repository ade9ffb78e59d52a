-- The tokens of a text, but for their places, one after another.
use Rattle.std.specs.Prelude.{ℕ, zero, suc, ◌≡◌, ◌+◌, ◌-◌, List, [], ◌∷◌, ◌++◌, length, map, take, slice_range}
use Rattle.std.specs.Str.Lossy.{utf8_lossy}
use Rattle.std.proofs.Common.{refl, ap₂, sym, subst, arith, append_assoc, length-append}
use Rattle.std.proofs.Math.Seq.{drop-append_seam}
use Rattle.gb_core.specs.declared.place.Place.{Place}
use Rattle.gb_lex.specs.declared.token.What.{What}
use Rattle.gb_lex.specs.declared.token.What.TheVariants.{Blank, Unclosed, Token as IsToken, Faulty}
use Rattle.gb_lex.specs.declared.token.Piece.{Piece}
use Rattle.gb_lex.specs.Piece.{first_piece, pieces_after, pieces_of}
use Rattle.gb_lex.specs.Lex.{with_token, tokens_among, tokens_of}
use Rattle.gb_lex.proofs.PieceLemmas.{first_piece-within}
use Rattle.gb_limits.specs.Lexeme.{terminal_of, lexeme_of, text_at}
use Rattle.gb_script.specs.declared.text.Lexeme.{Lexeme}
use Rattle.gb_print.proofs.Reading.{lexeme}
use Rattle.gb_print.proofs.Sound.{bare_lexemes}
use Rattle.gb_print.proofs.Lexed.{lexed, lexed_after, lexed_at}

-- the bytes of a piece behind others
piece_bytes : (front i : List ℕ) (size : ℕ) → slice_range (front ++ i) (length front) (length front + size) ≡ take size i
piece_bytes front i size =
    let e : (length front + size) - length front ≡ size = omega arith in
    ap₂ (λ n l. take n l) e (drop-append_seam front i)

more_front : (front : List ℕ) (b : ℕ) (rest : List ℕ) → (front ++ b ∷ []) ++ rest ≡ front ++ b ∷ rest
more_front front b rest = append_assoc front (b ∷ []) rest

one_longer : (front : List ℕ) (b n : ℕ) → length (front ++ b ∷ []) + n ≡ length front + suc n
one_longer front b n = omega (arith, length-append front (b ∷ []))

module _ (place : Place) where
  -- what the tokens among the pieces behind some bytes are
  abbrev Are : List ℕ → List ℕ → ℕ → Type 0
  Are front i n = bare_lexemes (map (lexeme_of (front ++ i) place) (tokens_among (length front + n) (pieces_after n i))) ≡ lexed_after n i

  moved : (front : List ℕ) (b : ℕ) (rest : List ℕ) (n : ℕ) → Are (front ++ b ∷ []) rest n
      → bare_lexemes (map (lexeme_of (front ++ b ∷ rest) place) (tokens_among (length front + suc n) (pieces_after n rest))) ≡ lexed_after n rest
  moved front b rest n h =
      subst (λ k. bare_lexemes (map (lexeme_of (front ++ b ∷ rest) place) (tokens_among k (pieces_after n rest))) ≡ lexed_after n rest) (one_longer front b n)
      (subst (λ t. bare_lexemes (map (lexeme_of t place) (tokens_among (length (front ++ b ∷ []) + n) (pieces_after n rest))) ≡ lexed_after n rest) (more_front front b rest) h)

  piece_by : (front : List ℕ) (b : ℕ) (rest : List ℕ) (w : What) (size : ℕ) (ps : List Piece) (later : List Lexeme)
      → bare_lexemes (map (lexeme_of (front ++ b ∷ rest) place) (tokens_among (length front + size) ps)) ≡ later
      → bare_lexemes (map (lexeme_of (front ++ b ∷ rest) place) (with_token w (length front) (length front + size) (tokens_among (length front + size) ps))) ≡ lexed_at w (b ∷ rest) size later
  piece_by front b rest Blank size ps later h = h
  piece_by front b rest Unclosed size ps later h = h
  piece_by front b rest Faulty size ps later h = h
  piece_by front b rest (IsToken kind) size ps later h = ap₂ (λ bytes l. lexeme (terminal_of kind bytes) (utf8_lossy bytes) ∷ l) (piece_bytes front (b ∷ rest) size) h

  are : (n : ℕ) (i front : List ℕ) → Are front i n
  unfolding pieces_after lexed_after
  are n [] front = refl
  are (suc n) (b ∷ rest) front = moved front b rest n (are n rest (front ++ b ∷ []))
  are zero (b ∷ rest) front =
      let p = first_piece (b ∷ rest) in
      let within = (first_piece-within b rest).0 in
      let size : suc (p.size - 1) ≡ p.size = omega (arith, within) in
      let start : length front + 0 ≡ length front = omega arith in
      let later : bare_lexemes (map (lexeme_of (front ++ b ∷ rest) place) (tokens_among (length front + p.size) (pieces_after (p.size - 1) rest))) ≡ lexed_after (p.size - 1) rest =
      subst (λ k. bare_lexemes (map (lexeme_of (front ++ b ∷ rest) place) (tokens_among (length front + k) (pieces_after (p.size - 1) rest))) ≡ lexed_after (p.size - 1) rest) size
      (moved front b rest (p.size - 1) (are (p.size - 1) rest (front ++ b ∷ []))) in
      subst (λ k. bare_lexemes (map (lexeme_of (front ++ b ∷ rest) place) (with_token p.what k (k + p.size) (tokens_among (k + p.size) (pieces_after (p.size - 1) rest)))) ≡ lexed_at p.what (b ∷ rest) p.size (lexed_after (p.size - 1) rest)) (sym start)
      (piece_by front b rest p.what p.size (pieces_after (p.size - 1) rest) (lexed_after (p.size - 1) rest) later)

  pub lexemes_are : (bytes : List ℕ) → bare_lexemes (text_at bytes place (tokens_of bytes)).lexemes ≡ lexed bytes
  unfolding lexed
  lexemes_are bytes = are 0 bytes []

  -- the tokens behind some bytes
  pub behind_are : (front i : List ℕ) → bare_lexemes (map (lexeme_of (front ++ i) place) (tokens_among (length front) (pieces_of i))) ≡ lexed i
  unfolding lexed
  behind_are front i =
      let e : length front + 0 ≡ length front = omega arith in
      subst (λ n. bare_lexemes (map (lexeme_of (front ++ i) place) (tokens_among n (pieces_of i))) ≡ lexed_after 0 i) e (are 0 i front)
