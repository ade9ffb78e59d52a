-- Pieces follow one another.
use Rattle.std.proofs.Common.{Bool, true, false, if◌then◌else◌, nat_eq, Option, Some, None, ◌≡◌, ℕ, zero, suc, ◌+◌, ◌-◌, ◌≤◌, ◌<◌, List, [], ◌∷◌, length, drop, take, refl, ap, subst, sym, ◌∙◌, arith, length-drop}
use Rattle.std.proofs.lemmas.List.{drop-drop}
use Rattle.std.proofs.lemmas.List.Sums.{prefix_len-le-length}
use Rattle.gb_lex.proofs.SymbolLemmas.{symbol_size-le}
use Rattle.std.proofs.Math.ListN.{drop_of_length-le}
use Rattle.std.proofs.Math.Seq.{take-length}
use Rattle.gb_lex.specs.declared.token.Piece.{Piece}
use Rattle.std.specs.Prelude.{◌&&◌, ◌==◌}
use Rattle.std.specs.List.{prefix_len}
use Rattle.std.specs.Char.{is_ascii_digit}
use Rattle.std.proofs.lemmas.Bool.Decides.{nat_tests}
use Rattle.gb_lex.specs.Byte.{is_white, is_word_start, is_word_byte}
use Rattle.gb_lex.specs.Comment.{opens_comment, comment_end}
use Rattle.gb_lex.specs.Symbol.{symbol_size}
use Rattle.gb_lex.specs.Piece.{goes_on_path, follows_command, comment, symbol, first_piece, pieces_after, pieces_of}
use Rattle.gb_lex.proofs.CommentLemmas.{comment_end-within}

pub pieces_after-drop : (n : ℕ) (text : List ℕ) → pieces_after n text ≡ pieces_of (drop n text)
unfolding pieces_after
pieces_after-drop zero text = refl
pieces_after-drop (suc n) [] = refl
pieces_after-drop (suc n) (b ∷ rest) = pieces_after-drop n rest

drop-behind : (b : ℕ) (rest : List ℕ) (n : ℕ) → 0 < n → drop (n - 1) rest ≡ drop n (b ∷ rest)
drop-behind b rest zero h = absurd (omega (arith, h))
drop-behind b rest (suc n) h = let e : suc n - 1 ≡ n = omega arith in ap (λ k. drop k rest) e

pub pieces_of-first : (text : List ℕ) → 0 < length text → 0 < (first_piece text).size
    → pieces_of text ≡ first_piece text ∷ pieces_of (drop (first_piece text).size text)
unfolding pieces_after
pieces_of-first [] h some = absurd (omega (arith, h))
pieces_of-first (b ∷ rest) h some =
    ap (λ more. first_piece (b ∷ rest) ∷ more)
    (pieces_after-drop ((first_piece (b ∷ rest)).size - 1) rest
    ∙ ap pieces_of (drop-behind b rest (first_piece (b ∷ rest)).size some))

pieces_of-drop : (text : List ℕ) (at : ℕ) → at < length text → 0 < (first_piece (drop at text)).size
    → pieces_of (drop at text)
    ≡ first_piece (drop at text) ∷ pieces_of (drop (at + (first_piece (drop at text)).size) text)
pieces_of-drop text at h some =
    pieces_of-first (drop at text) (omega (arith, length-drop at text)) some
    ∙ ap (λ rest. first_piece (drop at text) ∷ pieces_of rest)
    (drop-drop (first_piece (drop at text)).size at text)

-- the piece `p` at the offset `at`, and the pieces behind it
pub pieces_of-at : (text : List ℕ) (at : ℕ) (p : Piece) → p ≡ first_piece (drop at text) → at < length text → 0 < p.size
    → pieces_of (drop at text) ≡ p ∷ pieces_of (drop (at + p.size) text)
pieces_of-at text at p e h some =
    let P : Piece → Type 0 = λ q. 0 < q.size → pieces_of (drop at text) ≡ q ∷ pieces_of (drop (at + q.size) text) in
    subst P (sym e) (pieces_of-drop text at h) some

pub pieces_of-end : (text : List ℕ) (at : ℕ) → length text ≤ at → pieces_of (drop at text) ≡ []
unfolding pieces_after
pieces_of-end text at h = rw (drop_of_length-le text h) refl

-- the same at what a slice from `at` on holds
pub pieces_of_from : (text : List ℕ) (at : ℕ) (p : Piece) → p ≡ first_piece (take (length text - at) (drop at text))
    → at < length text → 0 < p.size → pieces_of (drop at text) ≡ p ∷ pieces_of (drop (at + p.size) text)
pieces_of_from text at p e h some =
    pieces_of-at text at p
    (e ∙ ap first_piece (ap (λ n. take n (drop at text)) (sym (length-drop at text)) ∙ take-length (drop at text))) h some

pub ruleset sizes = (symbol_size-le, prefix_len-le-length)

-- a piece of a byte at least, in a text of `size` bytes
abbrev pub IsWithin : Piece → ℕ → Type 0
IsWithin p size = (0 < p.size) × (p.size ≤ size)

either-within : (size : ℕ) (b : Bool) (p q : Piece) → (b ≡ true → IsWithin p size) → IsWithin q size
    → IsWithin (if b then p else q) size
either-within size true p q hp hq = hp refl
either-within size false p q hp hq = hq

prefix_len-some : (test : ℕ → Bool) (b : ℕ) (rest : List ℕ) → test b ≡ true → 0 < prefix_len test (b ∷ rest)
prefix_len-some test b rest h = rw h (omega arith)

is_word_byte-start : (b : ℕ) → is_word_start b ≡ true → is_word_byte b ≡ true
is_word_byte-start b h = grind (arith, nat_tests)

and-false : (b : Bool) → (b && false) ≡ false
and-false true = refl
and-false false = refl

comment-some : (b c : ℕ) (rest : List ℕ) (o : Option ℕ) → ((end : ℕ) → o ≡ Some end → end ≤ length rest)
    → IsWithin (comment o (length (b ∷ c ∷ rest))) (length (b ∷ c ∷ rest))
comment-some b c rest None within = (omega arith, omega arith)
comment-some b c rest (Some end) within = let h : end ≤ length rest = within end refl in (omega arith, omega arith)

comment-within : (b : ℕ) (rest : List ℕ) → opens_comment (b ∷ rest) ≡ true
    → IsWithin (comment (comment_end 1 0 0 (drop 1 rest)) (length (b ∷ rest))) (length (b ∷ rest))
comment-within b [] h = let no = and-false (nat_eq 40 b) in absurd (cc)
comment-within b (c ∷ rest) h =
    comment-some b c rest (comment_end 1 0 0 rest)
    (λ end e. let h : end ≤ 0 + length rest = comment_end-within rest 1 0 0 end e in omega arith)

symbol-within : (n size : ℕ) → 1 ≤ size → n ≤ size → IsWithin (symbol n) size
symbol-within zero size some within = (omega arith, omega arith)
symbol-within (suc n) size some within = (omega arith, omega arith)

pub first_piece-within : (b : ℕ) (rest : List ℕ) → IsWithin (first_piece (b ∷ rest)) (length (b ∷ rest))
unfolding first_piece
first_piece-within b rest =
    let size : ℕ = length (b ∷ rest) in
    either-within size (is_white b) _ _ (λ h. (omega arith, omega arith))
    (either-within size (opens_comment (b ∷ rest)) _ _ (comment-within b rest)
    (either-within size (is_word_start b) _ _
    (λ h. (prefix_len-some is_word_byte b rest (is_word_byte-start b h), prefix_len-le-length is_word_byte (b ∷ rest)))
    (either-within size (is_ascii_digit b) _ _
    (λ h. (prefix_len-some is_ascii_digit b rest h, prefix_len-le-length is_ascii_digit (b ∷ rest)))
    (either-within size (b == 46 && goes_on_path rest) _ _ (λ h. (omega arith, omega arith))
    (either-within size (b == 46 && follows_command rest) _ _ (λ h. (omega arith, omega arith))
    (symbol-within (symbol_size (b ∷ rest)) size (omega arith) (symbol_size-le (b ∷ rest))))))))
