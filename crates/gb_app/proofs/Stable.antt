-- A command that is followed by a byte ends at the same place where more follows.
use Rattle.std.proofs.Common.{◌≡◌, ◌⊎◌, inl, inr, ℕ, zero, suc, ◌+◌, ◌-◌, ◌<◌, ◌≤◌, Bool, true, false, List, [], ◌∷◌, ◌++◌, length, arith, refl, ap, sym, subst, if◌then◌else◌, Option, Some, None}
use Rattle.std.specs.Prelude.{◌==◌, ◌&&◌, ◌||◌, nat_eq}
use Rattle.std.specs.List.{prefix_len}
use Rattle.std.specs.Char.{is_ascii_digit}
use Rattle.gb_lex.specs.declared.token.Piece.{Piece}
use Rattle.gb_lex.specs.declared.token.Kind.{Kind}
use Rattle.gb_lex.specs.declared.token.Kind.TheVariants.{Word, Number, Final}
use Rattle.gb_lex.specs.declared.token.Cut.TheVariants.{Command}
use Rattle.gb_lex.specs.Byte.{is_white, is_word_start, is_word_byte}
use Rattle.gb_lex.specs.Comment.{opens_comment, comment_end, ended, next_depth, next_last}
use Rattle.gb_lex.specs.Symbol.{pair_size, symbol_size}
use Rattle.gb_lex.specs.Piece.{goes_on_path, follows_command, token, comment, symbol, first_piece, pieces_after, pieces_of}
use Rattle.gb_lex.specs.Lex.{is_final, final_among, are_blank, cut_of}
use Rattle.gb_theory.proofs.Cuts.{final_among-within, cut_at-final}
use Rattle.gb_lex.proofs.PieceLemmas.{IsWithin, first_piece-within}

-- the piece is a final dot with a byte behind it, or two bytes at least stand behind it, in a text of so many bytes
abbrev HasRoom : Piece → ℕ → Type 0
HasRoom p size = ((is_final p.what ≡ true) × (p.size < size)) ⊎ (p.size + 2 ≤ size)

if_stays : (t : Bool) (p q p' q' : Piece) (n : ℕ) → (HasRoom p n → p' ≡ p) → (HasRoom q n → q' ≡ q) → HasRoom (if t then p else q) n
    → (if t then p' else q') ≡ (if t then p else q)
if_stays true p q p' q' n hp hq room = hp room
if_stays false p q p' q' n hp hq room = hq room

no_room : (k : Kind) (size n : ℕ) → is_final (token k size).what ≡ false → HasRoom (token k size) n → size < n
no_room k size n other (inl h) = h.1
no_room k size n other (inr h) = omega (arith, h)

front_stays : (t : Bool) (j k n : ℕ) → (j < n → k ≡ j) → (if t then 1 + j else 0) < suc n → (if t then 1 + k else 0) ≡ (if t then 1 + j else 0)
front_stays true j k n h less = ap (λ (m : ℕ). 1 + m) (h (omega (arith, less)))
front_stays false j k n h less = refl

-- what goes on behind a front that ends within the text
prefix_stays : (test : ℕ → Bool) (xs ys : List ℕ) → prefix_len test xs < length xs → prefix_len test (xs ++ ys) ≡ prefix_len test xs
prefix_stays test [] ys h = absurd (omega (arith, h))
prefix_stays test (x ∷ xs) ys h = front_stays (test x) (prefix_len test xs) (prefix_len test (xs ++ ys)) (length xs) (prefix_stays test xs ys) h

ended_stays : (depth at end : ℕ) (later more : Option ℕ) → (later ≡ Some end → more ≡ Some end) → ended depth at later ≡ Some end → ended depth at more ≡ Some end
ended_stays zero at end later more h e = e
ended_stays (suc depth) at end later more h e = h e

comment_stays : (xs ys : List ℕ) (depth last at end : ℕ) → comment_end depth last at xs ≡ Some end → comment_end depth last at (xs ++ ys) ≡ Some end
unfolding comment_end
comment_stays [] ys depth last at end e = absurd (cc)
comment_stays (b ∷ xs) ys depth last at end e =
    ended_stays (next_depth depth last b) at end _ _ (comment_stays xs ys (next_depth depth last b) (next_last last b) (at + 1) end) e

comment_same : (o p : Option ℕ) (size longer : ℕ) → ((end : ℕ) → o ≡ Some end → p ≡ Some end) → HasRoom (comment o size) size
    → comment p longer ≡ comment o size
comment_same None p size longer h (inl r) = absurd (cc)
comment_same None p size longer h (inr r) = absurd (omega (arith, r))
comment_same (Some end) p size longer h room = ap (λ (x : Option ℕ). comment x longer) (h end refl)

symbol_without : (k : ℕ) → HasRoom (symbol k) 2 → ⊥
symbol_without zero (inl r) = absurd (cc)
symbol_without zero (inr r) = omega (arith, r)
symbol_without (suc k) (inl r) = absurd (cc)
symbol_without (suc k) (inr r) = omega (arith, r)

-- a piece of one byte has no room in it
alone : (b : ℕ) → HasRoom (first_piece (b ∷ [])) 1 → ⊥
alone b (inl r) = let some = first_piece-within b [] in omega (arith, r.1, some.0)
alone b (inr r) = let some = first_piece-within b [] in omega (arith, r, some.0)

opens_alone : (c : ℕ) → opens_comment (c ∷ []) ≡ false
opens_alone c = by_test (nat_eq 40 c)
  where
    by_test : (t : Bool) → (t && false) ≡ false
    by_test true = refl
    by_test false = refl

-- a dot that is followed by one byte
dot_stays : (d w o p : Bool) (j k : ℕ) → o ≡ false → HasRoom (if d && (w || o) then token Final 1 else symbol j) 2
    → (if d && (w || p) then token Final 1 else symbol k) ≡ (if d && (w || o) then token Final 1 else symbol j)
dot_stays true true o p j k none room = refl
dot_stays true false true p j k none room = absurd (cc)
dot_stays true false false p j k none room = absurd (symbol_without j room)
dot_stays false w o p j k none room = absurd (symbol_without j room)

-- the piece at the front of a text stays where the text goes on
piece_stays : (b : ℕ) (rest ys : List ℕ) → HasRoom (first_piece (b ∷ rest)) (length (b ∷ rest)) → first_piece (b ∷ rest ++ ys) ≡ first_piece (b ∷ rest)
unfolding first_piece symbol_size comment_end
piece_stays b [] ys = λ room. absurd (alone b room)
piece_stays b (c ∷ []) ys =
    if_stays (is_white b) _ _ _ _ 2 (λ _. refl)
    (if_stays (opens_comment (b ∷ c ∷ [])) _ _ _ _ 2
    (comment_same None (comment_end 1 0 0 ys) 2 (length (b ∷ c ∷ ys)) (λ end e. absurd (cc)))
    (if_stays (is_word_start b) _ _ _ _ 2
    (λ r. ap (token Word) (prefix_stays is_word_byte (b ∷ c ∷ []) ys (no_room Word _ 2 refl r)))
    (if_stays (is_ascii_digit b) _ _ _ _ 2
    (λ r. ap (token Number) (prefix_stays is_ascii_digit (b ∷ c ∷ []) ys (no_room Number _ 2 refl r)))
    (if_stays (b == 46 && is_word_start c) _ _ _ _ 2 (λ _. refl)
    (dot_stays (b == 46) (is_white c) (opens_comment (c ∷ [])) (opens_comment (c ∷ ys)) (pair_size b c) (symbol_size (b ∷ c ∷ ys)) (opens_alone c))))))
piece_stays b (c ∷ d ∷ rest) ys =
    let n : ℕ = length (b ∷ c ∷ d ∷ rest) in
    if_stays (is_white b) _ _ _ _ n (λ _. refl)
    (if_stays (opens_comment (b ∷ c ∷ d ∷ rest)) _ _ _ _ n
    (comment_same (comment_end 1 0 0 (d ∷ rest)) (comment_end 1 0 0 (d ∷ rest ++ ys)) n (length (b ∷ c ∷ d ∷ rest ++ ys)) (comment_stays (d ∷ rest) ys 1 0 0))
    (if_stays (is_word_start b) _ _ _ _ n
    (λ r. ap (token Word) (prefix_stays is_word_byte (b ∷ c ∷ d ∷ rest) ys (no_room Word _ n refl r)))
    (if_stays (is_ascii_digit b) _ _ _ _ n
    (λ r. ap (token Number) (prefix_stays is_ascii_digit (b ∷ c ∷ d ∷ rest) ys (no_room Number _ n refl r)))
    (if_stays (b == 46 && goes_on_path (c ∷ d ∷ rest)) _ _ _ _ n (λ _. refl)
    (if_stays (b == 46 && follows_command (c ∷ d ∷ rest)) _ _ _ _ n (λ _. refl) (λ _. refl))))))

-- the first piece that decides has room
by_final : (p : Piece) (f : Bool) (at to end size : ℕ) (later : Option ℕ) → is_final p.what ≡ f → at + size ≡ end → to < end → (if f then Some (at + p.size) else later) ≡ Some to
    → (later ≡ Some to → at + p.size < to) → HasRoom p size
by_final p true at to end size later is fits less e h = let e : at + p.size ≡ to = cc in inl (is, omega arith)
by_final p false at to end size later is fits less e h = let more = h e in inr (omega arith)

later_stays : (f : Bool) (here to : ℕ) (later more : Option ℕ) → (later ≡ Some to → more ≡ Some to) → (if f then Some here else later) ≡ Some to → (if f then Some here else more) ≡ Some to
later_stays true here to later more h e = e
later_stays false here to later more h e = h e

final_stays : (text more : List ℕ) (n at to end : ℕ) → n ≤ length text → at + length text ≡ end + n → to < end → final_among at (pieces_after n text) ≡ Some to
    → final_among at (pieces_after n (text ++ more)) ≡ Some to
unfolding pieces_after
final_stays [] more n at to end within e less found = absurd (cc)
final_stays (b ∷ rest) more (suc n) at to end within e less found = final_stays rest more n at to end (omega arith) (omega arith) less found
final_stays (b ∷ rest) more zero at to end within e less found =
    let p : Piece = first_piece (b ∷ rest) in
    let fits : IsWithin p (length (b ∷ rest)) = first_piece-within b rest in
    let room : HasRoom p (length (b ∷ rest)) =
    by_final p (is_final p.what) at to end (length (b ∷ rest)) _ refl (omega arith) less found
    (λ later. (final_among-within rest (p.size - 1) (at + p.size) to end (omega arith) (omega arith) later).0) in
    subst (λ q. (if is_final q.what then Some (at + q.size) else final_among (at + q.size) (pieces_after (q.size - 1) (rest ++ more))) ≡ Some to)
    (sym (piece_stays b rest more room))
    (later_stays (is_final p.what) (at + p.size) to _ _ (final_stays rest more (p.size - 1) (at + p.size) to end (omega arith) (omega arith) less) found)

-- a command that is followed by a byte ends there also in a longer text
pub cut_stays : (text more : List ℕ) (to : ℕ) → cut_of text 0 ≡ Command to → to < length text → cut_of (text ++ more) 0 ≡ Command to
cut_stays text more to e less =
    rw (final_stays text more 0 0 to (length text) (omega arith) (omega arith) less (cut_at-final _ (are_blank (pieces_of text)) to e)) refl
