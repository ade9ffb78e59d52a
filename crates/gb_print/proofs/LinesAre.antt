-- The lines of a text, one after another.
use Rattle.std.specs.Prelude.{ℕ, zero, suc, ◌≡◌, ◌+◌, ◌-◌, ◌<◌, ◌≤◌, ◌==◌, Bool, true, false, ◌&&◌, if◌then◌else◌, nat_eq, List, [], ◌∷◌, ◌++◌, length, map, take}
use Rattle.std.specs.List.{list_all}
use Rattle.std.proofs.Common.{refl, ap, ap₂, sym, ◌∙◌, subst, arith, append_assoc, length-append}
use Rattle.std.proofs.lemmas.Bool.Decides.{nat_tests}
use Rattle.gb_core.specs.declared.place.Place.{Place}
use Rattle.gb_lex.specs.declared.token.Token.{Token}
use Rattle.gb_lex.specs.declared.token.What.{What}
use Rattle.gb_lex.specs.declared.token.What.TheVariants.{Blank, Unclosed, Token as IsToken, Faulty}
use Rattle.gb_lex.specs.declared.token.Piece.{Piece}
use Rattle.gb_lex.specs.Piece.{first_piece, pieces_of, pieces_after}
use Rattle.gb_lex.specs.PlaceAfter.{next_place, place_after}
use Rattle.gb_lex.specs.Lex.{with_token, tokens_among}
use Rattle.gb_lex.proofs.PlaceLemmas.{place_after-append}
use Rattle.gb_limits.specs.Lexeme.{lexeme_of}
use Rattle.gb_script.specs.declared.text.Lexeme.{Lexeme}
use Rattle.gb_read_script.specs.declared.line.Line.{Line}
use Rattle.gb_read_script.specs.Line.{line_of, before, lines_before}
use Rattle.gb_print.proofs.Cut.{Cut, on_line, total}

-- Tokens of pieces behind others.

behind_by : (w : What) (from to : ℕ) (a b c : List Token) → c ≡ a ++ b → with_token w from to c ≡ with_token w from to a ++ b
behind_by Blank from to a b c h = h
behind_by Unclosed from to a b c h = h
behind_by Faulty from to a b c h = h
behind_by (IsToken k) from to a b c h = ap (λ l. record { kind = k; from = from; to = to } ∷ l) h

tokens_behind : (at : ℕ) (ps qs : List Piece) → tokens_among at (ps ++ qs) ≡ tokens_among at ps ++ tokens_among (at + total ps) qs
tokens_behind at [] qs = let e : at ≡ at + 0 = omega arith in ap (λ n. tokens_among n qs) e
tokens_behind at (p ∷ ps) qs =
    let e : (at + p.size) + total ps ≡ at + (p.size + total ps) = omega arith in
    behind_by p.what at (at + p.size) (tokens_among (at + p.size) ps) (tokens_among (at + (p.size + total ps)) qs) (tokens_among (at + p.size) (ps ++ qs))
    (tokens_behind (at + p.size) ps qs ∙ ap (λ n. tokens_among (at + p.size) ps ++ tokens_among n qs) e)

-- tokens that begin between two offsets
data Between (low high : ℕ) : List Token → Type 0 where
  none : Between low high []
  more : {t : Token} {ts : List Token} → low ≤ t.from → t.from ≤ high → Between low high ts → Between low high (t ∷ ts)

wider : (low low' high high' : ℕ) (ts : List Token) → low' ≤ low → high ≤ high' → Between low high ts → Between low' high' ts
wider low low' high high' [] l h none = none
wider low low' high high' (t ∷ ts) l h (more a b d) = more (omega (arith, a, l)) (omega (arith, b, h)) (wider low low' high high' ts l h d)

between_by : (w : What) (at size high : ℕ) (ts : List Token) → at ≤ high → Between (at + size) high ts → Between at high (with_token w at (at + size) ts)
between_by Blank at size high ts h d = wider (at + size) at high high ts (omega arith) (omega arith) d
between_by Unclosed at size high ts h d = wider (at + size) at high high ts (omega arith) (omega arith) d
between_by Faulty at size high ts h d = wider (at + size) at high high ts (omega arith) (omega arith) d
between_by (IsToken k) at size high ts h d = more (omega arith) h (wider (at + size) at high high ts (omega arith) (omega arith) d)

between : (at : ℕ) (ps : List Piece) → Between at (at + total ps) (tokens_among at ps)
between at [] = none
between at (p ∷ ps) =
    let e : (at + p.size) + total ps ≡ at + (p.size + total ps) = omega arith in
    between_by p.what at p.size (at + (p.size + total ps)) (tokens_among (at + p.size) ps) (omega arith)
    (subst (λ n. Between (at + p.size) n (tokens_among (at + p.size) ps)) e (between (at + p.size) ps))

-- Lines of places.

place_by : Bool → Place → Place
place_by true p = record { file = p.file; line = p.line + 1; col = 1 }
place_by false p = record { file = p.file; line = p.line; col = p.col + 1 }

next_is : (p : Place) (b : ℕ) (t : Bool) → (b == 10) ≡ t → next_place p b ≡ place_by t p
unfolding place_by
next_is p b true e = ap (λ (c : Bool). if c then record { file = p.file; line = p.line + 1; col = 1 } else record { file = p.file; line = p.line; col = p.col + 1 }) e
next_is p b false e = ap (λ (c : Bool). if c then record { file = p.file; line = p.line + 1; col = 1 } else record { file = p.file; line = p.line; col = p.col + 1 }) e

no_line_feed : (b : ℕ) (t : Bool) → (b == 10) ≡ t → on_line b ≡ true → t ≡ false
no_line_feed b true e h = absurd cc
no_line_feed b false e h = refl

next_kept : (p : Place) (b : ℕ) → on_line b ≡ true → (next_place p b).line ≡ p.line
unfolding place_by
next_kept p b h = ap (λ (q : Place). q.line) (next_is p b false (no_line_feed b (b == 10) refl h))

line_by : (p : Place) (t : Bool) → p.line ≤ (place_by t p).line
unfolding place_by
line_by p true = omega arith
line_by p false = omega arith

next_grows : (p : Place) (b : ℕ) → p.line ≤ (next_place p b).line
next_grows p b = subst (λ (q : Place). p.line ≤ q.line) (sym (next_is p b (b == 10) refl)) (line_by p (b == 10))

both_true : (a b : Bool) → (a && b) ≡ true → (a ≡ true) × (b ≡ true)
both_true true b h = (refl, h)
both_true false b h = absurd cc

line_kept : (p : Place) (x : List ℕ) → list_all on_line x ≡ true → (place_after p x).line ≡ p.line
unfolding place_after
line_kept p [] h = refl
line_kept p (b ∷ x) h = let parts = both_true (on_line b) (list_all on_line x) h in line_kept (next_place p b) x parts.1 ∙ next_kept p b parts.0

line_grows : (p : Place) (x : List ℕ) → p.line ≤ (place_after p x).line
unfolding place_after
line_grows p [] = omega arith
line_grows p (b ∷ x) = let a = next_grows p b in let c = line_grows (next_place p b) x in omega (arith, a, c)

taken_on_line : (k : ℕ) (x : List ℕ) → list_all on_line x ≡ true → list_all on_line (take k x) ≡ true
taken_on_line zero x h = refl
taken_on_line (suc k) [] h = refl
taken_on_line (suc k) (b ∷ x) h = let parts = both_true (on_line b) (list_all on_line x) h in ap₂ (λ c d. c && d) parts.0 (taken_on_line k x parts.1)

take_front : (front i : List ℕ) (k : ℕ) → take (length front + k) (front ++ i) ≡ front ++ take k i
take_front [] i k = let e : 0 + k ≡ k = omega arith in ap (λ n. take n i) e
take_front (b ∷ front) i k = let e : suc (length front) + k ≡ suc (length front + k) = omega arith in ap (λ n. take n (b ∷ (front ++ i))) e ∙ ap (λ l. b ∷ l) (take_front front i k)

take_within : (x y : List ℕ) (k : ℕ) → k ≤ length x → take k (x ++ y) ≡ take k x
take_within x y zero h = refl
take_within [] y (suc k) h = absurd (omega arith)
take_within (b ∷ x) y (suc k) h = ap (λ l. b ∷ l) (take_within x y k (omega arith))

abbrev pub line_at : Lexeme → ℕ
line_at l = l.place.line

-- Tokens that all stand on a line, and such as stand on later ones.
pub data AllOn (n : ℕ) : List Lexeme → Type 0 where
  none_on : AllOn n []
  more_on : {l : Lexeme} {ls : List Lexeme} → line_at l ≡ n → AllOn n ls → AllOn n (l ∷ ls)

pub data AllBehind (n : ℕ) : List Lexeme → Type 0 where
  none_behind : AllBehind n []
  more_behind : {l : Lexeme} {ls : List Lexeme} → n < line_at l → AllBehind n ls → AllBehind n (l ∷ ls)

mapped : (f : Token → Lexeme) (xs ys : List Token) → map f (xs ++ ys) ≡ map f xs ++ map f ys
mapped f [] ys = refl
mapped f (x ∷ xs) ys = ap (λ l. f x ∷ l) (mapped f xs ys)

module _ (start : Place) where
  -- the tokens from some bytes on
  abbrev pub lexemes_behind : List ℕ → List ℕ → List Lexeme
  lexemes_behind front i = map (lexeme_of (front ++ i) start) (tokens_among (length front) (pieces_of i))

  -- the tokens of the pieces of a line
  abbrev pub line_lexemes : (front : List ℕ) {i j : List ℕ} → Cut i j → List Lexeme
  line_lexemes front {i = i} c = map (lexeme_of (front ++ i) start) (tokens_among (length front) c.pieces)

  abbrev pub line_behind : List ℕ → ℕ
  line_behind front = (place_after start front).line

  offset : (low n : ℕ) → low ≤ n → (k : ℕ) × (n ≡ low + k)
  offset low n h = (n - low, omega arith)

  on_by : (front i x y : List ℕ) (ts : List Token) → i ≡ x ++ y → list_all on_line x ≡ true → Between (length front) (length front + length x) ts → AllOn (line_behind front) (map (lexeme_of (front ++ i) start) ts)
  on_by front i x y [] e h none = none_on
  on_by front i x y (t ∷ ts) e h (more a b d) =
      let k = offset (length front) t.from a in
      let fits : k.0 ≤ length x = omega (arith, k.1, b) in
      let bytes : take t.from (front ++ i) ≡ front ++ take k.0 x =
      ap (λ n. take n (front ++ i)) k.1 ∙ take_front front i k.0 ∙ ap (λ l. front ++ l) (ap (λ l. take k.0 l) e ∙ take_within x y k.0 fits) in
      more_on
      (ap (λ l. (place_after start l).line) bytes ∙ ap (λ (p : Place). p.line) (place_after-append start front (take k.0 x)) ∙ line_kept (place_after start front) (take k.0 x) (taken_on_line k.0 x h))
      (on_by front i x y ts e h d)

  pub line_on : (front : List ℕ) {i j : List ℕ} (c : Cut i j) → AllOn (line_behind front) (line_lexemes front c)
  line_on front {i} {j} c =
      on_by front i c.front j (tokens_among (length front) c.pieces) c.is c.one_line
      (subst (λ n. Between (length front) (length front + n) (tokens_among (length front) c.pieces)) c.sizes (between (length front) c.pieces))

  behind_line : (front i : List ℕ) (n high : ℕ) (ts : List Token) → n < line_behind front → Between (length front) high ts → AllBehind n (map (lexeme_of (front ++ i) start) ts)
  behind_line front i n high [] h none = none_behind
  behind_line front i n high (t ∷ ts) h (more a b d) =
      let k = offset (length front) t.from a in
      let bytes : take t.from (front ++ i) ≡ front ++ take k.0 i = ap (λ m. take m (front ++ i)) k.1 ∙ take_front front i k.0 in
      let grows = line_grows (place_after start front) (take k.0 i) in
      let e : line_at (lexeme_of (front ++ i) start t) ≡ (place_after (place_after start front) (take k.0 i)).line = ap (λ l. (place_after start l).line) bytes ∙ ap (λ (p : Place). p.line) (place_after-append start front (take k.0 i)) in
      more_behind (omega (arith, grows, e, h)) (behind_line front i n high ts h d)

  after_feed : (p : Place) → (place_after p (10 ∷ [])).line ≡ p.line + 1
  unfolding place_after
  after_feed p = refl

  feed_line : (front x : List ℕ) → list_all on_line x ≡ true → line_behind ((front ++ x) ++ 10 ∷ []) ≡ line_behind front + 1
  feed_line front x h =
      ap (λ (p : Place). p.line) (place_after-append start (front ++ x) (10 ∷ [])) ∙ after_feed (place_after start (front ++ x))
      ∙ ap (λ n. n + 1) (ap (λ (p : Place). p.line) (place_after-append start front x) ∙ line_kept (place_after start front) x h)

  -- the first token of a line feed and what is behind it
  feed_first : (r : List ℕ) → pieces_of (10 ∷ r) ≡ record { what = Blank; size = 1 } ∷ pieces_of r
  unfolding first_piece pieces_after
  feed_first r = refl

  -- The tokens up to some bytes, and those behind them.
  pub parted_at : (front : List ℕ) {i j : List ℕ} (c : Cut i j) → lexemes_behind front i ≡ line_lexemes front c ++ lexemes_behind (front ++ c.front) j
  parted_at front {i} {j} c =
      let text : front ++ i ≡ (front ++ c.front) ++ j = ap (λ l. front ++ l) c.is ∙ sym (append_assoc front c.front j) in
      let offset_is : length front + total c.pieces ≡ length (front ++ c.front) = omega (arith, c.sizes, length-append front c.front) in
      let tokens : tokens_among (length front) (pieces_of i) ≡ tokens_among (length front) c.pieces ++ tokens_among (length (front ++ c.front)) (pieces_of j) =
      ap (λ ps. tokens_among (length front) ps) c.split ∙ tokens_behind (length front) c.pieces (pieces_of j)
      ∙ ap (λ n. tokens_among (length front) c.pieces ++ tokens_among n (pieces_of j)) offset_is in
      ap (λ ts. map (lexeme_of (front ++ i) start) ts) tokens
      ∙ mapped (lexeme_of (front ++ i) start) (tokens_among (length front) c.pieces) (tokens_among (length (front ++ c.front)) (pieces_of j))
      ∙ ap (λ t. line_lexemes front c ++ map (lexeme_of t start) (tokens_among (length (front ++ c.front)) (pieces_of j))) text

  -- a line feed is no token
  fed : (front r : List ℕ) → lexemes_behind front (10 ∷ r) ≡ lexemes_behind (front ++ 10 ∷ []) r
  fed front r =
      let n : length front + 1 ≡ length (front ++ 10 ∷ []) = omega (arith, length-append front (10 ∷ [])) in
      ap (λ ps. map (lexeme_of (front ++ 10 ∷ r) start) (tokens_among (length front) ps)) (feed_first r)
      ∙ ap₂ (λ k t. map (lexeme_of t start) (tokens_among k (pieces_of r))) n (sym (append_assoc front (10 ∷ []) r))

  -- The tokens up to a line feed, and those behind it.
  pub parted : (front : List ℕ) {i r : List ℕ} (c : Cut i (10 ∷ r)) → lexemes_behind front i ≡ line_lexemes front c ++ lexemes_behind ((front ++ c.front) ++ 10 ∷ []) r
  parted front {r = r} c = parted_at front c ∙ ap (λ l. line_lexemes front c ++ l) (fed (front ++ c.front) r)

  pub rest_behind : (front : List ℕ) {i r : List ℕ} (c : Cut i (10 ∷ r)) → AllBehind (line_behind front) (lexemes_behind ((front ++ c.front) ++ 10 ∷ []) r)
  rest_behind front {i} {r} c =
      let next = (front ++ c.front) ++ 10 ∷ [] in
      let feed = feed_line front c.front c.one_line in
      behind_line next r (line_behind front) (length next + total (pieces_of r)) (tokens_among (length next) (pieces_of r)) (omega (arith, feed)) (between (length next) (pieces_of r))

-- Lines.

lines_append : (end : Place) (xs ys : List Lexeme) → lines_before end (xs ++ ys) [] ≡ lines_before end xs (lines_before end ys [])
lines_append end [] ys = refl
lines_append end (x ∷ xs) ys = ap (λ ls. before x end ls) (lines_append end xs ys)

-- Lines begin later than this one.
pub LaterLines : ℕ → List Line → Type 0
LaterLines n [] = Unit {0}
LaterLines n (m ∷ ms) = n < m.start.line

later_by : (end : Place) (n : ℕ) (x : Lexeme) (m : Line) (ms : List Line) (t : Bool) → n < line_at x
    → LaterLines n (if t then record { tokens = x ∷ m.tokens; start = x.place; end = m.end } ∷ ms else line_of x m.start ∷ m ∷ ms)
unfolding LaterLines
later_by end n x m ms true k = k
later_by end n x m ms false k = k

later_with : (end : Place) (n : ℕ) (x : Lexeme) (ms : List Line) → n < line_at x → LaterLines n (before x end ms)
unfolding LaterLines
later_with end n x [] k = k
later_with end n x (m ∷ ms) k = later_by end n x m ms (nat_eq x.place.line m.start.line) k

later : (end : Place) (n : ℕ) (ls : List Lexeme) → AllBehind n ls → LaterLines n (lines_before end ls [])
unfolding LaterLines
later end n [] none_behind = tt
later end n (l ∷ ls) (more_behind h d) = later_with end n l (lines_before end ls []) h

differ : (a b : ℕ) → a < b → nat_eq a b ≡ false
differ a b h = grind (arith, nat_tests)

same_line : (a b n : ℕ) → a ≡ n → b ≡ n → nat_eq a b ≡ true
same_line a b n e f = grind (arith, nat_tests)

-- Tokens on a line in front of later lines are a line.
pub record FirstLine (end : Place) (l : Lexeme) (ls : List Lexeme) (ms : List Line) : Type 0 where
  pub stop : Place
  pub is : lines_before end (l ∷ ls) ms ≡ record { tokens = l ∷ ls; start = l.place; end = stop } ∷ ms

alone_first : (end : Place) (n : ℕ) (l : Lexeme) (ms : List Line) → line_at l ≡ n → LaterLines n ms → FirstLine end l [] ms
unfolding LaterLines
alone_first end n l [] e h = record { stop = end; is = refl }
alone_first end n l (m ∷ ms) e h =
    let apart : nat_eq l.place.line m.start.line ≡ false = differ l.place.line m.start.line (omega (arith, e, h)) in
    record { stop = m.start; is = ap (λ (b : Bool). if b then record { tokens = l ∷ m.tokens; start = l.place; end = m.end } ∷ ms else line_of l m.start ∷ m ∷ ms) apart }

pub first_line : (end : Place) (n : ℕ) (l : Lexeme) (ls : List Lexeme) (ms : List Line) → AllOn n (l ∷ ls) → LaterLines n ms → FirstLine end l ls ms
first_line end n l [] ms (more_on e d) h = alone_first end n l ms e h
first_line end n l (k ∷ ls) ms (more_on e (more_on f d)) h =
    let rest = first_line end n k ls ms (more_on f d) h in
    let together : nat_eq l.place.line k.place.line ≡ true = same_line l.place.line k.place.line n e f in
    record {
      stop = rest.stop;
      is = ap (λ x. before l end x) rest.is
          ∙ ap (λ (b : Bool). if b then record { tokens = l ∷ k ∷ ls; start = l.place; end = rest.stop } ∷ ms else line_of l k.place ∷ record { tokens = k ∷ ls; start = k.place; end = rest.stop } ∷ ms) together;
    }

-- The lines from some bytes on: the first one up to a line feed, and those behind it.
pub record LineParted (start end : Place) (front : List ℕ) {i r : List ℕ} (c : Cut i (10 ∷ r)) : Type 0 where
  pub line : Line
  pub tokens : line.tokens ≡ line_lexemes start front c
  pub parted_lines : lines_before end (lexemes_behind start front i) [] ≡ line ∷ lines_before end (lexemes_behind start ((front ++ c.front) ++ 10 ∷ []) r) []

part_by : (start end : Place) (front : List ℕ) {i r : List ℕ} (c : Cut i (10 ∷ r)) (ls : List Lexeme) → line_lexemes start front c ≡ ls → 0 < length ls → LineParted start end front c
part_by start end front c [] e h = absurd (omega arith)
part_by start end front {i} {r} c (l ∷ ls) e h =
    let behind = lexemes_behind start ((front ++ c.front) ++ 10 ∷ []) r in
    let first = first_line end (line_behind start front) l ls (lines_before end behind []) (subst (λ x. AllOn (line_behind start front) x) e (line_on start front c))
    (later end (line_behind start front) behind (rest_behind start front c)) in
    record {
      line = record { tokens = l ∷ ls; start = l.place; end = first.stop };
      tokens = sym e;
      parted_lines = ap (λ x. lines_before end x []) (parted start front c) ∙ lines_append end (line_lexemes start front c) behind ∙ ap (λ x. lines_before end x (lines_before end behind [])) e ∙ first.is;
    }

pub part_line : (start end : Place) (front : List ℕ) {i r : List ℕ} (c : Cut i (10 ∷ r)) → 0 < length (line_lexemes start front c) → LineParted start end front c
part_line start end front c h = part_by start end front c (line_lexemes start front c) refl h
