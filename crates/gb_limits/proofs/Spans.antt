-- Places and spans of tokens, token by token.
use Rattle.std.proofs.Common.{◌≡◌, ℕ, ◌+◌, ◌^◌, ◌-◌, ◌≤◌, ◌<◌, List, [], ◌∷◌, ◌++◌, length, get_or, take, drop, refl, ap, subst, sym, ◌∙◌, arith, add-one, length-take, true, false, if◌then◌else◌}
use Rattle.std.specs.Prelude.{◌==◌}
use Rattle.std.proofs.Math.Seq.{drop-cons, take-add}
use Rattle.gb_core.specs.declared.place.Place.{Place}
use Rattle.gb_lex.specs.declared.token.Token.{Token}
use Rattle.gb_lex.specs.Lex.{AreSpans}
use Rattle.gb_lex.specs.PlaceAfter.{next_place, place_after}
use Rattle.gb_lex.proofs.PlaceLemmas.{place_after-append}

pub record NextSpan (reached : ℕ) (t : Token) (rest : List Token) (end : ℕ) : Type 0 where
  pub lower : reached ≤ t.from
  pub grows : t.from < t.to
  pub within : t.to ≤ end
  pub later : AreSpans t.to rest end

pub spans_end : (at : ℕ) (tokens : List Token) (end : ℕ) → AreSpans at tokens end → at ≤ end
spans_end at [] end h = h
spans_end at (t ∷ tokens) end h =
    let later = spans_end t.to tokens end h.2 in
    let lower = h.0 in
    let grows = h.1 in
    omega arith

-- Spans from a byte on are spans from an earlier one on.
pub spans_from : (at later : ℕ) (tokens : List Token) (end : ℕ) → at ≤ later → AreSpans later tokens end → AreSpans at tokens end
spans_from at later [] end e h = omega arith
spans_from at later (t ∷ tokens) end e h = let lower = h.0 in (omega arith, h.1, h.2)

spans_cons : (reached : ℕ) (t : Token) (rest : List Token) (end : ℕ) → AreSpans reached (t ∷ rest) end → NextSpan reached t rest end
spans_cons reached t rest end h = record { lower = h.0; grows = h.1; within = spans_end t.to rest end h.2; later = h.2 }

-- the token at an index
pub spans_at : (tokens : List Token) (i : ℕ) (d : Token) (reached end : ℕ) → i < length tokens → AreSpans reached (drop i tokens) end → NextSpan reached (get_or tokens i d) (drop (i + 1) tokens) end
spans_at tokens i d reached end lt h =
    let e : drop i tokens ≡ get_or tokens i d ∷ drop (i + 1) tokens = rw (add-one) (drop-cons tokens i d lt) in
    spans_cons reached (get_or tokens i d) (drop (i + 1) tokens) end (subst (λ (l : List Token). AreSpans reached l end) e h)

record Bounded (p q : Place) (n : ℕ) : Type 0 where
  line : q.line ≤ p.line + n
  col : q.col ≤ p.col + n

next_bounded : (p : Place) (b : ℕ) → Bounded p (next_place p b) 1
next_bounded p b = elim (b == 10) as (λ t. Bounded p (if t then record { file = p.file; line = p.line + 1; col = 1 } else record { file = p.file; line = p.line; col = p.col + 1 }) 1)
    [ true ↦ record { line = omega arith; col = omega arith } | false ↦ record { line = omega arith; col = omega arith } ]

bounded : (p : Place) (text : List ℕ) → Bounded p (place_after p text) (length text)
unfolding place_after
bounded p [] = record { line = omega arith; col = omega arith }
bounded p (b ∷ text) =
    let one = next_bounded p b in
    let rest = bounded (next_place p b) text in
    record { line = omega (arith, one.line, rest.line); col = omega (arith, one.col, rest.col) }

length_of_take : (m : ℕ) (text : List ℕ) → length (take m text) ≤ m
length_of_take m text = omega (arith, length-take m text)

-- Lines and columns grow by at most one a byte.
pub line_within : (at place : Place) (text : List ℕ) (m : ℕ) → place ≡ place_after at (take m text) → place.line ≤ at.line + m
line_within at place text m e =
    let b = (bounded at (take m text)).line in
    let s = length_of_take m text in
    let h : place.line ≡ (place_after at (take m text)).line = ap (λ (p : Place). p.line) e in
    omega (arith, b, s, h)

pub col_within : (at place : Place) (text : List ℕ) (m : ℕ) → place ≡ place_after at (take m text) → place.col ≤ at.col + m
col_within at place text m e =
    let b = (bounded at (take m text)).col in
    let s = length_of_take m text in
    let h : place.col ≡ (place_after at (take m text)).col = ap (λ (p : Place). p.col) e in
    omega (arith, b, s, h)

pub place_at_start : (at : Place) → place_after at [] ≡ at
unfolding place_after
place_at_start at = refl

take_on : (m n : ℕ) (text : List ℕ) → m ≤ n → take m text ++ take (n - m) (drop m text) ≡ take n text
take_on m n text h =
    let e : m + (n - m) ≡ n = omega arith in
    sym (take-add m (n - m) text) ∙ ap (λ (k : ℕ). take k text) e

-- the place of a later byte
pub place_on : (at place : Place) (text : List ℕ) (m n : ℕ) → place ≡ place_after at (take m text) → m ≤ n → place_after place (take (n - m) (drop m text)) ≡ place_after at (take n text)
place_on at place text m n e h =
    ap (λ (p : Place). place_after p (take (n - m) (drop m text))) e
    ∙ (sym (place_after-append at (take m text) (take (n - m) (drop m text))) ∙ ap (λ (l : List ℕ). place_after at l) (take_on m n text h))

module _ (bytes : List ℕ) (at : Place) (line : at.line + length bytes < 2 ^ 32) (col : at.col + length bytes < 2 ^ 32) where
  pub line_fits : (place : Place) (m n : ℕ) → place ≡ place_after at (take m bytes) → m ≤ n → n ≤ length bytes → place.line + (n - m) < 2 ^ 32
  line_fits place m n e h w = let b = line_within at place bytes m e in omega (arith, line, b, h, w)

  pub col_fits : (place : Place) (m n : ℕ) → place ≡ place_after at (take m bytes) → m ≤ n → n ≤ length bytes → place.col + (n - m) < 2 ^ 32
  col_fits place m n e h w = let b = col_within at place bytes m e in omega (arith, col, b, h, w)
