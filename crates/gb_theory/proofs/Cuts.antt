-- Where a command ends, and the place there.
use Rattle.std.proofs.Common.{option_map, ◌≡◌, ℕ, zero, suc, ◌+◌, ◌-◌, ◌<◌, ◌≤◌, Bool, true, false, List, [], ◌∷◌, length, drop, arith, length-drop, refl, ap, sym, subst, if◌then◌else◌}
use Rattle.std.specs.Prelude.{◌==◌, Option, Some, None}
use Rattle.gb_core.specs.declared.place.Place.{Place}
use Rattle.gb_lex.specs.declared.token.Piece.{Piece}
use Rattle.gb_lex.specs.declared.token.Cut.TheVariants.{Command, End, Rest}
use Rattle.gb_lex.specs.Piece.{first_piece, pieces_after, pieces_of}
use Rattle.gb_lex.specs.Lex.{is_final, final_among, are_blank, cut_at, cut_of}
use Rattle.gb_lex.specs.PlaceAfter.{next_place, place_after}
use Rattle.gb_lex.proofs.PieceLemmas.{IsWithin, first_piece-within}

-- a final dot of a piece at `at`, or of a later one
either-within : (b : Bool) (at size to end : ℕ) (later : Option ℕ) → 0 < size → at + size ≤ end → (if b then Some (at + size) else later) ≡ Some to → (later ≡ Some to → (at + size < to) × (to ≤ end)) → (at < to) × (to ≤ end)
either-within true at size to end later some fits e h = let is : at + size ≡ to = cc in (omega arith, omega arith)
either-within false at size to end later some fits e h = let more = h e in (omega arith, omega arith)

pub final_among-within : (text : List ℕ) (n at to end : ℕ) → n ≤ length text → at + length text ≡ end + n → final_among at (pieces_after n text) ≡ Some to → (at < to) × (to ≤ end)
unfolding pieces_after
final_among-within [] n at to end within e found = absurd (cc)
final_among-within (b ∷ rest) (suc n) at to end within e found =
    final_among-within rest n at to end (omega arith) (omega arith) found
final_among-within (b ∷ rest) zero at to end within e found =
    let piece : Piece = first_piece (b ∷ rest) in
    let fits : IsWithin (first_piece (b ∷ rest)) (length (b ∷ rest)) = first_piece-within b rest in
    either-within (is_final (first_piece (b ∷ rest)).what) at (first_piece (b ∷ rest)).size to end _ fits.0 (omega arith) found
    (λ later. final_among-within rest ((first_piece (b ∷ rest)).size - 1) (at + (first_piece (b ∷ rest)).size) to end (omega arith) (omega arith) later)

pub cut_at-final : (final : Option ℕ) (blank : Bool) (to : ℕ) → cut_at final blank ≡ Command to → final ≡ Some to
cut_at-final None true to e = absurd (cc)
cut_at-final None false to e = absurd (cc)
cut_at-final (Some end) blank to e = let is : end ≡ to = cc in cc

-- a command takes a byte at least, and ends within the text
pub cut_of-within : (text : List ℕ) (from to : ℕ) → from ≤ length text → cut_of text from ≡ Command to → (from < to) × (to ≤ length text)
cut_of-within text from to within e =
    final_among-within (drop from text) 0 from to (length text) (omega arith) (omega (arith, length-drop from text))
    (cut_at-final _ (are_blank (pieces_of (drop from text))) to e)

after-within : (t : Bool) (p : Place) → let next : Place = (if t then record { file = p.file; line = p.line + 1; col = 1 } else record { file = p.file; line = p.line; col = p.col + 1 }) in (next.line ≤ p.line + 1) × (next.col ≤ p.col + 1)
after-within true p = (omega arith, omega arith)
after-within false p = (omega arith, omega arith)

next_place-within : (p : Place) (b : ℕ) → ((next_place p b).line ≤ p.line + 1) × ((next_place p b).col ≤ p.col + 1)
next_place-within p b = after-within (b == 10) p

-- a text leads no further down, and no further to the right, than it has bytes
pub place_after-within : (text : List ℕ) (p : Place) → ((place_after p text).line ≤ p.line + length text) × ((place_after p text).col ≤ p.col + length text)
unfolding place_after
place_after-within [] p = (omega arith, omega arith)
place_after-within (b ∷ rest) p =
    let here = next_place-within p b in
    let there = place_after-within rest (next_place p b) in
    (omega arith, omega arith)

shifted-if : (b : Bool) (from at size : ℕ) (ps : List Piece) → final_among (from + (at + size)) ps ≡ option_map (λ to. from + to) (final_among (at + size) ps)
    → (if b then Some (from + at + size) else final_among (from + at + size) ps) ≡ option_map (λ to. from + to) (if b then Some (at + size) else final_among (at + size) ps)
shifted-if true from at size ps later = ap Some (omega arith)
shifted-if false from at size ps later =
    let e : from + at + size ≡ from + (at + size) = omega arith in
    subst (λ n. final_among n ps ≡ option_map (λ to. from + to) (final_among (at + size) ps)) (sym e) later

-- the end of the first final dot of pieces that begin later
final_among-shifted : (from at : ℕ) (ps : List Piece) → final_among (from + at) ps ≡ option_map (λ to. from + to) (final_among at ps)
final_among-shifted from at [] = refl
final_among-shifted from at (p ∷ ps) = shifted-if (is_final p.what) from at p.size ps (final_among-shifted from (at + p.size) ps)

final-shifted : (from : ℕ) (ps : List Piece) → final_among from ps ≡ option_map (λ to. from + to) (final_among 0 ps)
final-shifted from ps =
    let e : from + 0 ≡ from = omega arith in
    subst (λ n. final_among n ps ≡ option_map (λ to. from + to) (final_among 0 ps)) e (final_among-shifted from 0 ps)

cut_at-shifted : (from : ℕ) (final : Option ℕ) (blank : Bool) (to : ℕ) → cut_at (option_map (λ n. from + n) final) blank ≡ Command to → cut_at final blank ≡ Command (to - from)
cut_at-shifted from None true to e = absurd (cc)
cut_at-shifted from None false to e = absurd (cc)
cut_at-shifted from (Some n) blank to e = let is : from + n ≡ to = cc in ap Command (omega arith)

-- the command at an offset is the first one of the text from there on
pub cut_of-rest : (text : List ℕ) (from to : ℕ) → cut_of text from ≡ Command to → cut_of (drop from text) 0 ≡ Command (to - from)
cut_of-rest text from to e =
    cut_at-shifted from (final_among 0 (pieces_of (drop from text))) (are_blank (pieces_of (drop from text))) to
    (subst (λ final. cut_at final (are_blank (pieces_of (drop from text))) ≡ Command to) (final-shifted from (pieces_of (drop from text))) e)

cut_at-End : (from : ℕ) (final : Option ℕ) (blank : Bool) → cut_at (option_map (λ n. from + n) final) blank ≡ End → cut_at final blank ≡ End
cut_at-End from None blank e = e
cut_at-End from (Some n) blank e = absurd (cc)

cut_at-Rest : (from : ℕ) (final : Option ℕ) (blank : Bool) → cut_at (option_map (λ n. from + n) final) blank ≡ Rest → cut_at final blank ≡ Rest
cut_at-Rest from None blank e = e
cut_at-Rest from (Some n) blank e = absurd (cc)

pub cut_of-End : (text : List ℕ) (from : ℕ) → cut_of text from ≡ End → cut_of (drop from text) 0 ≡ End
cut_of-End text from e =
    cut_at-End from (final_among 0 (pieces_of (drop from text))) (are_blank (pieces_of (drop from text)))
    (subst (λ final. cut_at final (are_blank (pieces_of (drop from text))) ≡ End) (final-shifted from (pieces_of (drop from text))) e)

pub cut_of-Rest : (text : List ℕ) (from : ℕ) → cut_of text from ≡ Rest → cut_of (drop from text) 0 ≡ Rest
cut_of-Rest text from e =
    cut_at-Rest from (final_among 0 (pieces_of (drop from text))) (are_blank (pieces_of (drop from text)))
    (subst (λ final. cut_at final (are_blank (pieces_of (drop from text))) ≡ Rest) (final-shifted from (pieces_of (drop from text))) e)
