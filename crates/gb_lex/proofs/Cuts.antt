-- Faults have places, and commands that are cut off have bytes.
use Rattle.std.proofs.Common.{◌≡◌, ℕ, zero, suc, ◌+◌, ◌-◌, ◌≤◌, ◌<◌, ◌⊎◌, inl, inr, Bool, true, false, if◌then◌else◌, Option, Some, None, List, [], ◌∷◌, length, drop, take, refl, ap, subst, arith, length-drop}
use Rattle.gb_core.specs.declared.place.Place.{Place}
use Rattle.gb_core.specs.declared.refusal.Refused.TheVariants.{Script}
use Rattle.gb_core.specs.declared.refusal.Why.TheVariants.{Character}
use Rattle.gb_lex.specs.declared.token.Cut.TheVariants.{Command}
use Rattle.gb_lex.specs.Piece.{first_piece, pieces_after}
use Rattle.gb_lex.specs.PlaceAfter.{place_after}
use Rattle.gb_lex.specs.Lex.{fault_of, is_final, final_among, cut_at, cut_of, IsCharacterFault}
use Rattle.gb_lex.proofs.PieceLemmas.{IsWithin, first_piece-within}

fault_or_none : (text : List ℕ) (at : Place) (o : Option ℕ) → fault_of text ≡ o
    → (fault_of text ≡ None) ⊎ ((place : Place) × IsCharacterFault text at (Script Character place))
fault_or_none text at None e = inl e
fault_or_none text at (Some offset) e = inr (place_after at (take offset text), (offset, e, refl))

pub fault_place : (text : List ℕ) (at : Place) → (fault_of text ≡ None) ⊎ ((place : Place) × IsCharacterFault text at (Script Character place))
fault_place text at = fault_or_none text at (fault_of text) refl

-- the end of a final dot that stands here, or later
here_or_later : (b : Bool) (here to : ℕ) (later : Option ℕ) (P : ℕ → Type 0) → P here → (later ≡ Some to → P to)
    → (if b then Some here else later) ≡ Some to → P to
here_or_later true here to later P h more e = let same : here ≡ to = cc in subst P same h
here_or_later false here to later P h more e = more e

final_within : (text : List ℕ) (n at to : ℕ) → n ≤ length text → final_among at (pieces_after n text) ≡ Some to
    → (at < to) × (to + n ≤ at + length text)
unfolding pieces_after
final_within [] n at to within e = absurd (cc)
final_within (b ∷ rest) (suc n) at to within e =
    let h = final_within rest n at to (omega arith) e in
    (h.0, omega (arith, h.1))
final_within (b ∷ rest) zero at to within e =
    let size : ℕ = (first_piece (b ∷ rest)).size in
    let fits : IsWithin (first_piece (b ∷ rest)) (length (b ∷ rest)) = first_piece-within b rest in
    here_or_later (is_final (first_piece (b ∷ rest)).what) (at + size) to (final_among (at + size) (pieces_after (size - 1) rest))
    (λ (k : ℕ). (at < k) × (k + 0 ≤ at + length (b ∷ rest))) (omega (arith, fits.0), omega (arith, fits.1))
    (λ later. let h = final_within rest (size - 1) (at + size) to (omega (arith, fits.1)) later in (omega (arith, h.0), omega (arith, h.1, fits.0))) e

final_of : (o : Option ℕ) (blank : Bool) (to : ℕ) → cut_at o blank ≡ Command to → o ≡ Some to
final_of (Some here) blank to e = let same : here ≡ to = cc in ap Some same
final_of None true to e = absurd (cc)
final_of None false to e = absurd (cc)

pub command_bytes : (text : List ℕ) (from to : ℕ) → cut_of text from ≡ Command to → (from < to) × (to ≤ length text)
command_bytes text from to e =
    let h = final_within (drop from text) 0 from to (omega arith) (final_of _ _ to e) in
    (h.0, omega (arith, h.0, h.1, length-drop from text))
