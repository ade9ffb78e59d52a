-- Tokens, faults and final dots, piece by piece.
use Rattle.std.proofs.Common.{◌≡◌, ℕ, zero, suc, ◌+◌, ◌-◌, ◌≤◌, ◌<◌, List, [], ◌∷◌, length, drop, refl, ap, ◌∙◌, arith, Some, None, Bool, true, false, if◌then◌else◌, ◌++◌, append_assoc, ◌⊎◌, inl, inr}
use Rattle.std.specs.Prelude.{◌&&◌}
use Rattle.gb_lex.specs.declared.token.Token.{Token}
use Rattle.gb_lex.specs.declared.token.What.{What}
use Rattle.gb_lex.specs.declared.token.What.TheVariants.{Blank, Unclosed, Token as IsToken, Faulty}
use Rattle.gb_lex.specs.declared.token.Piece.{Piece}
use Rattle.gb_lex.specs.Piece.{first_piece, pieces_after, pieces_of}
use Rattle.gb_lex.specs.Lex.{with_token, tokens_among, or_fault, fault_among, is_final, is_blank, final_among, are_blank, tokens_of, AreSpans}
use Rattle.gb_lex.proofs.PieceLemmas.{pieces_of-end, IsWithin, first_piece-within}

pub and-false : (b : Bool) → (b && false) ≡ false
and-false true = refl
and-false false = refl

-- pieces of which `p` is the first, at the offset `at`
module _ (at : ℕ) (p : Piece) (all rest : List Piece) (e : all ≡ p ∷ rest) where
  pub tokens_among-is : (what : What) → p.what ≡ what
      → tokens_among at all ≡ with_token what at (at + p.size) (tokens_among (at + p.size) rest)
  tokens_among-is what w =
      ap (tokens_among at) e ∙ ap (λ v. with_token v at (at + p.size) (tokens_among (at + p.size) rest)) w

  pub fault_among-is : (what : What) → p.what ≡ what
      → fault_among at all ≡ or_fault what at (fault_among (at + p.size) rest)
  fault_among-is what w = ap (fault_among at) e ∙ ap (λ v. or_fault v at (fault_among (at + p.size) rest)) w

  pub tokens_among-blank : (p.what ≡ Blank) ⊎ (p.what ≡ Unclosed) → tokens_among at all ≡ tokens_among (at + p.size) rest
  tokens_among-blank (inl w) = tokens_among-is Blank w
  tokens_among-blank (inr w) = tokens_among-is Unclosed w

  pub fault_among-blank : (p.what ≡ Blank) ⊎ (p.what ≡ Unclosed) → fault_among at all ≡ fault_among (at + p.size) rest
  fault_among-blank (inl w) = fault_among-is Blank w
  fault_among-blank (inr w) = fault_among-is Unclosed w

  pub final_among-is : (b : Bool) → is_final p.what ≡ b
      → final_among at all ≡ (if b then Some (at + p.size) else final_among (at + p.size) rest)
  final_among-is b w = ap (final_among at) e ∙ ap (λ v. if v then Some (at + p.size) else final_among (at + p.size) rest) w

  pub are_blank-is : (b : Bool) → is_blank p.what ≡ b → are_blank all ≡ (b && are_blank rest)
  are_blank-is b w = ap are_blank e ∙ ap (λ v. v && are_blank rest) w

-- a token found before others
pub found-append : (found new later all : List Token) (t : Token) → new ≡ found ++ (t ∷ []) → found ++ (t ∷ later) ≡ all
    → new ++ later ≡ all
found-append found new later all t e h = ap (λ l. l ++ later) e ∙ append_assoc found (t ∷ []) later ∙ h

pub tokens_among-end : (text : List ℕ) (at : ℕ) → length text ≤ at → tokens_among at (pieces_of (drop at text)) ≡ []
tokens_among-end text at h = ap (tokens_among at) (pieces_of-end text at h)

pub fault_among-end : (text : List ℕ) (at : ℕ) → length text ≤ at → fault_among at (pieces_of (drop at text)) ≡ None
fault_among-end text at h = ap (fault_among at) (pieces_of-end text at h)

pub final_among-end : (text : List ℕ) (at : ℕ) → length text ≤ at → final_among at (pieces_of (drop at text)) ≡ None
final_among-end text at h = ap (final_among at) (pieces_of-end text at h)

pub are_blank-end : (text : List ℕ) (at : ℕ) → length text ≤ at → are_blank (pieces_of (drop at text)) ≡ true
are_blank-end text at h = ap are_blank (pieces_of-end text at h)

pub ruleset cutting = (final_among-end, are_blank-end)

pub ruleset lexing = (tokens_among-end, fault_among-end)

with_token-spans : (what : What) (from to : ℕ) (later : List Token) (least end : ℕ) → least ≤ from → from < to
    → ((n : ℕ) → n ≤ to → AreSpans n later end) → AreSpans least (with_token what from to later) end
with_token-spans (IsToken kind) from to later least end h some rest = (h, some, rest to (omega arith))
with_token-spans Blank from to later least end h some rest = rest least (omega arith)
with_token-spans Unclosed from to later least end h some rest = rest least (omega arith)
with_token-spans Faulty from to later least end h some rest = rest least (omega arith)

AreSpans-among : (text : List ℕ) (n at least end : ℕ) → n ≤ length text → at + length text ≡ end + n → least ≤ at
    → AreSpans least (tokens_among at (pieces_after n text)) end
unfolding pieces_after
AreSpans-among [] n at least end within e h = omega arith
AreSpans-among (b ∷ rest) (suc n) at least end within e h =
    AreSpans-among rest n at least end (omega arith) (omega arith) h
AreSpans-among (b ∷ rest) zero at least end within e h =
    let fits : IsWithin (first_piece (b ∷ rest)) (length (b ∷ rest)) = first_piece-within b rest in
    with_token-spans (first_piece (b ∷ rest)).what at (at + (first_piece (b ∷ rest)).size) _ least end h (omega arith)
    (λ n le. AreSpans-among rest ((first_piece (b ∷ rest)).size - 1) (at + (first_piece (b ∷ rest)).size) n end
    (omega arith) (omega arith) le)

pub AreSpans-tokens_of : (text : List ℕ) → AreSpans 0 (tokens_of text) (length text)
AreSpans-tokens_of text = AreSpans-among text 0 0 0 (length text) (omega arith) (omega arith) (omega arith)
