-- Keys of entries.
use Rattle.std.proofs.Common.{◌≡◌, ℕ, zero, suc, ◌^◌, ◌<◌, ◌≤◌, Bool, true, false, ◌&&◌, ◌||◌, nat_lt, if◌then◌else◌, IsTrue, List, [], ◌∷◌, length, get_or, refl, sym, ap, subst, ◌∙◌, arith}
use Rattle.std.proofs.lemmas.Bool.{false≢true, and_parts, ltb-true}
use Rattle.gb_core.specs.declared.ty.Ty.{Ty}
use Rattle.gb_core.specs.declared.ty.Ty.TheVariants as ty
use Rattle.gb_core.specs.declared.ty.Ty.TheOpen as layer
use Rattle.gb_core.specs.declared.ty.Ty.TheFolds.{fold-roll-Ty}
use Rattle.gb_core.specs.declared.value.Value.{Value}
use Rattle.gb_core.specs.declared.value.Value.TheVariants.{Num}
use Rattle.gb_core.specs.declared.value.Card.{Card}
use Rattle.gb_core.specs.declared.value.Card.TheVariants.{Exact, Above}
use Rattle.gb_core.specs.Numbering.{Numbering, numbers, number_of, parts_of, key_of, first_or}
use Rattle.gb_core.specs.Types.{numbering, numbering_step, card_of, is_finite, size_of, place_of, IsExact, IsValue}
use Rattle.gb_labels.specs.Keys.{are_keys, is_among, is_key, is_of_numbers}

-- the first part of an entry is its key

pub first_key : (p : Value) (vs : List Value) (v : Value) → vs ≡ parts_of p → 1 ≤ length vs → v ≡ get_or vs 0 v → v ≡ key_of p
first_key p [] v e h q = absurd (omega arith)
first_key p (w ∷ vs) v e h q = q ∙ ap (λ l. first_or l (Num 0)) e

pub no_key : (p : Value) (vs : List Value) → vs ≡ parts_of p → length vs < 1 → Num 0 ≡ key_of p
no_key p [] e h = ap (λ l. first_or l (Num 0)) e
no_key p (w ∷ vs) e h = absurd (omega arith)

-- numbers are their own places

placed : (u : Ty) (n : ℕ) (k : Value) → numbering u ≡ numbers n → number_of k ≡ place_of u k
placed u n k e = ap (λ t. t.place k) (sym e)

pub numbers_place : (u : Ty) (k : Value) → is_of_numbers u ≡ true → number_of k ≡ place_of u k
numbers_place ty.Unit k h = placed ty.Unit 1 k (ap numbering (sym ty.rolls-Unit) ∙ fold-roll-Ty Numbering numbering_step layer.Unit)
numbers_place ty.Bool k h = placed ty.Bool 2 k (ap numbering (sym ty.rolls-Bool) ∙ fold-roll-Ty Numbering numbering_step layer.Bool)
numbers_place (ty.Bits n) k h = placed (ty.Bits n) (2 ^ n) k (ap numbering (sym (ty.rolls-Bits n)) ∙ fold-roll-Ty Numbering numbering_step (layer.Bits n))
numbers_place (ty.Mod n) k h = placed (ty.Mod n) n k (ap numbering (sym (ty.rolls-Mod n)) ∙ fold-roll-Ty Numbering numbering_step (layer.Mod n))
numbers_place (ty.Enumeration x n) k h = placed (ty.Enumeration x n) n k (ap numbering (sym (ty.rolls-Enumeration x n)) ∙ fold-roll-Ty Numbering numbering_step (layer.Enumeration x n))
numbers_place _ k h = absurd (false≢true h)

-- other keys are values

pub other_key : (u : Ty) (k : Value) → is_key u k ≡ true → is_of_numbers u ≡ false → IsValue u k
other_key u k h n = by (card_of u) (subst (λ b. (b || is_among (card_of u) u k) ≡ true) n h)
  where
    by : (c : Card) → is_among c u k ≡ true → IsExact c × IsTrue ((numbering u).has k)
    by (Exact m) e = (tt, e)
    by Above e = absurd (false≢true e)

pub exact_type : (u : Ty) (n : ℕ) → Exact n ≡ card_of u → (is_finite u ≡ true) × (size_of u < 2 ^ 63)
exact_type u n e = by (is_finite u && nat_lt (size_of u) (2 ^ 63)) refl e
  where
    by : (b : Bool) → (is_finite u && nat_lt (size_of u) (2 ^ 63)) ≡ b → Exact n ≡ (if b then Exact (size_of u) else Above) → (is_finite u ≡ true) × (size_of u < 2 ^ 63)
    by true h e = let both = and_parts (is_finite u) (nat_lt (size_of u) (2 ^ 63)) h in (both.0, ltb-true (size_of u) (2 ^ 63) both.1)
    by false h e = absurd (cc)

-- the key of each of some entries

pub key_at : (u : Ty) (ps : List Value) (i : ℕ) (p : Value) → are_keys u ps ≡ true → i < length ps → p ≡ get_or ps i p → is_key u (key_of p) ≡ true
key_at u [] i p h l e = absurd (omega arith)
key_at u (q ∷ ps) zero p h l e = ap (λ x. is_key u (key_of x)) e ∙ (and_parts (is_key u (key_of q)) (are_keys u ps) h).0
key_at u (q ∷ ps) (suc i) p h l e = key_at u ps i p (and_parts (is_key u (key_of q)) (are_keys u ps) h).1 (omega arith) e
