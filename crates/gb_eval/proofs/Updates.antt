-- Maps with a value for a key.
use Rattle.std.proofs.Common.{◌≡◌, ℕ, Bool, true, false, ◌&&◌, ◌||◌, List, refl, sym, ap, ◌∙◌}
use Rattle.std.proofs.lemmas.Bool.{false≢true, and_parts}
use Rattle.gb_core.specs.declared.ty.Ty.{Ty}
use Rattle.gb_core.specs.declared.ty.Ty.TheVariants as ty
use Rattle.gb_core.specs.declared.ty.Ty.TheOpen as layer
use Rattle.gb_core.specs.declared.ty.Ty.TheFolds.{fold-roll-Ty}
use Rattle.gb_core.specs.declared.value.Value.{Value}
use Rattle.gb_core.specs.declared.value.Value.TheVariants.{Many}
use Rattle.gb_core.specs.Numbering.{parts_of}
use Rattle.gb_core.specs.declared.value.Card.{Card}
use Rattle.gb_core.specs.declared.value.Card.TheVariants.{Exact, Above}
use Rattle.gb_core.specs.Types.{card_of, finite_step, is_finite, numbering}
use Rattle.gb_meaning.specs.Setting.{Meaning}
use Rattle.gb_meaning.specs.Setting.{Meaning as meaning}
use Rattle.gb_meaning.specs.Values.{Types, values}
use Rattle.gb_meaning.specs.Meanings as m
use Rattle.gb_meaning.specs.Operators.{entry_set, key_type}
use Rattle.gb_meaning.proofs.Types.{values_finite}
use Rattle.gb_eval.specs.Findings.{Finding, value_in}
use Rattle.gb_eval.specs.Findings.Finding.{value, whole, fraction, table}
use Rattle.gb_eval.specs.Findings.Comes.{found}
use Rattle.gb_labels.specs.Keys.{are_keys, is_among, is_key, is_of_numbers}
use Rattle.gb_labels.proofs.Places.{exact_type}
use Rattle.gb_eval.specs.Operators.{is_map, updated}
use Rattle.gb_eval.specs.Meant.{IsFound, Means}
use Rattle.gb_eval.proofs.Truths.{Finds, then_finds, if_finds, finds_means}

-- the value that is found
found_value : (x : Finding) (a : Meaning) (i : ℕ) → IsFound x a i → Finds (λ v. m.value_in a ≡ v) (value_in x)
found_value (value v) a i h = ap m.value_in h
found_value (whole v) a i h = tt
found_value (fraction v) a i h = tt
found_value (table n l) a i h = tt

of_numbers_finite : (u : Ty) → is_of_numbers u ≡ true → is_finite u ≡ true
of_numbers_finite ty.Unit h = ap is_finite (sym ty.rolls-Unit) ∙ fold-roll-Ty Bool finite_step layer.Unit
of_numbers_finite ty.Bool h = ap is_finite (sym ty.rolls-Bool) ∙ fold-roll-Ty Bool finite_step layer.Bool
of_numbers_finite (ty.Bits n) h = ap is_finite (sym (ty.rolls-Bits n)) ∙ fold-roll-Ty Bool finite_step (layer.Bits n)
of_numbers_finite (ty.Mod n) h = ap is_finite (sym (ty.rolls-Mod n)) ∙ fold-roll-Ty Bool finite_step (layer.Mod n)
of_numbers_finite (ty.Enumeration x n) h = ap is_finite (sym (ty.rolls-Enumeration x n)) ∙ fold-roll-Ty Bool finite_step (layer.Enumeration x n)
of_numbers_finite _ h = absurd (false≢true h)

-- a type with keys is finite
keys_finite : (u : Ty) (k : Value) → is_key u k ≡ true → is_finite u ≡ true
keys_finite u k h = by (is_of_numbers u) refl h
  where
    exact : (c : Card) → card_of u ≡ c → is_among c u k ≡ true → is_finite u ≡ true
    exact (Exact n) e m = (exact_type u n (sym e)).0
    exact Above e m = absurd (false≢true m)

    by : (b : Bool) → is_of_numbers u ≡ b → (b || is_among (card_of u) u k) ≡ true → is_finite u ≡ true
    by true e m = of_numbers_finite u e
    by false e m = exact (card_of u) refl m

pub updated_meant : (t : Types) (u : Ty) (x y z : Finding) (a b c : Meaning) (i j k : ℕ) → IsFound x a i → IsFound y b j → IsFound z c k →
    Means (updated u x y z) (meaning.finite (Many (entry_set (values t (key_type u)) (parts_of (m.value_in a)) (m.value_in b) (m.value_in c)))) 1
updated_meant t u x y z a b c i j k h l n =
    finds_means _ _ 1 (then_finds (λ v. m.value_in a ≡ v) P (value_in x) _ (found_value x a i h)
    (λ v e p. then_finds (λ w. m.value_in b ≡ w) P (value_in y) _ (found_value y b j l)
    (λ w f q. then_finds (λ o. m.value_in c ≡ o) P (value_in z) _ (found_value z c k n)
    (λ o g r. if_finds P (is_map u && is_key (key_type u) w && are_keys (key_type u) (parts_of v)) (found (value (Many (entry_set (numbering (key_type u)) (parts_of v) w o))))
    (λ s. λ d. meaning.finite (Many (entry_set (values_finite t (key_type u) (keys_finite (key_type u) w (of_key u w (parts_of v) s)) d) (parts_of (p d)) (q d) (r d))))))))
  where
    P : Finding → Type 0
    P f = IsFound f (meaning.finite (Many (entry_set (values t (key_type u)) (parts_of (m.value_in a)) (m.value_in b) (m.value_in c)))) 1

    of_key : (u : Ty) (k : Value) (ps : List Value) → (is_map u && is_key (key_type u) k && are_keys (key_type u) ps) ≡ true → is_key (key_type u) k ≡ true
    of_key u k ps s = (and_parts (is_map u) (is_key (key_type u) k) (and_parts (is_map u && is_key (key_type u) k) (are_keys (key_type u) ps) s).0).1
