-- One step further in the parts of a tuple and in the entries of a map.
use Rattle.std.proofs.Common.{◌≡◌, ◌⊎◌, ⊎_elim, ℕ, suc, ◌+◌, ◌*◌, ◌^◌, ◌<◌, ◌≤◌, Bool, true, false, ◌&&◌, ◌==◌, nat_le, if◌then◌else◌, List, [], ◌∷◌, length, get_or, drop, map, Some, None, refl, sym, ap, ◌∙◌, arith}
use Rattle.std.proofs.Math.Nat.{pow-le-pow_right, pow-suc, pow-zero}
use Rattle.std.proofs.lemmas.Bool.{and_parts, eqb-true, leb-true, leb-false}
use Rattle.std.proofs.lemmas.List.{at_drop_more, drop_all}
use Rattle.std.proofs.lemmas.Option.{none-some, same_Some}
use Rattle.gb_core.specs.declared.ty.Ty.{Ty}
use Rattle.gb_core.specs.declared.value.Value.{Value}
use Rattle.gb_core.specs.Numbering.{Numbering, are_entries, is_entry, is_many, is_tuple, key_of, parts_of, tuples, value_of}
use Rattle.gb_core.specs.Types.{all_true, is_finite, numbering, size_of}
use Rattle.gb_core.proofs.Capped.{large_power}
use Rattle.gb_core.proofs.Lawful.{Lawful}
use Rattle.gb_core.proofs.Orders.{lawful}
use Rattle.gb_core.proofs.Steps.{factors}
use Rattle.gb_closing.specs.Entries.{behind_key}

-- nothing is a value of a type without values
pub none_has : (ty : Ty) (v : Value) → size_of ty ≡ 0 → (numbering ty).has v ≡ false
none_has ty v e = step ((numbering ty).has v) refl
  where
    step : (b : Bool) → (numbering ty).has v ≡ b → b ≡ false
    step false h = refl
    step true h = let l = (lawful ty).below v h in absurd (omega (arith, l, e))

pub record PartHas (ts : List Ty) (xs : List Value) (i : ℕ) (ty : Ty) (x : Value) : Type 0 where
  pub finite : is_finite ty ≡ true
  pub exact : size_of ty < 2 ^ 63
  pub others_finite : all_true (map is_finite (drop (i + 1) ts)) ≡ true
  pub others_some : 0 < tuples (map numbering (drop (i + 1) ts))
  pub others_exact : tuples (map numbering (drop (i + 1) ts)) < 2 ^ 63
  pub opened : is_tuple (map numbering (drop i ts)) (drop i xs) ≡ ((numbering ty).has x && is_tuple (map numbering (drop (i + 1) ts)) (drop (i + 1) xs))

pub part_has : (ts : List Ty) (xs : List Value) (i : ℕ) (ty : Ty) (x : Value) → i < length ts → i < length xs → ty ≡ get_or ts i ty → x ≡ get_or xs i x →
    all_true (map is_finite (drop i ts)) ≡ true → 0 < tuples (map numbering (drop i ts)) → tuples (map numbering (drop i ts)) < 2 ^ 63 → PartHas ts xs i ty x
part_has ts xs i ty x h l e f finite some exact =
    let n = tuples (map numbering (drop (i + 1) ts)) in
    let split : tuples (map numbering (drop i ts)) ≡ size_of ty * n = at_drop_more (λ (us : List Ty). tuples (map numbering us)) ts i ty h ∙ ap (λ u. size_of u * n) (sym e) in
    let each = and_parts (is_finite ty) (all_true (map is_finite (drop (i + 1) ts)))
    (sym (at_drop_more (λ (us : List Ty). all_true (map is_finite us)) ts i ty h ∙ ap (λ u. is_finite u && all_true (map is_finite (drop (i + 1) ts))) (sym e)) ∙ finite) in
    let both = factors (size_of ty) n 0 (omega (arith, some, split)) in
    record {
      finite = each.0;
      exact = omega (arith, both.2, split, exact);
      others_finite = each.1;
      others_some = both.1;
      others_exact = omega (arith, both.3, split, exact);
      opened =
          at_drop_more (λ (us : List Ty). is_tuple (map numbering us) (drop i xs)) ts i ty h
          ∙ at_drop_more (λ (ys : List Value). is_tuple (map numbering (get_or ts i ty ∷ drop (i + 1) ts)) ys) xs i x l
          ∙ (λ j. (numbering (sym e j)).has (sym f j) && is_tuple (map numbering (drop (i + 1) ts)) (drop (i + 1) xs));
    }

pub other_length : (ts : List Ty) (xs : List Value) → (length ts ≡ length xs → ⊥) → is_tuple (map numbering ts) xs ≡ false
other_length [] [] h = absurd (h refl)
other_length [] (x ∷ xs) h = refl
other_length (t ∷ ts) [] h = refl
other_length (t ∷ ts) (x ∷ xs) h = ap (λ b. (numbering t).has x && b) (other_length ts xs (λ e. h (ap suc e))) ∙ none ((numbering t).has x)
  where
    none : (b : Bool) → (b && false) ≡ false
    none true = refl
    none false = refl

pub parts_end : (ts : List Ty) (xs : List Value) (i : ℕ) → length ts ≤ i → length ts ≡ length xs → is_tuple (map numbering (drop i ts)) (drop i xs) ≡ true
parts_end ts xs i h e = (λ j. is_tuple (map numbering (drop_all i ts h j)) (drop_all i xs (omega (arith, h, e)) j))

-- the sizes of the types of a map with fewer than 2^63 values, both of which have values
pub map_sizes : (k x : ℕ) → 0 < k → 0 < x → (x + 1) ^ k < 2 ^ 63 → (k < 2 ^ 63) × (x < 2 ^ 63)
map_sizes k x p q h = (few_keys, few_values)
  where
    few_keys : k < 2 ^ 63
    few_keys = step (nat_le 63 k) refl
      where
        step : (b : Bool) → nat_le 63 k ≡ b → k < 2 ^ 63
        step true e = let l : 63 ≤ k = leb-true 63 k e in absurd (let m = large_power (x + 1) k (omega (arith, q)) l in omega (arith, m, h))
        step false e = let l = leb-false 63 k e in omega (arith, l)

    few_values : x < 2 ^ 63
    few_values =
        let positive : 1 ≤ x + 1 = omega arith in
        let all : (x + 1) ^ 1 ≤ (x + 1) ^ k = pow-le-pow_right positive (omega (arith, p)) in
        let base : (x + 1) ^ 1 ≡ x + 1 = pow-suc (x + 1) 0 ∙ ap (λ z. z * (x + 1)) (pow-zero (x + 1)) ∙ omega arith in
        omega (arith, all, base, h)

-- entries of a map of which the keys or the values have none

module _ (k x : Numbering) (key : Lawful k) (value : Lawful x) where
  no_entry : (k.size ≡ 0) ⊎ (x.size ≡ 0) → (p : Value) → is_entry k x p ≡ false
  no_entry h p = step (is_entry k x p) refl
    where
      step : (b : Bool) → is_entry k x p ≡ b → b ≡ false
      step false e = refl
      step true e =
          let all = and_parts (is_many p && (length (parts_of p) == 2) && k.has (key_of p)) (x.has (value_of p)) e in
          let front = and_parts (is_many p && (length (parts_of p) == 2)) (k.has (key_of p)) all.0 in
          absurd (⊎_elim (λ z. let l = key.below (key_of p) front.1 in omega (arith, l, z)) (λ z. let l = value.below (value_of p) all.1 in omega (arith, l, z)) h)

  pub none_of_map : (k.size ≡ 0) ⊎ (x.size ≡ 0) → (ps : List Value) → (length ps == 0) ≡ are_entries k x 0 ps
  none_of_map h [] = refl
  none_of_map h (p ∷ ps) =
      some (length (p ∷ ps) == 0) refl ∙ sym (ap (λ b. b && nat_le 0 (k.place (key_of p)) && are_entries k x (k.place (key_of p) + 1) ps) (no_entry h p))
    where
      some : (b : Bool) → (length (p ∷ ps) == 0) ≡ b → b ≡ false
      some true e = let z = eqb-true (length (p ∷ ps)) 0 e in absurd (omega (arith, z))
      some false e = refl

  -- one entry further
  pub one_entry : (ps : List Value) (i from : ℕ) (p : Value) → i < length ps → p ≡ get_or ps i p → (n : ℕ) → behind_key k x from p ≡ Some n →
      are_entries k x from (drop i ps) ≡ are_entries k x n (drop (i + 1) ps)
  one_entry ps i from p l e n h = at_drop_more (are_entries k x from) ps i p l ∙ ap (λ q. are_entries k x from (q ∷ drop (i + 1) ps)) (sym e) ∙ step (is_entry k x p) (nat_le from (k.place (key_of p))) h
    where
      step : (b c : Bool) → (if b && c then Some (k.place (key_of p) + 1) else None) ≡ Some n → (b && c && are_entries k x (k.place (key_of p) + 1) (drop (i + 1) ps)) ≡ are_entries k x n (drop (i + 1) ps)
      step true true h = ap (λ m. are_entries k x m (drop (i + 1) ps)) (same_Some (k.place (key_of p) + 1) n h)
      step true false h = absurd (none-some n h)
      step false c h = absurd (none-some n h)

  pub no_further : (ps : List Value) (i from : ℕ) (p : Value) → i < length ps → p ≡ get_or ps i p → behind_key k x from p ≡ None → are_entries k x from (drop i ps) ≡ false
  no_further ps i from p l e h = at_drop_more (are_entries k x from) ps i p l ∙ ap (λ q. are_entries k x from (q ∷ drop (i + 1) ps)) (sym e) ∙ step (is_entry k x p) (nat_le from (k.place (key_of p))) h
    where
      step : (b c : Bool) → (if b && c then Some (k.place (key_of p) + 1) else None) ≡ None → (b && c && are_entries k x (k.place (key_of p) + 1) (drop (i + 1) ps)) ≡ false
      step true true h = absurd (none-some (k.place (key_of p) + 1) (sym h))
      step true false h = refl
      step false c h = refl
