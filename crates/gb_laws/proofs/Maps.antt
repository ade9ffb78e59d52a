-- Entries of maps.
use Rattle.std.proofs.Common.{◌≡◌, ℕ, ◌+◌, ◌≤◌, Bool, true, false, ◌&&◌, ◌==◌, leb, nat_lt, if◌then◌else◌, List, [], ◌∷◌, length, refl, ap, sym, ◌∙◌, subst, arith}
use Rattle.std.proofs.lemmas.Bool.{ltb-true, ltb-false, le-leb, and_from, and_parts}
use Rattle.gb_core.specs.declared.value.Value.{Value}
use Rattle.gb_core.specs.declared.value.Value.TheVariants.{Num, Many}
use Rattle.gb_core.specs.Numbering.{Numbering, is_many_in, parts_in, first_or, second_or, key_of, value_of, is_option, is_entry, are_entries}
use Rattle.gb_core.proofs.Lawful.{Lawful, out-Many}
use Rattle.gb_core.proofs.Maps.{front_of}
use Rattle.gb_meaning.specs.Values.{value_eq}
use Rattle.gb_meaning.specs.Operators.{entry_of, entry_set}

abbrev pair : Value → Value → Value
pair a b = Many (a ∷ b ∷ [])

key_of_pair : (a b : Value) → key_of (pair a b) ≡ a
key_of_pair a b = ap (λ z. first_or (parts_in z) (Num 0)) (out-Many (a ∷ b ∷ []))

module _ (k x : Numbering) (lk : Lawful k) (lx : Lawful x) where
  pair_is_entry : (a b : Value) → k.has a ≡ true → x.has b ≡ true → is_entry k x (pair a b) ≡ true
  pair_is_entry a b h l =
      ap (λ z. is_many_in z && (length (parts_in z) == 2) && k.has (first_or (parts_in z) (Num 0)) && x.has (second_or (parts_in z) (Num 0))) (out-Many (a ∷ b ∷ []))
      ∙ and_from (k.has a) (x.has b) h l

  in_front : (from : ℕ) (p : Value) (ps : List Value) → is_entry k x p ≡ true → from ≤ k.place (key_of p) → are_entries k x (k.place (key_of p) + 1) ps ≡ true →
      are_entries k x from (p ∷ ps) ≡ true
  in_front from p ps e l h = and_from _ _ (and_from _ _ e (le-leb from (k.place (key_of p)) l)) h

  pair_in_front : (from : ℕ) (a b : Value) (ps : List Value) → k.has a ≡ true → x.has b ≡ true → from ≤ k.place a → are_entries k x (k.place a + 1) ps ≡ true →
      are_entries k x from (pair a b ∷ ps) ≡ true
  pair_in_front from a b ps h l m e =
      let q = key_of_pair a b in
      in_front from (pair a b) ps (pair_is_entry a b h l) (subst (λ z. from ≤ k.place z) (sym q) m) (subst (λ z. are_entries k x (k.place z + 1) ps ≡ true) (sym q) e)

  -- what a map holds at a key is an option of its values
  pub entry_in : (from : ℕ) (ps : List Value) (a : Value) → are_entries k x from ps ≡ true → is_option x (entry_of ps a) ≡ true
  entry_in from [] a h = refl
  entry_in from (p ∷ ps) a h =
      let f = front_of k x lk lx from p ps h in
      step (value_eq (key_of p) a) f.entry.value (entry_in (k.place (key_of p) + 1) ps a f.others)
    where
      step : (b : Bool) → x.has (value_of p) ≡ true → is_option x (entry_of ps a) ≡ true → is_option x (if b then value_of p ∷ [] else entry_of ps a) ≡ true
      step true v r = v
      step false v r = r

  same_place : (a b : Value) → nat_lt (k.place a) (k.place b) ≡ false → nat_lt (k.place b) (k.place a) ≡ false → k.place a ≡ k.place b
  same_place a b u v = omega (arith, ltb-false (k.place a) (k.place b) u, ltb-false (k.place b) (k.place a) v)

  -- a map with a value at a key is a map
  pub set_in : (from : ℕ) (ps : List Value) (a b : Value) → k.has a ≡ true → x.has b ≡ true → from ≤ k.place a → are_entries k x from ps ≡ true →
      are_entries k x from (entry_set k ps a b) ≡ true
  set_in from [] a b h l m e = pair_in_front from a b [] h l m refl
  set_in from (p ∷ ps) a b h l m e = step (nat_lt (k.place (key_of p)) (k.place a)) (nat_lt (k.place a) (k.place (key_of p))) (λ q r. set_in (k.place (key_of p) + 1) ps a b h l q r) refl refl
    where
      step : (c d : Bool) → (k.place (key_of p) + 1 ≤ k.place a → are_entries k x (k.place (key_of p) + 1) ps ≡ true → are_entries k x (k.place (key_of p) + 1) (entry_set k ps a b) ≡ true) →
          nat_lt (k.place (key_of p)) (k.place a) ≡ c → nat_lt (k.place a) (k.place (key_of p)) ≡ d →
          are_entries k x from (if c then p ∷ entry_set k ps a b else if d then pair a b ∷ p ∷ ps else pair a b ∷ ps) ≡ true
      step true d r u v =
          let f = front_of k x lk lx from p ps e in
          let s = ltb-true (k.place (key_of p)) (k.place a) u in
          in_front from p (entry_set k ps a b) (and_parts (is_entry k x p) (leb from (k.place (key_of p))) (and_parts (is_entry k x p && leb from (k.place (key_of p))) (are_entries k x (k.place (key_of p) + 1) ps) e).0).0 f.late
          (r (omega (arith, s)) f.others)
      step false true r u v =
          let f = front_of k x lk lx from p ps e in
          let s = ltb-true (k.place a) (k.place (key_of p)) v in
          pair_in_front from a b (p ∷ ps) h l m
          (in_front (k.place a + 1) p ps (and_parts (is_entry k x p) (leb from (k.place (key_of p))) (and_parts (is_entry k x p && leb from (k.place (key_of p))) (are_entries k x (k.place (key_of p) + 1) ps) e).0).0 (omega (arith, s)) f.others)
      step false false r u v =
          let f = front_of k x lk lx from p ps e in
          pair_in_front from a b ps h l m (subst (λ z. are_entries k x (z + 1) ps ≡ true) (same_place (key_of p) a u v) f.others)
