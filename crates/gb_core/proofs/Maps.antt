-- The places of maps.
use Rattle.std.proofs.Common.{◌≡◌, ℕ, zero, suc, ◌+◌, ◌-◌, ◌*◌, ◌/◌, ◌%◌, ◌^◌, ◌<◌, ◌≤◌, Bool, true, false, ◌&&◌, leb, eqb, List, [], ◌∷◌, ◌++◌, length, refl, sym, ap, ◌∙◌, ◌⊎◌, inl, inr, ⊎_elim, mul_comm, arith}
use Rattle.std.proofs.Math.Nat.{pow-zero, pow-succ', pow-le-pow_right, one-le-pow, mul-le-mul_right, div-eq_of_lt, mod-eq_of_lt}
use Rattle.std.proofs.lemmas.Bool.{false≢true, leb-true, le-leb, eqb-true, and_parts, and_from, cases_eq}
use Rattle.std.proofs.lemmas.Nat.{div-add-mod', div-mul-add, mod-mul-add, div_below, mod_below}
use Rattle.gb_core.specs.declared.value.Value.{Value}
use Rattle.gb_core.specs.declared.value.Value.TheVariants.{Num, Many}
use Rattle.gb_core.specs.Numbering.{Numbering, parts_in, is_many_in, parts_of, is_many, choices, first_or, second_or, key_of, value_of, entry_at, entries_at, entry_place, entries_place, is_entry, are_entries, map_of}
use Rattle.gb_core.proofs.Steps.{factors, entries_at-zero}
use Rattle.gb_core.proofs.Lawful.{Lawful, Lawful-lists, out-Many, Many-parts_of}

parts_of-pair : (a b : Value) → parts_of (Many (a ∷ b ∷ [])) ≡ a ∷ b ∷ []
parts_of-pair a b = ap parts_in (out-Many (a ∷ b ∷ []))

key_of-pair : (a b : Value) → key_of (Many (a ∷ b ∷ [])) ≡ a
key_of-pair a b = ap (λ xs. first_or xs (Num 0)) (parts_of-pair a b)

value_of-pair : (a b : Value) → value_of (Many (a ∷ b ∷ [])) ≡ b
value_of-pair a b = ap (λ xs. second_or xs (Num 0)) (parts_of-pair a b)

two_parts : (xs : List Value) → length xs ≡ 2 → first_or xs (Num 0) ∷ second_or xs (Num 0) ∷ [] ≡ xs
two_parts [] h = absurd (omega arith)
two_parts (a ∷ []) h = absurd (omega arith)
two_parts (a ∷ b ∷ []) h = refl
two_parts (a ∷ b ∷ c ∷ xs) h = absurd (omega arith)

module _ (k x : Numbering) (lk : Lawful k) (lx : Lawful x) where
  pub record Entry (p : Value) : Type 0 where
    pub whole : Many (key_of p ∷ value_of p ∷ []) ≡ p
    pub two : length (parts_of p) ≡ 2
    pub key : k.has (key_of p) ≡ true
    pub value : x.has (value_of p) ≡ true

  pub entry_of : (p : Value) → is_entry k x p ≡ true → Entry p
  entry_of p h =
      let a = and_parts (is_many p && eqb (length (parts_of p)) 2 && k.has (key_of p)) (x.has (value_of p)) h in
      let b = and_parts (is_many p && eqb (length (parts_of p)) 2) (k.has (key_of p)) a.0 in
      let c = and_parts (is_many p) (eqb (length (parts_of p)) 2) b.0 in
      record {
        whole = ap Many (two_parts (parts_of p) (eqb-true (length (parts_of p)) 2 c.1)) ∙ Many-parts_of p c.0;
        two = eqb-true (length (parts_of p)) 2 c.1;
        key = b.1;
        value = a.1;
      }

  is_entry-pair : (a b : Value) → k.has a ≡ true → x.has b ≡ true → is_entry k x (Many (a ∷ b ∷ [])) ≡ true
  is_entry-pair a b p q =
      and_from _ _
      (and_from _ _
      (and_from _ _ (ap is_many_in (out-Many (a ∷ b ∷ []))) (ap (λ xs. eqb (length xs) 2) (parts_of-pair a b)))
      (ap k.has (key_of-pair a b) ∙ p))
      (ap x.has (value_of-pair a b) ∙ q)

  pub record Front (from : ℕ) (p : Value) (ps : List Value) : Type 0 where
    pub entry : Entry p
    pub late : from ≤ k.place (key_of p)
    pub below : k.place (key_of p) < k.size
    pub others : are_entries k x (k.place (key_of p) + 1) ps ≡ true

  pub front_of : (from : ℕ) (p : Value) (ps : List Value) → are_entries k x from (p ∷ ps) ≡ true → Front from p ps
  front_of from p ps h =
      let a = and_parts (is_entry k x p && leb from (k.place (key_of p))) (are_entries k x (k.place (key_of p) + 1) ps) h in
      let b = and_parts (is_entry k x p) (leb from (k.place (key_of p))) a.0 in
      let e = entry_of p b.0 in
      record {
        entry = e;
        late = leb-true from (k.place (key_of p)) b.1;
        below = lk.below (key_of p) e.key;
        others = a.1;
      }

  pub earlier : (from to : ℕ) (ps : List Value) → from ≤ to → are_entries k x to ps ≡ true → are_entries k x from ps ≡ true
  earlier from to [] h e = refl
  earlier from to (p ∷ ps) h e =
      let a = and_parts (is_entry k x p && leb to (k.place (key_of p))) (are_entries k x (k.place (key_of p) + 1) ps) e in
      let b = and_parts (is_entry k x p) (leb to (k.place (key_of p))) a.0 in
      let l = leb-true to (k.place (key_of p)) b.1 in
      and_from _ _ (and_from _ _ b.0 (le-leb from (k.place (key_of p)) (omega arith))) a.1

  -- the choice of a key, before entries of later keys
  chosen : (j d to : ℕ) (ps : List Value) → j < k.size → d < choices x → to ≡ j + 1 → are_entries k x to ps ≡ true → are_entries k x j (entry_at k x j d ++ ps) ≡ true
  chosen j zero to ps h l e r = earlier j to ps (omega arith) r
  chosen j (suc d) to ps h l e r =
      let p = Many (k.at j ∷ x.at d ∷ []) in
      let place : k.place (key_of p) ≡ j = ap k.place (key_of-pair (k.at j) (x.at d)) ∙ lk.place_at j h in
      let later : are_entries k x (k.place (key_of p) + 1) ps ≡ true = ap (λ n. are_entries k x n ps) (omega arith) ∙ r in
      and_from _ _ (and_from _ _ (is_entry-pair (k.at j) (x.at d) (lk.has_at j h) (lx.has_at d (omega arith))) (le-leb j (k.place (key_of p)) (omega arith))) later

  map_has_at : (n i : ℕ) → n ≤ k.size → i < choices x ^ n → are_entries k x (k.size - n) (entries_at k x n i) ≡ true
  map_has_at zero i h b = refl
  map_has_at (suc n) i h b =
      let f = factors (choices x) (choices x ^ n) i (omega (arith, pow-succ' (choices x) n)) in
      let d = div_below i (choices x ^ n) (choices x) f.1 (omega (arith, pow-succ' (choices x) n)) in
      chosen (k.size - suc n) (i / choices x ^ n) (k.size - n) _ (omega arith) d (omega arith) (map_has_at n (i % choices x ^ n) (omega arith) (mod_below i (choices x ^ n) f.1))

  entry_place-pair : (n j d : ℕ) (ps : List Value) → j < k.size → k.size - 1 - j ≡ n → d < choices x → entries_place k x (entry_at k x j d ++ ps) ≡ d * choices x ^ n + entries_place k x ps
  entry_place-pair n j zero ps h e l = omega arith
  entry_place-pair n j (suc d) ps h e l =
      let key = ap k.place (key_of-pair (k.at j) (x.at d)) ∙ lk.place_at j h in
      let value = ap x.place (value_of-pair (k.at j) (x.at d)) ∙ lx.place_at d (omega arith) in
      let power : k.size - 1 - k.place (key_of (Many (k.at j ∷ x.at d ∷ []))) ≡ n = ap (λ z. k.size - 1 - z) key ∙ e in
      let digit : 1 + x.place (value_of (Many (k.at j ∷ x.at d ∷ []))) ≡ suc d = ap (λ z. 1 + z) value ∙ omega arith in
      λ i. digit i * choices x ^ power i + entries_place k x ps

  map_place_at : (n i : ℕ) → n ≤ k.size → i < choices x ^ n → entries_place k x (entries_at k x n i) ≡ i
  map_place_at zero i h b = omega (arith, pow-zero (choices x))
  map_place_at (suc n) i h b =
      let f = factors (choices x) (choices x ^ n) i (omega (arith, pow-succ' (choices x) n)) in
      let d = div_below i (choices x ^ n) (choices x) f.1 (omega (arith, pow-succ' (choices x) n)) in
      entry_place-pair n (k.size - suc n) (i / choices x ^ n) (entries_at k x n (i % choices x ^ n)) (omega arith) (omega arith) d
      ∙ ap (λ z. i / choices x ^ n * choices x ^ n + z) (map_place_at n (i % choices x ^ n) (omega arith) (mod_below i (choices x ^ n) f.1))
      ∙ div-add-mod' i (choices x ^ n)

  pub map_below : (n : ℕ) (ps : List Value) → n ≤ k.size → are_entries k x (k.size - n) ps ≡ true → entries_place k x ps < choices x ^ n
  map_below n [] h r =
      let positive : 0 < choices x = omega arith in
      omega (arith, one-le-pow n (choices x) positive)
  map_below n (p ∷ ps) h r =
      let f = front_of (k.size - n) p ps r in
      let late = f.late in
      let below = f.below in
      let m = k.size - 1 - k.place (key_of p) in
      let back : k.place (key_of p) + 1 ≡ k.size - m = omega arith in
      let others : entries_place k x ps < choices x ^ m = map_below m ps (omega arith) (sym (ap (λ z. are_entries k x z ps) back) ∙ f.others) in
      let value : 1 + x.place (value_of p) ≤ x.size = omega (arith, lx.below (value_of p) f.entry.value) in
      let first : (1 + x.place (value_of p)) * choices x ^ m ≤ x.size * choices x ^ m = mul-le-mul_right (choices x ^ m) value in
      let positive : 0 < choices x = omega arith in
      let exponent : suc m ≤ n = omega arith in
      let all : choices x ^ suc m ≤ choices x ^ n = pow-le-pow_right positive exponent in
      omega (arith, pow-succ' (choices x) m)

  map_at_place : (n : ℕ) (ps : List Value) → n ≤ k.size → are_entries k x (k.size - n) ps ≡ true → entries_at k x n (entries_place k x ps) ≡ ps
  map_at_place zero [] h r = refl
  map_at_place zero (p ∷ ps) h r =
      let f = front_of (k.size - 0) p ps r in
      let late = f.late in
      let below = f.below in
      absurd (omega arith)
  map_at_place (suc n) [] h r = entries_at-zero k x (suc n)
  map_at_place (suc n) (p ∷ ps) h r =
      let f = front_of (k.size - suc n) p ps r in
      let late = f.late in
      let below = f.below in
      ⊎_elim
      (λ e.
      let back : k.place (key_of p) + 1 ≡ k.size - n = omega arith in
      let rest : are_entries k x (k.size - n) ps ≡ true = sym (ap (λ z. are_entries k x z ps) back) ∙ f.others in
      let power : k.size - 1 - k.place (key_of p) ≡ n = omega arith in
      let digit : 1 + x.place (value_of p) ≡ suc (x.place (value_of p)) = omega arith in
      let total : entries_place k x (p ∷ ps) ≡ suc (x.place (value_of p)) * choices x ^ n + entries_place k x ps = (λ i. digit i * choices x ^ power i + entries_place k x ps) in
      let b = map_below n ps (omega arith) rest in
      let q : entries_place k x (p ∷ ps) / choices x ^ n ≡ suc (x.place (value_of p)) = ap (λ z. z / choices x ^ n) total ∙ div-mul-add (suc (x.place (value_of p))) (choices x ^ n) (entries_place k x ps) b in
      let m : entries_place k x (p ∷ ps) % choices x ^ n ≡ entries_place k x ps = ap (λ z. z % choices x ^ n) total ∙ mod-mul-add (suc (x.place (value_of p))) (choices x ^ n) (entries_place k x ps) b in
      let here : k.at (k.size - suc n) ≡ key_of p = ap k.at (sym e) ∙ lk.at_place (key_of p) f.entry.key in
      let there = lx.at_place (value_of p) f.entry.value in
      (λ i. entry_at k x (k.size - suc n) (q i) ++ entries_at k x n (m i))
      ∙ (λ i. Many (here i ∷ there i ∷ []) ∷ map_at_place n ps (omega arith) rest i)
      ∙ ap (λ z. z ∷ ps) f.entry.whole)
      (λ e.
      let rest : are_entries k x (k.size - n) (p ∷ ps) ≡ true = later n p ps h r (omega arith) in
      let b = map_below n (p ∷ ps) (omega arith) rest in
      let q : entries_place k x (p ∷ ps) / choices x ^ n ≡ 0 = div-eq_of_lt b in
      let m : entries_place k x (p ∷ ps) % choices x ^ n ≡ entries_place k x (p ∷ ps) = mod-eq_of_lt b in
      (λ i. entry_at k x (k.size - suc n) (q i) ++ entries_at k x n (m i)) ∙ map_at_place n (p ∷ ps) (omega arith) rest)
      (cases_eq (k.place (key_of p)) (k.size - suc n))
    where
      later : (n : ℕ) (p : Value) (ps : List Value) → suc n ≤ k.size → are_entries k x (k.size - suc n) (p ∷ ps) ≡ true → k.size - n ≤ k.place (key_of p) → are_entries k x (k.size - n) (p ∷ ps) ≡ true
      later n p ps h r l =
          let a = and_parts (is_entry k x p && leb (k.size - suc n) (k.place (key_of p))) (are_entries k x (k.place (key_of p) + 1) ps) r in
          let b = and_parts (is_entry k x p) (leb (k.size - suc n) (k.place (key_of p))) a.0 in
          and_from _ _ (and_from _ _ b.0 (le-leb (k.size - n) (k.place (key_of p)) l)) a.1

  -- the places of maps are below their number
  pub maps_below : (ps : List Value) → are_entries k x 0 ps ≡ true → entries_place k x ps < choices x ^ k.size
  maps_below ps h =
      let none : k.size - k.size ≡ 0 = omega arith in
      map_below k.size ps (omega arith) (ap (λ z. are_entries k x z ps) none ∙ h)

  pub Lawful-map : Lawful (map_of k x)
  Lawful-map =
      let none : k.size - k.size ≡ 0 = omega arith in
      Lawful-lists (choices x ^ k.size) (entries_at k x k.size) (entries_place k x) (are_entries k x 0) (record {
        has_at = λ i h. sym (ap (λ z. are_entries k x z (entries_at k x k.size i)) none) ∙ map_has_at k.size i (omega arith) h;
        place_at = λ i h. map_place_at k.size i (omega arith) h;
        below = maps_below;
        at_place = λ ps h. map_at_place k.size ps (omega arith) (ap (λ z. are_entries k x z ps) none ∙ h);
      })
