-- Maps as lists of entries, and maps that are related key by key.
use Rattle.std.proofs.Common.{◌≡◌, ◌⊎◌, inl, inr, ℕ, ◌+◌, ◌≤◌, Bool, true, false, if◌then◌else◌, nat_lt, List, [], ◌∷◌, refl, ap, sym, ◌∙◌, subst, arith}
use Rattle.std.proofs.lemmas.Bool.{false≢true, and_parts, ltb-true, ltb-false}
use Rattle.gb_core.specs.declared.value.Value.{Value}
use Rattle.gb_core.specs.declared.value.Value.TheVariants.{Num, Many}
use Rattle.gb_core.specs.Numbering.{Numbering, parts_in, parts_of, is_many, first_or, second_or, key_of, value_of, are_entries, map_of}
use Rattle.gb_core.proofs.Lawful.{Lawful, out-Many, Many-parts_of}
use Rattle.gb_core.proofs.Maps.{Front, front_of}
use Rattle.gb_meaning.specs.Values.{value_eq}
use Rattle.gb_meaning.specs.Operators.{entry_of, entry_set, is_none}
use Rattle.gb_meaning.proofs.Values.{value_discrete, value_eq-true}
use Rattle.gb_closing_laws.specs.Related.{IsInto, KeyByKey}

pair_key : (a b : Value) → key_of (Many (a ∷ b ∷ [])) ≡ a
pair_key a b = ap (λ z. first_or (parts_in z) (Num 0)) (out-Many (a ∷ b ∷ []))

pair_value : (a b : Value) → value_of (Many (a ∷ b ∷ [])) ≡ b
pair_value a b = ap (λ z. second_or (parts_in z) (Num 0)) (out-Many (a ∷ b ∷ []))

pub parts_many : (vs : List Value) → parts_of (Many vs) ≡ vs
parts_many vs = ap parts_in (out-Many vs)

new_here : (qs : List Value) (i v : Value) → entry_of (Many (i ∷ v ∷ []) ∷ qs) i ≡ v ∷ []
new_here qs i v =
    ap (λ z. if value_eq z i then value_of (Many (i ∷ v ∷ [])) ∷ [] else entry_of qs i) (pair_key i v)
    ∙ ap (λ (b : Bool). if b then value_of (Many (i ∷ v ∷ [])) ∷ [] else entry_of qs i) ((value_eq-true i i).1 refl)
    ∙ ap (λ z. z ∷ []) (pair_value i v)

pub nothing_there : (v : Value) → [] ≡ v ∷ [] → ⊥
nothing_there v e = false≢true (sym (ap is_none e))

same_alone : (v w : Value) → v ∷ [] ≡ w ∷ [] → v ≡ w
same_alone v w e = ap (λ z. first_or z v) e

-- The entry of a key.

first_entry : (p : Value) (ps : List Value) → entry_of (p ∷ ps) (key_of p) ≡ value_of p ∷ []
first_entry p ps = ap (λ (b : Bool). if b then value_of p ∷ [] else entry_of ps (key_of p)) ((value_eq-true (key_of p) (key_of p)).1 refl)

other_entry : (p : Value) (ps : List Value) (i : Value) → (key_of p ≡ i → ⊥) → entry_of (p ∷ ps) i ≡ entry_of ps i
other_entry p ps i n = step (value_eq (key_of p) i) refl
  where
    step : (b : Bool) → value_eq (key_of p) i ≡ b → (if b then value_of p ∷ [] else entry_of ps i) ≡ entry_of ps i
    step true e = absurd (n ((value_eq-true (key_of p) i).0 e))
    step false e = refl

found_entry : (p : Value) (ps : List Value) (i v : Value) → entry_of (p ∷ ps) i ≡ v ∷ [] → ((key_of p ≡ i) × (value_of p ≡ v)) ⊎ (entry_of ps i ≡ v ∷ [])
found_entry p ps i v e = elim (value_discrete (key_of p) i) [
  | yes s ↦ inl (s, same_alone (value_of p) v (sym (first_entry p ps) ∙ ap (entry_of (p ∷ ps)) s ∙ e))
  | no n ↦ inr (sym (other_entry p ps i n) ∙ e)
]

-- a key has no entry, or one
pub one_entry : (ps : List Value) (i : Value) → (entry_of ps i ≡ []) ⊎ ((v : Value) × (entry_of ps i ≡ v ∷ []))
one_entry [] i = inl refl
one_entry (p ∷ ps) i = step (value_eq (key_of p) i) (one_entry ps i)
  where
    step : (b : Bool) → (entry_of ps i ≡ []) ⊎ ((v : Value) × (entry_of ps i ≡ v ∷ [])) →
        ((if b then value_of p ∷ [] else entry_of ps i) ≡ []) ⊎ ((v : Value) × ((if b then value_of p ∷ [] else entry_of ps i) ≡ v ∷ []))
    step true r = inr (value_of p, refl)
    step false r = r

-- each key of a list of entries has the same value in another one
abbrev pub IsWithin : List Value → List Value → Type 0
IsWithin ps qs = (i v : Value) → entry_of ps i ≡ v ∷ [] → entry_of qs i ≡ v ∷ []

module _ (k x : Numbering) (lk : Lawful k) (lx : Lawful x) where
  record Stands (from : ℕ) (i v : Value) : Type 0 where
    key : k.has i ≡ true
    value : x.has v ≡ true
    late : from ≤ k.place i

  -- what a key has in entries in order
  stands : (from : ℕ) (ps : List Value) (i v : Value) → are_entries k x from ps ≡ true → entry_of ps i ≡ v ∷ [] → Stands from i v
  stands from [] i v h e = absurd (nothing_there v e)
  stands from (p ∷ ps) i v h e = step (stands (k.place (key_of p) + 1) ps i v (front_of k x lk lx from p ps h).others) (found_entry p ps i v e)
    where
      front : Front k x lk lx from p ps
      front = front_of k x lk lx from p ps h

      step : (entry_of ps i ≡ v ∷ [] → Stands (k.place (key_of p) + 1) i v) → ((key_of p ≡ i) × (value_of p ≡ v)) ⊎ (entry_of ps i ≡ v ∷ []) → Stands from i v
      step rest (inl s) = record {
        key = subst (λ z. k.has z ≡ true) s.0 front.entry.key;
        value = subst (λ z. x.has z ≡ true) s.1 front.entry.value;
        late = subst (λ z. from ≤ k.place z) s.0 front.late;
      }
      step rest (inr r) =
          let s = rest r in
          let a = front.late in
          let b = s.late in
          record { key = s.key; value = s.value; late = omega (arith, a, b) }

  -- entries behind one have other keys
  behind : (from : ℕ) (p : Value) (ps : List Value) (i v : Value) → are_entries k x from (p ∷ ps) ≡ true → entry_of ps i ≡ v ∷ [] → k.place (key_of p) + 1 ≤ k.place i
  behind from p ps i v h e = (stands (k.place (key_of p) + 1) ps i v (front_of k x lk lx from p ps h).others e).late

  behind_other : (from : ℕ) (p : Value) (ps : List Value) (i v : Value) → are_entries k x from (p ∷ ps) ≡ true → entry_of ps i ≡ v ∷ [] → key_of p ≡ i → ⊥
  behind_other from p ps i v h e s =
      let l = behind from p ps i v h e in
      let q = ap k.place s in
      absurd (omega (arith, l, q))

  -- two lists of entries with one first key
  first_keys : (from to : ℕ) (p q : Value) (ps qs : List Value) → are_entries k x from (p ∷ ps) ≡ true → are_entries k x to (q ∷ qs) ≡ true → IsWithin (p ∷ ps) (q ∷ qs) → IsWithin (q ∷ qs) (p ∷ ps) →
      (key_of p ≡ key_of q) × (value_of p ≡ value_of q)
  first_keys from to p q ps qs h g a b =
      step (found_entry q qs (key_of p) (value_of p) (a (key_of p) (value_of p) (first_entry p ps))) (found_entry p ps (key_of q) (value_of q) (b (key_of q) (value_of q) (first_entry q qs)))
    where
      step : ((key_of q ≡ key_of p) × (value_of q ≡ value_of p)) ⊎ (entry_of qs (key_of p) ≡ value_of p ∷ []) → ((key_of p ≡ key_of q) × (value_of p ≡ value_of q)) ⊎ (entry_of ps (key_of q) ≡ value_of q ∷ []) →
          (key_of p ≡ key_of q) × (value_of p ≡ value_of q)
      step (inl s) r = (sym s.0, sym s.1)
      step (inr d) (inl s) = s
      step (inr d) (inr e) =
          let l = behind to q qs (key_of p) (value_of p) g d in
          let m = behind from p ps (key_of q) (value_of q) h e in
          absurd (omega (arith, l, m))

  rest_within : (from : ℕ) (p q : Value) (ps qs : List Value) → are_entries k x from (p ∷ ps) ≡ true → key_of p ≡ key_of q → IsWithin (p ∷ ps) (q ∷ qs) → IsWithin ps qs
  rest_within from p q ps qs h s a i v e =
      let n = behind_other from p ps i v h e in
      sym (other_entry q qs i (λ z. n (s ∙ z))) ∙ a i v (other_entry p ps i n ∙ e)

  -- entries in order with the same values at the same keys are the same
  same_entries : (from to : ℕ) (ps qs : List Value) → are_entries k x from ps ≡ true → are_entries k x to qs ≡ true → IsWithin ps qs → IsWithin qs ps → ps ≡ qs
  same_entries from to [] [] h g a b = refl
  same_entries from to [] (q ∷ qs) h g a b = absurd (nothing_there (value_of q) (b (key_of q) (value_of q) (first_entry q qs)))
  same_entries from to (p ∷ ps) [] h g a b = absurd (nothing_there (value_of p) (a (key_of p) (value_of p) (first_entry p ps)))
  same_entries from to (p ∷ ps) (q ∷ qs) h g a b =
      let s = first_keys from to p q ps qs h g a b in
      let f = front_of k x lk lx from p ps h in
      let d = front_of k x lk lx to q qs g in
      let one : p ≡ q = sym f.entry.whole ∙ (λ i. Many (s.0 i ∷ s.1 i ∷ [])) ∙ d.entry.whole in
      let rest = same_entries (k.place (key_of p) + 1) (k.place (key_of q) + 1) ps qs f.others d.others (rest_within from p q ps qs h s.0 a) (rest_within to q p qs ps g (sym s.0) b) in
      λ i. one i ∷ rest i

  entries_in : (v : Value) → (map_of k x).has v ≡ true → (Many (parts_of v) ≡ v) × (are_entries k x 0 (parts_of v) ≡ true)
  entries_in v h = let p = and_parts (is_many v) (are_entries k x 0 (parts_of v)) h in (Many-parts_of v p.0, p.1)

  pub same_maps : (v w : Value) → (map_of k x).has v ≡ true → (map_of k x).has w ≡ true → IsWithin (parts_of v) (parts_of w) → IsWithin (parts_of w) (parts_of v) → v ≡ w
  same_maps v w h g a b =
      let p = entries_in v h in
      let q = entries_in w g in
      sym p.0 ∙ ap Many (same_entries 0 0 (parts_of v) (parts_of w) p.1 q.1 a b) ∙ q.0

  -- a map's keys and values are of its types
  entry_has : (v : Value) (i w : Value) → (map_of k x).has v ≡ true → entry_of (parts_of v) i ≡ w ∷ [] → (k.has i ≡ true) × (x.has w ≡ true)
  entry_has v i w h e = let s = stands 0 (parts_of v) i w (entries_in v h).1 e in (s.key, s.value)

  -- A key with a new value.

  set_other : (from : ℕ) (ps : List Value) (i v j : Value) → are_entries k x from ps ≡ true → k.has i ≡ true → (i ≡ j → ⊥) → entry_of (entry_set k ps i v) j ≡ entry_of ps j
  set_other from [] i v j h g n = other_entry (Many (i ∷ v ∷ [])) [] j (λ e. n (sym (pair_key i v) ∙ e))
  set_other from (p ∷ ps) i v j h g n =
      step (set_other (k.place (key_of p) + 1) ps i v j (front_of k x lk lx from p ps h).others g n) (nat_lt (k.place (key_of p)) (k.place i)) refl (nat_lt (k.place i) (k.place (key_of p))) refl
    where
      front : Front k x lk lx from p ps
      front = front_of k x lk lx from p ps h

      new_other : (qs : List Value) → entry_of (Many (i ∷ v ∷ []) ∷ qs) j ≡ entry_of qs j
      new_other qs = other_entry (Many (i ∷ v ∷ [])) qs j (λ e. n (sym (pair_key i v) ∙ e))

      step : entry_of (entry_set k ps i v) j ≡ entry_of ps j → (a : Bool) → nat_lt (k.place (key_of p)) (k.place i) ≡ a → (b : Bool) → nat_lt (k.place i) (k.place (key_of p)) ≡ b →
          entry_of (if a then p ∷ entry_set k ps i v else if b then Many (i ∷ v ∷ []) ∷ p ∷ ps else Many (i ∷ v ∷ []) ∷ ps) j ≡ entry_of (p ∷ ps) j
      step rest true d b e = ap (λ z. if value_eq (key_of p) j then value_of p ∷ [] else z) rest
      step rest false d true e = new_other (p ∷ ps)
      step rest false d false e =
          new_other ps ∙ sym (other_entry p ps j (λ z. n (sym same ∙ z)))
        where
          equal_places : k.place (key_of p) ≡ k.place i
          equal_places =
              let a = ltb-false (k.place (key_of p)) (k.place i) d in
              let b = ltb-false (k.place i) (k.place (key_of p)) e in
              omega (arith, a, b)

          same : key_of p ≡ i
          same = sym (lk.at_place (key_of p) front.entry.key) ∙ ap k.at equal_places ∙ lk.at_place i g

  pub other_key : (v : Value) (i w j : Value) → (map_of k x).has v ≡ true → k.has i ≡ true → (i ≡ j → ⊥) → entry_of (parts_of (Many (entry_set k (parts_of v) i w))) j ≡ entry_of (parts_of v) j
  other_key v i w j h g n = ap (λ z. entry_of z j) (parts_many (entry_set k (parts_of v) i w)) ∙ set_other 0 (parts_of v) i w j (entries_in v h).1 g n

set_here : (k : Numbering) (ps : List Value) (i v : Value) → entry_of (entry_set k ps i v) i ≡ v ∷ []
set_here k [] i v = new_here [] i v
set_here k (p ∷ ps) i v = step (set_here k ps i v) (nat_lt (k.place (key_of p)) (k.place i)) refl (nat_lt (k.place i) (k.place (key_of p)))
  where
    earlier : nat_lt (k.place (key_of p)) (k.place i) ≡ true → key_of p ≡ i → ⊥
    earlier d e =
        let l = ltb-true (k.place (key_of p)) (k.place i) d in
        let q = ap k.place e in
        absurd (omega (arith, l, q))

    step : entry_of (entry_set k ps i v) i ≡ v ∷ [] → (a : Bool) → nat_lt (k.place (key_of p)) (k.place i) ≡ a → (b : Bool) →
        entry_of (if a then p ∷ entry_set k ps i v else if b then Many (i ∷ v ∷ []) ∷ p ∷ ps else Many (i ∷ v ∷ []) ∷ ps) i ≡ v ∷ []
    step rest true d b = other_entry p (entry_set k ps i v) i (earlier d) ∙ rest
    step rest false d true = new_here (p ∷ ps) i v
    step rest false d false = new_here ps i v

pub this_key : (k : Numbering) (v i w : Value) → entry_of (parts_of (Many (entry_set k (parts_of v) i w))) i ≡ w ∷ []
this_key k v i w = ap (λ z. entry_of z i) (parts_many (entry_set k (parts_of v) i w)) ∙ set_here k (parts_of v) i w

-- Maps key by key.

pub empty_by_key : (K X : Value → Value → Type 0) → KeyByKey K X (Many []) (Many [])
empty_by_key K X = (none K X, none (λ j i. K i j) (λ y x. X x y))
  where
    none : (K X : Value → Value → Type 0) → IsInto K X (Many []) (Many [])
    none K X i x e = absurd (nothing_there x (sym (ap (λ z. entry_of z i) (parts_many [])) ∙ e))

into_more : (K X L Y : Value → Value → Type 0) → ((i j : Value) → K i j → L i j) → ((x y : Value) → X x y → Y x y) → (v w : Value) → IsInto K X v w → IsInto L Y v w
into_more K X L Y f g v w h i x e = let r = h i x e in (r.0, r.1, r.2, f i r.0 r.3, g x r.1 r.4)

pub more_by_key : (K X L Y : Value → Value → Type 0) → ((i j : Value) → K i j → L i j) → ((x y : Value) → X x y → Y x y) → (v w : Value) → KeyByKey K X v w → KeyByKey L Y v w
more_by_key K X L Y f g v w h =
    (into_more K X L Y f g v w h.0, into_more (λ j i. K i j) (λ y x. X x y) (λ j i. L i j) (λ y x. Y x y) (λ j i. f i j) (λ y x. g x y) w v h.1)

pub flip_by_key : (K X L Y : Value → Value → Type 0) → ((i j : Value) → K i j → L j i) → ((x y : Value) → X x y → Y y x) → (v w : Value) → KeyByKey K X v w → KeyByKey L Y w v
flip_by_key K X L Y f g v w h =
    (into_more (λ j i. K i j) (λ y x. X x y) L Y (λ j i. f i j) (λ y x. g x y) w v h.1, into_more K X (λ i j. L j i) (λ x y. Y y x) f g v w h.0)

pub itself_by_key : (k x : Numbering) (lk : Lawful k) (lx : Lawful x) (K X : Value → Value → Type 0) → ((i : Value) → k.has i ≡ true → K i i) → ((y : Value) → x.has y ≡ true → X y y) → (v : Value) →
    (map_of k x).has v ≡ true → KeyByKey K X v v
itself_by_key k x lk lx K X f g v h = (into K X f g, into (λ j i. K i j) (λ y x. X x y) f g)
  where
    into : (L Y : Value → Value → Type 0) → ((i : Value) → k.has i ≡ true → L i i) → ((y : Value) → x.has y ≡ true → Y y y) → IsInto L Y v v
    into L Y m n i y e = let s = entry_has k x lk lx v i y h e in (i, y, e, m i s.0, n y s.1)

-- a map into which two others go the same way
pub into_within : (K X : Value → Value → Type 0) → ((i j k : Value) → K i j → K i k → j ≡ k) → ((i j k : Value) → X i j → X i k → j ≡ k) → (v w z : Value) →
    IsInto (λ j i. K i j) (λ y x. X x y) w v → IsInto K X v z → IsWithin (parts_of w) (parts_of z)
into_within K X f g v w z h l j y e =
    let a = h j y e in
    let b = l a.0 a.1 a.2 in
    subst (λ n. entry_of (parts_of z) n ≡ y ∷ []) (f a.0 b.0 j b.3 a.3) (b.2 ∙ ap (λ n. n ∷ []) (g a.1 b.1 y b.4 a.4))

-- keys that are equal where they are related
pub equal_within : (K X : Value → Value → Type 0) → ((i j : Value) → K i j → i ≡ j) → ((x y : Value) → X x y → x ≡ y) → (v w : Value) → IsInto K X v w → IsWithin (parts_of v) (parts_of w)
equal_within K X f g v w h i x e =
    let r = h i x e in
    subst (λ n. entry_of (parts_of w) n ≡ x ∷ []) (sym (f i r.0 r.3)) (r.2 ∙ ap (λ n. n ∷ []) (sym (g x r.1 r.4)))

-- a key with a new value in each of two maps
set_into : (k x l y : Numbering) (lk : Lawful k) (lx : Lawful x) (ll : Lawful l) (ly : Lawful y) (K X : Value → Value → Type 0) (v w i j a b : Value) → (map_of k x).has v ≡ true → (map_of l y).has w ≡ true →
    k.has i ≡ true → l.has j ≡ true → K i j → X a b → ((n : Value) → K n j → n ≡ i) → IsInto K X v w → IsInto K X (Many (entry_set k (parts_of v) i a)) (Many (entry_set l (parts_of w) j b))
set_into k x l y lk lx ll ly K X v w i j a b hv hw hi hj p q one h n z e = elim (value_discrete i n) [
  | yes s ↦ (j, b, this_key l w j b, subst (λ m. K m j) s p, subst (λ m. X m b) (same_alone a z (sym (this_key k v i a) ∙ ap (entry_of (parts_of (Many (entry_set k (parts_of v) i a)))) s ∙ e)) q)
  | no d ↦ kept d
]
  where
    kept : (i ≡ n → ⊥) → (m : Value) × (o : Value) × (entry_of (parts_of (Many (entry_set l (parts_of w) j b))) m ≡ o ∷ []) × K n m × X z o
    kept d =
        let r = h n z (sym (other_key k x lk lx v i a n hv hi d) ∙ e) in
        (r.0, r.1, other_key l y ll ly w j b r.0 hw hj (λ s. d (sym (one n (subst (λ m. K n m) (sym s) r.3)))) ∙ r.2, r.3, r.4)

pub set_by_key : (k x l y : Numbering) (lk : Lawful k) (lx : Lawful x) (ll : Lawful l) (ly : Lawful y) (K X : Value → Value → Type 0) → ((i j n : Value) → K i j → K i n → j ≡ n) → ((i j n : Value) → K i n → K j n → i ≡ j) →
    (v w i j a b : Value) → (map_of k x).has v ≡ true → (map_of l y).has w ≡ true → k.has i ≡ true → l.has j ≡ true → K i j → X a b → KeyByKey K X v w →
    KeyByKey K X (Many (entry_set k (parts_of v) i a)) (Many (entry_set l (parts_of w) j b))
set_by_key k x l y lk lx ll ly K X f g v w i j a b hv hw hi hj p q h = (
  set_into k x l y lk lx ll ly K X v w i j a b hv hw hi hj p q (λ n r. g n i j r p) h.0,
  set_into l y k x ll ly lk lx (λ j i. K i j) (λ y x. X x y) w v j i b a hw hv hj hi p q (λ n r. f i n j r p) h.1,
)

-- what two maps have for related keys: nothing, or related values
pub entries_alike : (K X : Value → Value → Type 0) → ((i j k : Value) → K i j → K i k → j ≡ k) → ((i j k : Value) → K i k → K j k → i ≡ j) → (v w i j : Value) → KeyByKey K X v w → K i j →
    ((entry_of (parts_of v) i ≡ []) × (entry_of (parts_of w) j ≡ [])) ⊎ ((x : Value) × (y : Value) × (entry_of (parts_of v) i ≡ x ∷ []) × (entry_of (parts_of w) j ≡ y ∷ []) × X x y)
entries_alike K X f g v w i j h p = step (one_entry (parts_of v) i) (one_entry (parts_of w) j)
  where
    step : (entry_of (parts_of v) i ≡ []) ⊎ ((x : Value) × (entry_of (parts_of v) i ≡ x ∷ [])) → (entry_of (parts_of w) j ≡ []) ⊎ ((y : Value) × (entry_of (parts_of w) j ≡ y ∷ [])) →
        ((entry_of (parts_of v) i ≡ []) × (entry_of (parts_of w) j ≡ [])) ⊎ ((x : Value) × (y : Value) × (entry_of (parts_of v) i ≡ x ∷ []) × (entry_of (parts_of w) j ≡ y ∷ []) × X x y)
    step (inr a) b =
        let r = h.0 i a.0 a.1 in
        inr (a.0, r.1, a.1, subst (λ n. entry_of (parts_of w) n ≡ r.1 ∷ []) (f i r.0 j r.3 p) r.2, r.4)
    step (inl a) (inl b) = inl (a, b)
    step (inl a) (inr b) =
        let r = h.1 j b.0 b.1 in
        absurd (nothing_there r.1 (sym a ∙ subst (λ n. entry_of (parts_of v) n ≡ r.1 ∷ []) (g r.0 i j r.3 p) r.2))
