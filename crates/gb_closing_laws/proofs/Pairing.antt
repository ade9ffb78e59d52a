-- Pairs of the values of two types, one more for each value.
use Rattle.std.proofs.Common.{◌≡◌, ◌⊎◌, inl, inr, ℕ, zero, suc, ◌+◌, ◌<◌, ◌≤◌, Bool, true, false, ◌||◌, eqb, List, [], ◌∷◌, map, length, refl, ap, sym, ◌∙◌, subst, arith}
use Rattle.std.specs.List.{list_any, AllByRecursion, IsDistinct}
use Rattle.std.proofs.lemmas.Bool.{false≢true}
use Rattle.std.proofs.lemmas.Bool.Decides.{Decides-eqb}
use Rattle.std.proofs.lemmas.Map.Steps.{length-le_from_distinct_below, le-length_from_below}
use Rattle.gb_core.specs.declared.value.Value.{Value}
use Rattle.gb_core.specs.Numbering.{Numbering}
use Rattle.gb_core.proofs.Lawful.{Lawful}
use Rattle.gb_meaning.proofs.Values.{value_discrete}
use Rattle.gb_closing_laws.specs.Pairs.{IsPair, AreNew, AreMatched}
use Rattle.gb_closing_laws.specs.Needs.{HasRoomFor}

length_map : {A B : Type 0} (f : A → B) (xs : List A) → length (map f xs) ≡ length xs
length_map f [] = refl
length_map f (x ∷ xs) = ap suc (length_map f xs)

-- a test passes below a number, or fails at some place
search_below : (n : ℕ) (f : ℕ → Bool) → ((i : ℕ) × (i < n) × (f i ≡ false)) ⊎ ((i : ℕ) → i < n → f i ≡ true)
search_below zero f = inr (λ i l. absurd (omega arith))
search_below (suc n) f = step (f n) refl (search_below n f)
  where
    step : (b : Bool) → f n ≡ b → ((i : ℕ) × (i < n) × (f i ≡ false)) ⊎ ((i : ℕ) → i < n → f i ≡ true) → ((i : ℕ) × (i < suc n) × (f i ≡ false)) ⊎ ((i : ℕ) → i < suc n → f i ≡ true)
    step b e (inl w) = let l = w.1 in inl (w.0, omega (arith, l), w.2)
    step false e (inr h) = inl (n, omega arith, e)
    step true e (inr h) = inr (λ i l. at_last i l (eqb i n) refl)
      where
        at_last : (i : ℕ) → i < suc n → (c : Bool) → eqb i n ≡ c → f i ≡ true
        at_last i l true q = ap f ((Decides-eqb i n).0 q) ∙ e
        at_last i l false q = h i (below i l q)
          where
            below : (i : ℕ) → i < suc n → eqb i n ≡ false → i < n
            below i l q = grind arith

-- the value is none of these
abbrev NotAmong : List Value → Value → Type 0
NotAmong [] v = Unit {0}
NotAmong (x ∷ xs) v = (x ≡ v → ⊥) × NotAmong xs v

abbrev AllApart : List Value → Type 0
AllApart [] = Unit {0}
AllApart (x ∷ xs) = NotAmong xs x × AllApart xs

module _ (t : Numbering) (l : Lawful t) where
  abbrev AllHas : List Value → Type 0
  AllHas [] = Unit {0}
  AllHas (x ∷ xs) = (t.has x ≡ true) × AllHas xs

  -- fewer values than the type has leave one of it free
  free_value : (xs : List Value) → length xs < t.size → (v : Value) × (t.has v ≡ true) × NotAmong xs v
  free_value xs h = step (search_below t.size (λ i. list_any (eqb i) (map t.place xs)))
    where
      apart : (i : ℕ) → i < t.size → (ys : List Value) → list_any (eqb i) (map t.place ys) ≡ false → NotAmong ys (t.at i)
      apart i k [] e = tt
      apart i k (y ∷ ys) e = (λ q. at_once (ap t.place q ∙ l.place_at i k) e, apart i k ys (later (eqb i (t.place y)) e))
        where
          at_once : t.place y ≡ i → list_any (eqb i) (map t.place (y ∷ ys)) ≡ false → ⊥
          at_once q e = false≢true (sym e ∙ ap (λ b. b || list_any (eqb i) (map t.place ys)) ((Decides-eqb i (t.place y)).1 (sym q)))

          later : (b : Bool) → (b || list_any (eqb i) (map t.place ys)) ≡ false → list_any (eqb i) (map t.place ys) ≡ false
          later true h = absurd (false≢true (sym h))
          later false h = h

      step : ((i : ℕ) × (i < t.size) × (list_any (eqb i) (map t.place xs) ≡ false)) ⊎ ((i : ℕ) → i < t.size → list_any (eqb i) (map t.place xs) ≡ true) → (v : Value) × (t.has v ≡ true) × NotAmong xs v
      step (inl w) = (t.at w.0, l.has_at w.0 w.1, apart w.0 w.1 xs w.2)
      step (inr each) =
          let k = le-length_from_below (map t.place xs) t.size each in
          let e = length_map t.place xs in
          absurd (omega (arith, h, k, e))

  -- different values of the type are at most as many as it has
  apart_short : (xs : List Value) → AllHas xs → AllApart xs → length xs ≤ t.size
  unfolding IsDistinct
  apart_short xs h k =
      let n = length-le_from_distinct_below (map t.place xs) t.size (distinct xs h k) (below xs h) in
      let e = length_map t.place xs in
      omega (arith, n, e)
    where
      others : (x : Value) (xs : List Value) → t.has x ≡ true → AllHas xs → NotAmong xs x → AllByRecursion (λ y. eqb (t.place x) y ≡ false) (map t.place xs)
      others x [] e h k = tt
      others x (y ∷ ys) e h k = (different (eqb (t.place x) (t.place y)) refl, others x ys e h.1 k.1)
        where
          different : (b : Bool) → eqb (t.place x) (t.place y) ≡ b → b ≡ false
          different false q = refl
          different true q = absurd (k.0 (sym (l.at_place y h.0) ∙ ap t.at (sym ((Decides-eqb (t.place x) (t.place y)).0 q)) ∙ l.at_place x e))

      distinct : (xs : List Value) → AllHas xs → AllApart xs → IsDistinct eqb (map t.place xs)
      distinct [] h k = tt
      distinct (x ∷ xs) h k = (others x xs h.0 h.1 k.0, distinct xs h.1 k.1)

      below : (xs : List Value) → AllHas xs → (q : ℕ) → list_any (eqb q) (map t.place xs) ≡ true → q < t.size
      below [] h q e = absurd (false≢true e)
      below (x ∷ xs) h q e = by_test (below xs h.1 q) (eqb q (t.place x)) refl e
        where
          by_test : (list_any (eqb q) (map t.place xs) ≡ true → q < t.size) → (b : Bool) → eqb q (t.place x) ≡ b → (b || list_any (eqb q) (map t.place xs)) ≡ true → q < t.size
          by_test u true p e = subst (λ z. z < t.size) (sym ((Decides-eqb q (t.place x)).0 p)) (l.below x h.0)
          by_test u false p e = u e

abbrev firsts : List (Value × Value) → List Value
firsts ps = map (λ p. p.0) ps

abbrev seconds : List (Value × Value) → List Value
seconds ps = map (λ p. p.1) ps

-- a value stands in a pair, or is none of the first ones
find_first : (ps : List (Value × Value)) (v : Value) → ((w : Value) × IsPair ps v w) ⊎ NotAmong (firsts ps) v
find_first [] v = inr tt
find_first (p ∷ ps) v = elim (value_discrete p.0 v) [
  | yes e ↦ inl (p.1, inl (e, refl))
  | no n ↦ later n (find_first ps v)
]
  where
    later : (p.0 ≡ v → ⊥) → ((w : Value) × IsPair ps v w) ⊎ NotAmong (firsts ps) v → ((w : Value) × IsPair (p ∷ ps) v w) ⊎ NotAmong (firsts (p ∷ ps)) v
    later n (inl w) = inl (w.0, inr w.1)
    later n (inr k) = inr (n, k)

both_new : (ps : List (Value × Value)) (v w : Value) → NotAmong (firsts ps) v → NotAmong (seconds ps) w → AreNew ps v w
both_new [] v w h k = tt
both_new (p ∷ ps) v w h k = ((h.0, k.0), both_new ps v w h.1 k.1)

first_new : (ps : List (Value × Value)) (v w : Value) → AreNew ps v w → NotAmong (firsts ps) v
first_new [] v w h = tt
first_new (p ∷ ps) v w h = (h.0.0, first_new ps v w h.1)

module _ (a b : Numbering) (la : Lawful a) (lb : Lawful b) where
  firsts_apart : (ps : List (Value × Value)) → AreMatched a b ps → AllApart (firsts ps)
  firsts_apart [] k = tt
  firsts_apart (p ∷ ps) k = (first_new ps p.0 p.1 k.1, firsts_apart ps k.2)

  firsts_have : (ps : List (Value × Value)) → AreMatched a b ps → AllHas a la (firsts ps)
  firsts_have [] k = tt
  firsts_have (p ∷ ps) k = (k.0.0, firsts_have ps k.2)

  -- pairs, and one of them with a given first value
  pub record More (ps : List (Value × Value)) (v : Value) : Type 0 where
    pub second : Value
    pub pairs : List (Value × Value)
    pub pair : IsPair pairs v second
    pub kept : (x y : Value) → IsPair ps x y → IsPair pairs x y
    pub matched : AreMatched a b pairs
    pub longer : length pairs ≤ suc (length ps)

  more : (ps : List (Value × Value)) → AreMatched a b ps → (v : Value) → a.has v ≡ true → length ps < b.size → NotAmong (firsts ps) v → More ps v
  more ps k v h l n =
      let e = length_map (λ (p : Value × Value). p.1) ps in
      let w = free_value b lb (seconds ps) (omega (arith, l, e)) in
      record {
        second = w.0;
        pairs = (v, w.0) ∷ ps;
        pair = inl (refl, refl);
        kept = λ x y q. inr q;
        matched = ((h, w.1), both_new ps v w.0 n w.2, k);
        longer = omega arith;
      }

  -- where there is room for a pair, a value of the first type has a partner
  pub one_more : (n : ℕ) (ps : List (Value × Value)) → AreMatched a b ps → (v : Value) → a.has v ≡ true → HasRoomFor (length ps + suc n) a.size b.size → More ps v
  one_more n ps k v h r = found (find_first ps v)
    where
      room : NotAmong (firsts ps) v → HasRoomFor (length ps + suc n) a.size b.size → length ps < b.size
      room f (inl e) =
          let s = apart_short a la (v ∷ firsts ps) (h, firsts_have ps k) (f, firsts_apart ps k) in
          let q = length_map (λ (p : Value × Value). p.0) ps in
          omega (arith, s, q, e)
      room f (inr p) = let q = p.1 in omega (arith, q)

      found : ((w : Value) × IsPair ps v w) ⊎ NotAmong (firsts ps) v → More ps v
      found (inl w) = record { second = w.0; pairs = ps; pair = w.1; kept = λ x y q. q; matched = k; longer = omega arith }
      found (inr f) = more ps k v h (room f r) f

  -- a pair is of values of the types
  pub pair_has : (ps : List (Value × Value)) → AreMatched a b ps → (v w : Value) → IsPair ps v w → (a.has v ≡ true) × (b.has w ≡ true)
  pair_has [] k v w q = absurd q
  pair_has (p ∷ ps) k v w (inl e) = (subst (λ z. a.has z ≡ true) e.0 k.0.0, subst (λ z. b.has z ≡ true) e.1 k.0.1)
  pair_has (p ∷ ps) k v w (inr q) = pair_has ps k.2 v w q

  new_first : (ps : List (Value × Value)) (v w x y : Value) → AreNew ps v w → IsPair ps x y → v ≡ x → ⊥
  new_first [] v w x y n q e = q
  new_first (p ∷ ps) v w x y n (inl d) e = n.0.0 (d.0 ∙ sym e)
  new_first (p ∷ ps) v w x y n (inr q) e = new_first ps v w x y n.1 q e

  -- a value has one partner
  pub one_second : (ps : List (Value × Value)) → AreMatched a b ps → (v w x : Value) → IsPair ps v w → IsPair ps v x → w ≡ x
  one_second [] k v w x q r = absurd q
  one_second (p ∷ ps) k v w x (inl d) (inl e) = sym d.1 ∙ e.1
  one_second (p ∷ ps) k v w x (inl d) (inr r) = absurd (new_first ps p.0 p.1 v x k.1 r d.0)
  one_second (p ∷ ps) k v w x (inr q) (inl e) = absurd (new_first ps p.0 p.1 v w k.1 q e.0)
  one_second (p ∷ ps) k v w x (inr q) (inr r) = one_second ps k.2 v w x q r

-- pairs the other way around

abbrev pub swapped : List (Value × Value) → List (Value × Value)
swapped ps = map (λ p. (p.1, p.0)) ps

pub swapped_pair : (ps : List (Value × Value)) (v w : Value) → IsPair ps v w → IsPair (swapped ps) w v
swapped_pair [] v w q = q
swapped_pair (p ∷ ps) v w (inl e) = inl (e.1, e.0)
swapped_pair (p ∷ ps) v w (inr q) = inr (swapped_pair ps v w q)

pub swapped_back : (ps : List (Value × Value)) (v w : Value) → IsPair (swapped ps) w v → IsPair ps v w
swapped_back [] v w q = q
swapped_back (p ∷ ps) v w (inl e) = inl (e.1, e.0)
swapped_back (p ∷ ps) v w (inr q) = inr (swapped_back ps v w q)

swapped_new : (ps : List (Value × Value)) (v w : Value) → AreNew ps v w → AreNew (swapped ps) w v
swapped_new [] v w n = tt
swapped_new (p ∷ ps) v w n = ((n.0.1, n.0.0), swapped_new ps v w n.1)

pub swapped_matched : (a b : Numbering) (ps : List (Value × Value)) → AreMatched a b ps → AreMatched b a (swapped ps)
swapped_matched a b [] k = tt
swapped_matched a b (p ∷ ps) k = ((k.0.1, k.0.0), swapped_new ps p.0 p.1 k.1, swapped_matched a b ps k.2)

pub swapped_length : (ps : List (Value × Value)) → length (swapped ps) ≡ length ps
swapped_length ps = length_map (λ (p : Value × Value). (p.1, p.0)) ps
