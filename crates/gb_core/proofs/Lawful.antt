-- Places and values are inverse.
use Rattle.std.proofs.Common.{◌≡◌, ℕ, zero, suc, ◌+◌, ◌-◌, ◌*◌, ◌/◌, ◌%◌, ◌<◌, ◌≤◌, Bool, true, false, ◌&&◌, List, [], ◌∷◌, refl, sym, ap, ◌∙◌, mul_comm, arith}
use Rattle.std.proofs.lemmas.Bool.{false≢true, ltb-true, lt-ltb, and_parts, and_from}
use Rattle.std.proofs.lemmas.Nat.{div-add-mod', mul-add-lt, div-mul-add, mod-mul-add, div_below, mod_below}
use Rattle.gb_core.specs.declared.value.Value.{Value}
use Rattle.gb_core.specs.declared.value.Value.TheVariants.{Num, Many, rolls-Num, rolls-Many}
use Rattle.gb_core.specs.declared.value.Value.TheOpen as v
use Rattle.gb_core.specs.declared.value.Value.TheViews.{out-Value, roll-Value, roll-out-Value, out-roll-Value}
use Rattle.gb_core.specs.Numbering.{Numbering, number_in, is_below_in, parts_in, is_many_in, parts_of, numbers, uncounted, lists, tuples, tuple_at, tuple_place, is_tuple, tuple_of, option_at, option_place, is_option, option_of}
use Rattle.gb_core.proofs.Steps.{factors}

pub record Lawful (t : Numbering) : Type 0 where
  pub has_at : (i : ℕ) → i < t.size → t.has (t.at i) ≡ true
  pub place_at : (i : ℕ) → i < t.size → t.place (t.at i) ≡ i
  pub below : (x : Value) → t.has x ≡ true → t.place x < t.size
  pub at_place : (x : Value) → t.has x ≡ true → t.at (t.place x) ≡ x

-- the same for lists of values
pub record LawfulLists (n : ℕ) (at : ℕ → List Value) (place : List Value → ℕ) (has : List Value → Bool) : Type 0 where
  pub has_at : (i : ℕ) → i < n → has (at i) ≡ true
  pub place_at : (i : ℕ) → i < n → place (at i) ≡ i
  pub below : (xs : List Value) → has xs ≡ true → place xs < n
  pub at_place : (xs : List Value) → has xs ≡ true → at (place xs) ≡ xs

out-Num : (n : ℕ) → out-Value (Num n) ≡ v.Num n
out-Num n = ap out-Value (sym (rolls-Num n)) ∙ out-roll-Value (v.Num n)

pub out-Many : (xs : List Value) → out-Value (Many xs) ≡ v.Many xs
out-Many xs = ap out-Value (sym (rolls-Many xs)) ∙ out-roll-Value (v.Many xs)

number_back : (n : ℕ) (x : v.Value-F Value) → is_below_in n x ≡ true → Num (number_in x) ≡ roll-Value x
number_back n (v.Num k) h = sym (rolls-Num k)
number_back n (v.Many xs) h = absurd (false≢true h)

number_below : (n : ℕ) (x : v.Value-F Value) → is_below_in n x ≡ true → number_in x < n
number_below n (v.Num k) h = ltb-true k n h
number_below n (v.Many xs) h = absurd (false≢true h)

parts_back : (x : v.Value-F Value) → is_many_in x ≡ true → Many (parts_in x) ≡ roll-Value x
parts_back (v.Num n) h = absurd (false≢true h)
parts_back (v.Many xs) h = sym (rolls-Many xs)

-- a value of parts is its parts
pub Many-parts_of : (x : Value) → is_many_in (out-Value x) ≡ true → Many (parts_of x) ≡ x
Many-parts_of x h = parts_back (out-Value x) h ∙ roll-out-Value x

pub Lawful-numbers : (n : ℕ) → Lawful (numbers n)
Lawful-numbers n = record {
  has_at = λ i h. ap (is_below_in n) (out-Num i) ∙ lt-ltb i n h;
  place_at = λ i h. ap number_in (out-Num i);
  below = λ x h. number_below n (out-Value x) h;
  at_place = λ x h. number_back n (out-Value x) h ∙ roll-out-Value x;
}

pub Lawful-uncounted : Lawful uncounted
Lawful-uncounted = record {
  has_at = λ i h. absurd (omega arith);
  place_at = λ i h. absurd (omega arith);
  below = λ x h. absurd (false≢true h);
  at_place = λ x h. absurd (false≢true h);
}

pub Lawful-lists : (n : ℕ) (at : ℕ → List Value) (place : List Value → ℕ) (has : List Value → Bool) → LawfulLists n at place has → Lawful (lists n at place has)
Lawful-lists n at place has l = record {
  has_at = λ i h. ap (λ x. is_many_in x && has (parts_in x)) (out-Many (at i)) ∙ l.has_at i h;
  place_at = λ i h. ap (λ x. place (parts_in x)) (out-Many (at i)) ∙ l.place_at i h;
  below = λ x h. l.below (parts_of x) (and_parts (is_many_in (out-Value x)) (has (parts_of x)) h).1;
  at_place = λ x h.
      let p = and_parts (is_many_in (out-Value x)) (has (parts_of x)) h in
      ap Many (l.at_place (parts_of x) p.1) ∙ Many-parts_of x p.0;
}

abbrev pub AllLawful : List Numbering → Type 0
AllLawful [] = Unit {0}
AllLawful (t ∷ ts) = Lawful t × AllLawful ts

tuple_has_at : (ts : List Numbering) → AllLawful ts → (i : ℕ) → i < tuples ts → is_tuple ts (tuple_at ts i) ≡ true
tuple_has_at [] ls i h = refl
tuple_has_at (t ∷ ts) ls i h =
    let f = factors t.size (tuples ts) i h in
    and_from _ _ (ls.0.has_at (i / tuples ts) (div_below i (tuples ts) t.size f.1 h)) (tuple_has_at ts ls.1 (i % tuples ts) (mod_below i (tuples ts) f.1))

tuple_place_at : (ts : List Numbering) → AllLawful ts → (i : ℕ) → i < tuples ts → tuple_place ts (tuple_at ts i) ≡ i
tuple_place_at [] ls i h = omega arith
tuple_place_at (t ∷ ts) ls i h =
    let f = factors t.size (tuples ts) i h in
    let first = ls.0.place_at (i / tuples ts) (div_below i (tuples ts) t.size f.1 h) in
    let others = tuple_place_at ts ls.1 (i % tuples ts) (mod_below i (tuples ts) f.1) in
    (λ j. first j * tuples ts + others j) ∙ div-add-mod' i (tuples ts)

pub tuple_below : (ts : List Numbering) → AllLawful ts → (xs : List Value) → is_tuple ts xs ≡ true → tuple_place ts xs < tuples ts
tuple_below [] ls [] h = omega arith
tuple_below [] ls (x ∷ xs) h = absurd (false≢true h)
tuple_below (t ∷ ts) ls [] h = absurd (false≢true h)
tuple_below (t ∷ ts) ls (x ∷ xs) h =
    let p = and_parts (t.has x) (is_tuple ts xs) h in
    omega (arith, mul-add-lt (t.place x) (tuples ts) (tuple_place ts xs) t.size (ls.0.below x p.0) (tuple_below ts ls.1 xs p.1), mul_comm t.size (tuples ts))

tuple_at_place : (ts : List Numbering) → AllLawful ts → (xs : List Value) → is_tuple ts xs ≡ true → tuple_at ts (tuple_place ts xs) ≡ xs
tuple_at_place [] ls [] h = refl
tuple_at_place [] ls (x ∷ xs) h = absurd (false≢true h)
tuple_at_place (t ∷ ts) ls [] h = absurd (false≢true h)
tuple_at_place (t ∷ ts) ls (x ∷ xs) h =
    let p = and_parts (t.has x) (is_tuple ts xs) h in
    let b = tuple_below ts ls.1 xs p.1 in
    let q = div-mul-add (t.place x) (tuples ts) (tuple_place ts xs) b in
    let r = mod-mul-add (t.place x) (tuples ts) (tuple_place ts xs) b in
    (λ j. t.at (q j) ∷ tuple_at ts (r j)) ∙ (λ j. ls.0.at_place x p.0 j ∷ tuple_at_place ts ls.1 xs p.1 j)

pub Lawful-tuple : (ts : List Numbering) → AllLawful ts → Lawful (tuple_of ts)
Lawful-tuple ts ls = Lawful-lists (tuples ts) (tuple_at ts) (tuple_place ts) (is_tuple ts) (record {
  has_at = tuple_has_at ts ls;
  place_at = tuple_place_at ts ls;
  below = tuple_below ts ls;
  at_place = tuple_at_place ts ls;
})

module _ (t : Numbering) (l : Lawful t) where
  option_has_at : (i : ℕ) → i < t.size + 1 → is_option t (option_at t i) ≡ true
  option_has_at zero h = refl
  option_has_at (suc i) h = l.has_at i (omega arith)

  option_place_at : (i : ℕ) → i < t.size + 1 → option_place t (option_at t i) ≡ i
  option_place_at zero h = refl
  option_place_at (suc i) h = omega (arith, l.place_at i (omega arith))

  option_below : (xs : List Value) → is_option t xs ≡ true → option_place t xs < t.size + 1
  option_below [] h = omega arith
  option_below (x ∷ []) h = omega (arith, l.below x h)
  option_below (x ∷ y ∷ xs) h = absurd (false≢true h)

  option_at_place : (xs : List Value) → is_option t xs ≡ true → option_at t (option_place t xs) ≡ xs
  option_at_place [] h = refl
  option_at_place (x ∷ []) h =
      let e : 1 + t.place x ≡ suc (t.place x) = omega arith in
      ap (option_at t) e ∙ ap (λ y. y ∷ []) (l.at_place x h)
  option_at_place (x ∷ y ∷ xs) h = absurd (false≢true h)

  pub Lawful-option : Lawful (option_of t)
  Lawful-option = Lawful-lists (t.size + 1) (option_at t) (option_place t) (is_option t) (record {
    has_at = option_has_at;
    place_at = option_place_at;
    below = option_below;
    at_place = option_at_place;
  })
