-- Values in order: how many there are, the value at a place and the place of a value.
use Rattle.std.specs.Prelude.{ℕ, zero, suc, ◌+◌, ◌-◌, ◌*◌, ◌/◌, ◌%◌, ◌^◌, Bool, true, false, ◌&&◌, ◌==◌, nat_lt, nat_le, List, [], ◌∷◌, ◌++◌, length}
use Rattle.gb_core.specs.declared.value.Value.{Value}
use Rattle.gb_core.specs.declared.value.Value.TheVariants.{Num, Many}
use Rattle.gb_core.specs.declared.value.Value.TheOpen as v
use Rattle.gb_core.specs.declared.value.Value.TheViews.{out-Value}

-- the values of a type: their number, the value at each place below it, the place of a value, and which values there are
pub record Numbering : Type 0 where
  pub size : ℕ
  pub at : ℕ → Value
  pub place : Value → ℕ
  pub has : Value → Bool

-- the number that a value is, and 0 for a value of parts
abbrev pub number_in : v.Value-F Value → ℕ
number_in (v.Num n) = n
number_in (v.Many vs) = 0

abbrev pub is_below_in : ℕ → v.Value-F Value → Bool
is_below_in n (v.Num k) = nat_lt k n
is_below_in n (v.Many vs) = false

-- the parts of a value, none for a number
abbrev pub parts_in : v.Value-F Value → List Value
parts_in (v.Num n) = []
parts_in (v.Many vs) = vs

abbrev pub is_many_in : v.Value-F Value → Bool
is_many_in (v.Num n) = false
is_many_in (v.Many vs) = true

abbrev pub number_of : Value → ℕ
number_of x = number_in (out-Value x)

abbrev pub parts_of : Value → List Value
parts_of x = parts_in (out-Value x)

abbrev pub is_many : Value → Bool
is_many x = is_many_in (out-Value x)

-- the numbers below n
abbrev pub numbers : ℕ → Numbering
numbers n = record { size = n; at = λ i. Num i; place = number_of; has = λ x. is_below_in n (out-Value x) }

-- a type that isn't counted
abbrev pub uncounted : Numbering
uncounted = record { size = 0; at = λ i. Num i; place = number_of; has = λ x. false }

-- values of parts, from the lists of their parts in order
abbrev pub lists : ℕ → (ℕ → List Value) → (List Value → ℕ) → (List Value → Bool) → Numbering
lists n at place has = record {
  size = n;
  at = λ i. Many (at i);
  place = λ x. place (parts_of x);
  has = λ x. is_many x && has (parts_of x);
}

-- Tuples, the first part slowest.

abbrev pub tuples : List Numbering → ℕ
tuples [] = 1
tuples (t ∷ ts) = t.size * tuples ts

abbrev pub tuple_at : List Numbering → ℕ → List Value
tuple_at [] i = []
tuple_at (t ∷ ts) i = t.at (i / tuples ts) ∷ tuple_at ts (i % tuples ts)

abbrev pub tuple_place : List Numbering → List Value → ℕ
tuple_place (t ∷ ts) (x ∷ xs) = t.place x * tuples ts + tuple_place ts xs
tuple_place _ _ = 0

abbrev pub is_tuple : List Numbering → List Value → Bool
is_tuple [] [] = true
is_tuple (t ∷ ts) (x ∷ xs) = t.has x && is_tuple ts xs
is_tuple _ _ = false

abbrev pub tuple_of : List Numbering → Numbering
tuple_of ts = lists (tuples ts) (tuple_at ts) (tuple_place ts) (is_tuple ts)

-- Options: none first, then some in order.

abbrev pub option_at : Numbering → ℕ → List Value
option_at t zero = []
option_at t (suc i) = t.at i ∷ []

abbrev pub option_place : Numbering → List Value → ℕ
option_place t [] = 0
option_place t (x ∷ xs) = 1 + t.place x

abbrev pub is_option : Numbering → List Value → Bool
is_option t [] = true
is_option t (x ∷ []) = t.has x
is_option t _ = false

abbrev pub option_of : Numbering → Numbering
option_of t = lists (t.size + 1) (option_at t) (option_place t) (is_option t)

-- Maps, as the tuples over all keys in order of the option of their values.

-- how many choices a key has
abbrev pub choices : Numbering → ℕ
choices x = x.size + 1

abbrev pub entry_at : Numbering → Numbering → ℕ → ℕ → List Value
entry_at k x j zero = []
entry_at k x j (suc d) = Many (k.at j ∷ x.at d ∷ []) ∷ []

-- the entries of the last n keys
abbrev pub entries_at : Numbering → Numbering → ℕ → ℕ → List Value
entries_at k x zero i = []
entries_at k x (suc n) i =
    entry_at k x (k.size - suc n) (i / choices x ^ n) ++ entries_at k x n (i % choices x ^ n)

abbrev pub first_or : List Value → Value → Value
first_or [] d = d
first_or (x ∷ xs) d = x

abbrev pub key_of : Value → Value
key_of p = first_or (parts_of p) (Num 0)

abbrev pub second_or : List Value → Value → Value
second_or (x ∷ y ∷ ys) d = y
second_or _ d = d

abbrev pub value_of : Value → Value
value_of p = second_or (parts_of p) (Num 0)

-- what an entry adds to the place of its map
abbrev pub entry_place : Numbering → Numbering → Value → ℕ
entry_place k x p = (1 + x.place (value_of p)) * choices x ^ (k.size - 1 - k.place (key_of p))

abbrev pub entries_place : Numbering → Numbering → List Value → ℕ
entries_place k x [] = 0
entries_place k x (p ∷ ps) = entry_place k x p + entries_place k x ps

abbrev pub is_entry : Numbering → Numbering → Value → Bool
is_entry k x p = is_many p && (length (parts_of p) == 2) && k.has (key_of p) && x.has (value_of p)

-- entries whose keys are in order, from the one at a place on
abbrev pub are_entries : Numbering → Numbering → ℕ → List Value → Bool
are_entries k x from [] = true
are_entries k x from (p ∷ ps) =
    is_entry k x p && nat_le from (k.place (key_of p)) && are_entries k x (k.place (key_of p) + 1) ps

abbrev pub map_of : Numbering → Numbering → Numbering
map_of k x = lists (choices x ^ k.size) (entries_at k x k.size) (entries_place k x) (are_entries k x 0)
