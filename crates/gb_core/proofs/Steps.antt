-- One part of a tuple, and one key of a map.
use Rattle.std.proofs.Common.{◌≡◌, ◌≢◌, ℕ, zero, suc, ◌+◌, ◌-◌, ◌*◌, ◌/◌, ◌%◌, ◌^◌, ◌<◌, ◌≤◌, min, List, [], ◌∷◌, ◌++◌, length, get_or, map, drop, refl, ap, ◌∙◌, sym, ⊎_elim, append_assoc, mul_comm, arith}
use Rattle.std.proofs.Math.Nat.{mul-le-mul, pow-succ', zero-div, zero-mod}
use Rattle.std.proofs.lemmas.Nat.{div-mul-add, div_below, mod_below}
use Rattle.std.proofs.lemmas.Bool.{cases_lt}
use Rattle.std.proofs.lemmas.List.{at_drop_more}
use Rattle.gb_core.specs.declared.ty.Ty.{Ty}
use Rattle.gb_core.specs.declared.value.Value.{Value}
use Rattle.gb_core.specs.Numbering.{Numbering, tuples, tuple_at, choices, entry_at, entries_at}
use Rattle.gb_core.specs.Types.{numbering, size_of, value_at}
use Rattle.gb_core.proofs.Capped.{one-pow, large_power, power_capped}

-- a place below a product: both factors are positive and no larger than it
pub factors : (s n r : ℕ) → r < s * n → (0 < s) × (0 < n) × (s ≤ s * n) × (n ≤ s * n)
factors zero n r h = absurd (omega arith)
factors (suc s) zero r h = absurd (omega arith)
factors (suc s) (suc n) r h =
    let x : suc s * 1 ≤ suc s * suc n = mul-le-mul (omega arith) (omega arith) in
    let y : 1 * suc n ≤ suc s * suc n = mul-le-mul (omega arith) (omega arith) in
    (omega arith, omega arith, omega arith, omega arith)

pub record Digit (s n r left size : ℕ) : Type 0 where
  pub whole : size ≡ s
  pub rest : left / size ≡ n
  pub positive : 0 < left / size
  pub digit : r / (left / size) < s
  pub less : r % (left / size) < left / size
  pub exact : left / size < 2 ^ 63

-- the digit of a place below a product of s by n
pub digit : (s n r left size : ℕ) → left ≡ s * n → r < left → left < 2 ^ 63 → size ≡ min s (2 ^ 63) → Digit s n r left size
digit s n r left size e below exact m =
    let f = factors s n r (omega arith) in
    let w : size ≡ s = omega arith in
    let q : left / size ≡ n = (λ i. e i / w i) ∙ ap (λ z. z / s) (omega (arith, mul_comm s n)) ∙ div-mul-add n s 0 f.0 in
    record {
      whole = w;
      rest = q;
      positive = omega arith;
      digit = rw q (div_below r n s f.1 (omega arith));
      less = rw q (mod_below r n f.1);
      exact = omega arith;
    }

pub tuples-drop : (ps : List Ty) (i : ℕ) (p : Ty) → i < length ps → p ≡ get_or ps i p → tuples (map numbering (drop i ps)) ≡ size_of p * tuples (map numbering (drop (i + 1) ps))
tuples-drop ps i p h e =
    at_drop_more (λ (xs : List Ty). tuples (map numbering xs)) ps i p h
    ∙ ap (λ (q : Ty). size_of q * tuples (map numbering (drop (i + 1) ps))) (sym e)

pub tuple_at-drop : (ps : List Ty) (i : ℕ) (p : Ty) (r n : ℕ) → i < length ps → p ≡ get_or ps i p → n ≡ tuples (map numbering (drop (i + 1) ps)) → tuple_at (map numbering (drop i ps)) r ≡ value_at p (r / n) ∷ tuple_at (map numbering (drop (i + 1) ps)) (r % n)
tuple_at-drop ps i p r n h e m =
    at_drop_more (λ (xs : List Ty). tuple_at (map numbering xs) r) ps i p h
    ∙ (λ j. value_at (sym e j) (r / sym m j) ∷ tuple_at (map numbering (drop (i + 1) ps)) (r % sym m j))

pub record PartStep (ps : List Ty) (i : ℕ) (p : Ty) (left r size : ℕ) : Type 0 where
  pub digit : Digit (size_of p) (tuples (map numbering (drop (i + 1) ps))) r left size
  pub exact : size_of p < 2 ^ 63
  pub parts : (done all : List Value) → done ++ tuple_at (map numbering (drop i ps)) r ≡ all →
      (done ++ value_at p (r / (left / size)) ∷ []) ++ tuple_at (map numbering (drop (i + 1) ps)) (r % (left / size)) ≡ all

pub part_step : (ps : List Ty) (i : ℕ) (p : Ty) (left r size : ℕ) → i < length ps → p ≡ get_or ps i p → left ≡ tuples (map numbering (drop i ps)) → r < left → left < 2 ^ 63 → size ≡ min (size_of p) (2 ^ 63) → PartStep ps i p left r size
part_step ps i p left r size h e l below exact m =
    let n = tuples (map numbering (drop (i + 1) ps)) in
    let d = digit (size_of p) n r left size (l ∙ tuples-drop ps i p h e) below exact m in
    let f = factors (size_of p) n r (omega (arith, tuples-drop ps i p h e)) in
    record {
      digit = d;
      exact = omega (arith, tuples-drop ps i p h e);
      parts = λ done all was. append_assoc done (value_at p (r / (left / size)) ∷ []) (tuple_at (map numbering (drop (i + 1) ps)) (r % (left / size))) ∙ ap (λ (xs : List Value). done ++ xs) (sym (tuple_at-drop ps i p r (left / size) h e d.rest)) ∙ was;
    }

-- the map at the first place is empty
pub entries_at-zero : (k x : Numbering) (n : ℕ) → entries_at k x n 0 ≡ []
entries_at-zero k x zero = refl
entries_at-zero k x (suc n) = (λ i. entry_at k x (k.size - suc n) (zero-div (choices x ^ n) i) ++ entries_at k x n (zero-mod (choices x ^ n) i)) ∙ entries_at-zero k x n

-- where a key has one choice there is one map
pub entries_at-none : (k x : Numbering) (n i c : ℕ) → c ≡ min (choices x) (2 ^ 63) → c ≡ 1 → i < choices x ^ n → entries_at k x n i ≡ []
entries_at-none k x n i c e h b =
    let one : choices x ≡ 1 = omega arith in
    let z : i ≡ 0 = omega (arith, ap (λ m. m ^ n) one, one-pow n) in
    ap (entries_at k x n) z ∙ entries_at-zero k x n

pub record MapStart (c k keys left : ℕ) : Type 0 where
  pub whole : keys ≡ k
  pub all : left ≡ c ^ k
  pub few : k < 63

pub map_start : (c k choice keys left : ℕ) → c ^ k < 2 ^ 63 → choice ≡ min c (2 ^ 63) → 1 ≤ c → choice ≢ 1 → keys ≡ min k (2 ^ 63) → left ≡ min (choice ^ keys) (2 ^ 63) → MapStart c k keys left
map_start c k choice keys left exact e one two f g =
    let few : k < 63 = ⊎_elim (λ h. h) (λ h. absurd (omega (arith, large_power c k (omega arith) h))) (cases_lt k 63) in
    let all : min (choice ^ keys) (2 ^ 63) ≡ min (c ^ k) (2 ^ 63) = (λ i. min (e i ^ f i) (2 ^ 63)) ∙ power_capped c k one in
    record { whole = omega arith; all = omega arith; few = few }

pub record KeyStep (k x : Numbering) (keys i left r choice : ℕ) : Type 0 where
  pub digit : Digit (choices x) (choices x ^ (keys - (i + 1))) r left choice
  pub exact : choices x < 2 ^ 63
  pub entries : (done all : List Value) → done ++ entries_at k x (keys - i) r ≡ all →
      (done ++ entry_at k x i (r / (left / choice))) ++ entries_at k x (keys - (i + 1)) (r % (left / choice)) ≡ all

pub key_step : (k x : Numbering) (keys i left r choice : ℕ) → keys ≡ k.size → i < keys → left ≡ choices x ^ (keys - i) → r < left → left < 2 ^ 63 → choice ≡ min (choices x) (2 ^ 63) → KeyStep k x keys i left r choice
key_step k x keys i left r choice e h l below exact m =
    let n = keys - (i + 1) in
    let s : keys - i ≡ suc n = omega arith in
    let here : k.size - suc n ≡ i = omega arith in
    let split : choices x ^ (keys - i) ≡ choices x * choices x ^ n = ap (λ z. choices x ^ z) s ∙ pow-succ' (choices x) n in
    let d = digit (choices x) (choices x ^ n) r left choice (l ∙ split) below exact m in
    let f = factors (choices x) (choices x ^ n) r (omega arith) in
    record {
      digit = d;
      exact = omega arith;
      entries = λ done all was.
          append_assoc done (entry_at k x i (r / (left / choice))) (entries_at k x n (r % (left / choice)))
          ∙ ap (λ (xs : List Value). done ++ xs) (sym (ap (λ z. entries_at k x z r) s ∙ (λ j. entry_at k x (here j) (r / sym d.rest j) ++ entries_at k x n (r % sym d.rest j))))
          ∙ was;
    }
