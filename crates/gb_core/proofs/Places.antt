-- One step of the place of a tuple, of a map and of an entry.
use Rattle.std.proofs.Common.{◌≡◌, ℕ, zero, suc, ◌+◌, ◌-◌, ◌*◌, ◌^◌, ◌<◌, ◌≤◌, min, Bool, true, false, ◌&&◌, leb, List, [], ◌∷◌, length, get_or, map, drop, refl, sym, ap, ◌∙◌, ⊎_elim, arith}
use Rattle.std.proofs.Math.Nat.{mul-le-mul_left, mul-le-mul_right, pow-suc, pow-zero, pow-succ', pow-le-pow_right}
use Rattle.std.proofs.lemmas.Bool.{false≢true, and_parts, cases_lt}
use Rattle.std.proofs.lemmas.List.{at_drop_more, at_drop_all}
use Rattle.gb_core.specs.declared.ty.Ty.{Ty}
use Rattle.gb_core.specs.declared.value.Value.{Value}
use Rattle.gb_core.specs.declared.value.Value.TheVariants.{Num}
use Rattle.gb_core.specs.Numbering.{Numbering, parts_of, first_or, second_or, key_of, value_of, tuples, tuple_place, is_tuple, option_place, is_option, choices, entry_place, entries_place, is_entry, are_entries}
use Rattle.gb_core.specs.Types.{numbering, size_of}
use Rattle.gb_core.proofs.Capped.{large_power}
use Rattle.gb_core.proofs.Steps.{factors, tuples-drop}
use Rattle.gb_core.proofs.Lawful.{Lawful, tuple_below}
use Rattle.gb_core.proofs.Maps.{Entry, entry_of, Front, front_of, earlier, maps_below}
use Rattle.gb_core.proofs.Orders.{lawful, all_lawful}

-- the one value of an option
pub option_below : (t : Numbering) (l : Lawful t) (xs : List Value) (x : Value) → is_option t xs ≡ true → 0 < length xs → x ≡ get_or xs 0 x → t.place x < t.size
option_below t l [] x h n e = absurd (omega arith)
option_below t l (y ∷ []) x h n e = l.below x (ap t.has e ∙ h)
option_below t l (y ∷ z ∷ xs) x h n e = absurd (false≢true h)

pub record PartPlace (ts : List Ty) (xs : List Value) (i : ℕ) (ty : Ty) (x : Value) : Type 0 where
  pub has : (numbering ty).has x ≡ true
  pub exact : size_of ty < 2 ^ 63
  pub others : is_tuple (map numbering (drop (i + 1) ts)) (drop (i + 1) xs) ≡ true
  pub others_exact : tuples (map numbering (drop (i + 1) ts)) < 2 ^ 63
  pub next : (at total : ℕ) → at * tuples (map numbering (drop i ts)) + tuple_place (map numbering (drop i ts)) (drop i xs) ≡ total →
      (at * size_of ty + (numbering ty).place x) * tuples (map numbering (drop (i + 1) ts)) + tuple_place (map numbering (drop (i + 1) ts)) (drop (i + 1) xs) ≡ total
  pub fits : (at total : ℕ) → at * tuples (map numbering (drop i ts)) + tuple_place (map numbering (drop i ts)) (drop i xs) ≡ total → at * size_of ty + (numbering ty).place x ≤ total

has_more : (ts : List Ty) (xs : List Value) (i : ℕ) (ty : Ty) → i < length ts → is_tuple (map numbering (drop i ts)) (drop i xs) ≡ true → i < length xs
has_more ts xs i ty h r =
    ⊎_elim (λ l. l)
    (λ l. absurd (false≢true (
    sym (at_drop_more (λ (us : List Ty). is_tuple (map numbering us) (drop i xs)) ts i ty h ∙ at_drop_all (λ (ys : List Value). is_tuple (map numbering (get_or ts i ty ∷ drop (i + 1) ts)) ys) xs i l)
    ∙ r)))
    (cases_lt i (length xs))

pub part_place : (ts : List Ty) (xs : List Value) (i : ℕ) (ty : Ty) (x : Value) → i < length ts → ty ≡ get_or ts i ty → x ≡ get_or xs i x → is_tuple (map numbering (drop i ts)) (drop i xs) ≡ true → tuples (map numbering (drop i ts)) < 2 ^ 63 → PartPlace ts xs i ty x
part_place ts xs i ty x h e f r exact =
    let n = tuples (map numbering (drop (i + 1) ts)) in
    let others = drop (i + 1) xs in
    let more = has_more ts xs i ty h r in
    let opened : is_tuple (map numbering (drop i ts)) (drop i xs) ≡ ((numbering ty).has x && is_tuple (map numbering (drop (i + 1) ts)) others) =
    at_drop_more (λ (us : List Ty). is_tuple (map numbering us) (drop i xs)) ts i ty h
    ∙ at_drop_more (λ (ys : List Value). is_tuple (map numbering (get_or ts i ty ∷ drop (i + 1) ts)) ys) xs i x more
    ∙ (λ j. (numbering (sym e j)).has (sym f j) && is_tuple (map numbering (drop (i + 1) ts)) others) in
    let placed : tuple_place (map numbering (drop i ts)) (drop i xs) ≡ (numbering ty).place x * n + tuple_place (map numbering (drop (i + 1) ts)) others =
    at_drop_more (λ (us : List Ty). tuple_place (map numbering us) (drop i xs)) ts i ty h
    ∙ at_drop_more (λ (ys : List Value). tuple_place (map numbering (get_or ts i ty ∷ drop (i + 1) ts)) ys) xs i x more
    ∙ (λ j. (numbering (sym e j)).place (sym f j) * n + tuple_place (map numbering (drop (i + 1) ts)) others) in
    let p = and_parts ((numbering ty).has x) (is_tuple (map numbering (drop (i + 1) ts)) others) (sym opened ∙ r) in
    let below = (lawful ty).below x p.0 in
    let rest = tuple_below (map numbering (drop (i + 1) ts)) (all_lawful (drop (i + 1) ts)) others p.1 in
    let split = tuples-drop ts i ty h e in
    let wide : size_of ty * 1 ≤ size_of ty * n = mul-le-mul_left (size_of ty) (omega arith) in
    let long : 1 * n ≤ size_of ty * n = mul-le-mul_right n (omega arith) in
    let step : (at total : ℕ) → at * tuples (map numbering (drop i ts)) + tuple_place (map numbering (drop i ts)) (drop i xs) ≡ total → (at * size_of ty + (numbering ty).place x) * n + tuple_place (map numbering (drop (i + 1) ts)) others ≡ total =
    λ at total was. omega (arith, ap (λ z. at * z) split) in
    record {
      has = p.0;
      exact = omega arith;
      others = p.1;
      others_exact = omega arith;
      next = step;
      fits = λ at total was.
          let s = step at total was in
          let m : (at * size_of ty + (numbering ty).place x) * 1 ≤ (at * size_of ty + (numbering ty).place x) * n = mul-le-mul_left (at * size_of ty + (numbering ty).place x) (omega arith) in
          omega arith;
    }

first_of_two : (xs : List Value) (x : Value) → length xs ≡ 2 → x ≡ get_or xs 0 x → x ≡ first_or xs (Num 0)
first_of_two [] x h e = absurd (omega arith)
first_of_two (y ∷ ys) x h e = e

second_of_two : (xs : List Value) (x : Value) → length xs ≡ 2 → x ≡ get_or xs 1 x → x ≡ second_or xs (Num 0)
second_of_two [] x h e = absurd (omega arith)
second_of_two (y ∷ []) x h e = absurd (omega arith)
second_of_two (y ∷ z ∷ ys) x h e = e

module _ (k x : Numbering) (lk : Lawful k) (lx : Lawful x) where
  pub record EntryPlace (p : Value) : Type 0 where
    pub key : (a : Value) → a ≡ get_or (parts_of p) 0 a → a ≡ key_of p
    pub value : (b : Value) → b ≡ get_or (parts_of p) 1 b → b ≡ value_of p
    pub has_key : k.has (key_of p) ≡ true
    pub has_value : x.has (value_of p) ≡ true
    pub few : k.size < 63
    pub exact : choices x < 2 ^ 63
    pub key_below : k.place (key_of p) < k.size
    pub value_below : x.place (value_of p) < x.size
    pub power : choices x ^ (k.size - 1 - k.place (key_of p)) < 2 ^ 63
    pub all : (1 + x.place (value_of p)) * choices x ^ (k.size - 1 - k.place (key_of p)) < 2 ^ 63

  pub entry_place_of : (p : Value) → is_entry k x p ≡ true → choices x ^ k.size < 2 ^ 63 → EntryPlace p
  entry_place_of p h exact =
      let e = entry_of k x lk lx p h in
      let a = lk.below (key_of p) e.key in
      let b = lx.below (value_of p) e.value in
      let m = k.size - 1 - k.place (key_of p) in
      let positive : 0 < choices x = omega arith in
      let few : k.size < 63 = ⊎_elim (λ l. l) (λ l. absurd (omega (arith, large_power (choices x) k.size (omega arith) l))) (cases_lt k.size 63) in
      let once : choices x ^ 1 ≤ choices x ^ k.size = pow-le-pow_right positive (omega arith) in
      let single : choices x ^ 1 ≡ choices x = pow-suc (choices x) 0 ∙ ap (λ z. z * choices x) (pow-zero (choices x)) ∙ omega arith in
      let whole : choices x ^ suc m ≤ choices x ^ k.size = pow-le-pow_right positive (omega arith) in
      let chosen : (1 + x.place (value_of p)) * choices x ^ m ≤ choices x * choices x ^ m = mul-le-mul_right (choices x ^ m) (omega arith) in
      let one : 1 * choices x ^ m ≤ (1 + x.place (value_of p)) * choices x ^ m = mul-le-mul_right (choices x ^ m) (omega arith) in
      record {
        key = λ y f. first_of_two (parts_of p) y e.two f;
        value = λ y f. second_of_two (parts_of p) y e.two f;
        has_key = e.key;
        has_value = e.value;
        few = few;
        exact = omega arith;
        key_below = a;
        value_below = b;
        power = omega (arith, pow-succ' (choices x) m);
        all = omega (arith, pow-succ' (choices x) m);
      }

  -- the power of the choices of the later keys
  pub later_choices : (p : Value) (e : EntryPlace p) (keys key values c r : ℕ) → keys ≡ min k.size (2 ^ 63) → key ≡ k.place (key_of p) → values ≡ min x.size (2 ^ 63) → c ≡ min (values + 1) (2 ^ 63) → r ≡ min (c ^ (keys - 1 - key)) (2 ^ 63) → r ≡ choices x ^ (k.size - 1 - k.place (key_of p))
  later_choices p e keys key values c r f g h i j =
      let few = e.few in
      let exact = e.exact in
      let power = e.power in
      let base : c ≡ choices x = omega arith in
      let exponent : keys - 1 - key ≡ k.size - 1 - k.place (key_of p) = omega arith in
      let all : c ^ (keys - 1 - key) ≡ choices x ^ (k.size - 1 - k.place (key_of p)) = (λ z. base z ^ exponent z) in
      omega arith

  pub record MapPlace (ps : List Value) (i : ℕ) (p : Value) : Type 0 where
    pub entry : is_entry k x p ≡ true
    pub others : are_entries k x 0 (drop (i + 1) ps) ≡ true
    pub place : entries_place k x (drop i ps) ≡ entry_place k x p + entries_place k x (drop (i + 1) ps)

  pub map_place : (ps : List Value) (i : ℕ) (p : Value) → i < length ps → p ≡ get_or ps i p → are_entries k x 0 (drop i ps) ≡ true → MapPlace ps i p
  map_place ps i p h e r =
      let front : are_entries k x 0 (p ∷ drop (i + 1) ps) ≡ true =
      ap (λ (q : Value). are_entries k x 0 (q ∷ drop (i + 1) ps)) e
      ∙ sym (at_drop_more (λ (qs : List Value). are_entries k x 0 qs) ps i p h)
      ∙ r in
      let a = and_parts (is_entry k x p && leb 0 (k.place (key_of p))) (are_entries k x (k.place (key_of p) + 1) (drop (i + 1) ps)) front in
      let b = and_parts (is_entry k x p) (leb 0 (k.place (key_of p))) a.0 in
      record {
        entry = b.0;
        others = earlier k x lk lx 0 (k.place (key_of p) + 1) (drop (i + 1) ps) (omega arith) a.1;
        place = at_drop_more (λ (qs : List Value). entries_place k x qs) ps i p h ∙ ap (λ (q : Value). entry_place k x q + entries_place k x (drop (i + 1) ps)) (sym e);
      }
