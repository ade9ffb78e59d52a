-- The rows of a part stand at its places.
use Rattle.std.specs.Prelude.{if◌then◌else◌, ◌≡◌, ℕ, zero, suc, ◌+◌, ◌-◌, ◌<◌, ◌≤◌, List, [], ◌∷◌, Bool, true, false, ◌&&◌, Option, Some, None, nat_lt, nat_le, nat_eq, length, take, drop}
use Rattle.std.proofs.Common.{refl, ap, sym, ◌∙◌, subst, arith}
use Rattle.std.proofs.lemmas.Bool.{ltb-true, leb-true, eqb-true}
use Rattle.gb_script.specs.declared.table.Row.{Row}
use Rattle.gb_script.specs.Grammar.{has}
use Rattle.gb_script.specs.Check.{place_of, place_ok, rows_placed, places_ok, all_below, pick_row, IsPlaced}
use Rattle.gb_script.proofs.Tests.{both, below_at}

module _ {R : Type 0} (stage : ℕ) (places : List ℕ) (n : ℕ) where
  record HeadPlaced (i : ℕ) (r : Row R) (rows : List (Row R)) : Type 0 where
    from : place_of places r.part ≤ i
    until : i < place_of places (r.part + 1)
    rest : rows_placed places (i + 1) rows ≡ true

  head_placed : (i : ℕ) (r : Row R) (rows : List (Row R)) → rows_placed places i (r ∷ rows) ≡ true → HeadPlaced i r rows
  head_placed i r rows h =
      let a = both (nat_le (place_of places r.part) i) (nat_lt i (place_of places (r.part + 1)) && rows_placed places (i + 1) rows) h in
      let b = both (nat_lt i (place_of places (r.part + 1))) (rows_placed places (i + 1) rows) a.1 in
      record { from = leb-true (place_of places r.part) i a.0; until = ltb-true i (place_of places (r.part + 1)) b.0; rest = b.1 }

  skip : (s a b : Bool) (r : Row R) (o : Option (Row R)) → (a ≡ true → ⊥) → (if s && (a && b) then Some r else o) ≡ o
  skip false a b r o h = refl
  skip true true b r o h = absurd (h refl)
  skip true false b r o h = refl

  not_here : (r : Row R) (rows : List (Row R)) (t : ℕ) → (r.part ≡ n → ⊥) → pick_row stage (r ∷ rows) n t ≡ pick_row stage rows n t
  not_here r rows t h = skip (nat_le r.stage stage) (nat_eq r.part n) (has r.starts t) r (pick_row stage rows n t) (λ (e : nat_eq r.part n ≡ true). h (eqb-true r.part n e))

  none_after : (rows : List (Row R)) (i t : ℕ) → rows_placed places i rows ≡ true → place_of places (n + 1) ≤ i → pick_row stage rows n t ≡ None
  none_after [] i t h le = refl
  none_after (r ∷ rows) i t h le =
      let p = head_placed i r rows h in
      not_here r rows t (λ (e : r.part ≡ n). let lt : i < place_of places (n + 1) = subst (λ (m : ℕ). i < place_of places (m + 1)) e p.until in omega arith)
      ∙ none_after rows (i + 1) t p.rest (omega arith)

  all_within : (rows : List (Row R)) (i k t : ℕ) → rows_placed places i rows ≡ true → i + k ≡ place_of places (n + 1) → pick_row stage (take k rows) n t ≡ pick_row stage rows n t
  all_within [] i zero t h e = refl
  all_within [] i (suc k) t h e = refl
  all_within (r ∷ rows) i zero t h e = sym (none_after (r ∷ rows) i t h (omega arith))
  all_within (r ∷ rows) i (suc k) t h e =
      ap (λ (o : Option (Row R)). if nat_le r.stage stage && (nat_eq r.part n && has r.starts t) then Some r else o) (all_within rows (i + 1) k t (head_placed i r rows h).rest (omega arith))

  all_behind : (rows : List (Row R)) (i j k t : ℕ) → rows_placed places i rows ≡ true → i + j ≡ place_of places n → place_of places n + k ≡ place_of places (n + 1) → pick_row stage (take k (drop j rows)) n t ≡ pick_row stage rows n t
  all_behind rows i zero k t h e f = all_within rows i k t h (omega arith)
  all_behind [] i (suc j) zero t h e f = refl
  all_behind [] i (suc j) (suc k) t h e f = refl
  all_behind (r ∷ rows) i (suc j) k t h e f =
      let p = head_placed i r rows h in
      all_behind rows (i + 1) j k t p.rest (omega arith) f
      ∙ sym (not_here r rows t (λ (q : r.part ≡ n). let le : place_of places n ≤ i = subst (λ (m : ℕ). place_of places m ≤ i) q p.from in omega arith))

  -- what the test of places tells
  pub is_placed : (parts : ℕ) (g : List (Row R)) → places_ok places parts g ≡ true → n < parts → IsPlaced stage g places n
  is_placed parts g h lt =
      let a = both (nat_le (parts + 1) (length places)) (all_below parts (place_ok places (length g)) && rows_placed places 0 g) h in
      let b = both (all_below parts (place_ok places (length g))) (rows_placed places 0 g) a.1 in
      let d = both (nat_le (place_of places n) (place_of places (n + 1))) (nat_le (place_of places (n + 1)) (length g)) (below_at parts (place_ok places (length g)) n b.0 lt) in
      let many : parts + 1 ≤ length places = leb-true (parts + 1) (length places) a.0 in
      let le : place_of places n ≤ place_of places (n + 1) = leb-true (place_of places n) (place_of places (n + 1)) d.0 in
      record {
        known = omega arith;
        ordered = le;
        within = leb-true (place_of places (n + 1)) (length g) d.1;
        all = λ t. all_behind g 0 (place_of places n) (place_of places (n + 1) - place_of places n) t b.1 (omega arith) (omega arith);
      }
