-- Stated weights.
use Rattle.std.proofs.Common.{◌≡◌, ℕ, zero, suc, ◌<◌, ◌^◌, Bool, true, false, ◌&&◌, ◌==◌, nat_lt, Result, Ok, Err, IfOk, List, [], ◌∷◌, length, get_or, refl, sym, arith}
use Rattle.std.specs.List.{All}
use Rattle.std.proofs.lemmas.Bool.{false≢true, and_parts, ltb-true}
use Rattle.gb_core.specs.declared.value.Value.{Value}
use Rattle.gb_dist.specs.WeightedList.{WeightedList, total}
use Rattle.gb_terms.specs.declared.term.Pair.{Pair}
use Rattle.gb_dist.specs.Lists.{is_positive}
use Rattle.gb_meaning.specs.Distributions.{stated}
use Rattle.gb_eval.specs.Totals.{are_weights, is_weight}

first_above : (n : ℕ) (b : Bool) → (is_weight n && b) ≡ true → 0 < n
first_above n b h = ltb-true 0 n (and_parts (nat_lt 0 n) (nat_lt n (2 ^ 127)) (and_parts (is_weight n) b h).0).0

pub stated_above : (ps : List Pair) → (length ps == 0) ≡ false → are_weights (stated ps) ≡ true → 0 < total (stated ps)
stated_above [] n h = absurd (false≢true (sym n))
stated_above (p ∷ ps) n h = omega (arith, first_above p.weight (are_weights (stated ps)) h)

small_at : (ps : List Pair) → are_weights (stated ps) ≡ true → (k : ℕ) (d : Pair) → k < length ps → (get_or ps k d).weight < 2 ^ 127
small_at [] h k d l = absurd (omega arith)
small_at (p ∷ ps) h zero d l =
    ltb-true p.weight (2 ^ 127) (and_parts (nat_lt 0 p.weight) (nat_lt p.weight (2 ^ 127)) (and_parts (is_weight p.weight) (are_weights (stated ps)) h).0).1
small_at (p ∷ ps) h (suc k) d l = small_at ps (and_parts (is_weight p.weight) (are_weights (stated ps)) h).1 k d (omega arith)

pub stated_small : (ps : List Pair) → are_weights (stated ps) ≡ true → All (λ p. p.weight < 2 ^ 127) ps
stated_small ps h = small_at ps h

pub weights_positive : (l : WeightedList Value) → are_weights l ≡ true → is_positive l ≡ true
weights_positive [] h = refl
weights_positive (e ∷ l) h =
    let q = and_parts (is_weight e.1) (are_weights l) h in
    rw ((and_parts (nat_lt 0 e.1) (nat_lt e.1 (2 ^ 127)) q.0).0, weights_positive l q.1) refl

-- what follows for a result that is there
pub each_ok : {A E : Type 0} (r : Result A E) (P Q : A → Type 0) → IfOk r P → ((a : A) → P a → Q a) → IfOk r Q
each_ok (Ok a) P Q h f = f a h
each_ok (Err e) P Q h f = tt
