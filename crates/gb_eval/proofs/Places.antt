-- Values of bound variables, and numbers that go from place to place.
use Rattle.std.proofs.Common.{◌≡◌, ◌↔◌, ◌^◌, ℤ, unsigned_abs, if◌then◌else◌, ℕ, zero, suc, ◌+◌, ◌-◌, ◌<◌, ◌≤◌, Bool, true, false, not, IsTrue, Some, None, List, [], ◌∷◌, ◌++◌, map, reverse, length, get_or, refl, sym, ap, ◌∙◌, arith}
use Rattle.std.proofs.lemmas.Bool.{false≢true}
use Rattle.std.proofs.lemmas.List.{length-reverse, get_or-reverse}
use Rattle.gb_core.specs.declared.value.Value.{Value}
use Rattle.gb_meaning.specs.Values.{value_eq}
use Rattle.gb_meaning.proofs.Values.{value_eq-true, value_discrete}
use Rattle.gb_eval.specs.declared.env.Bound.{Bound}
use Rattle.gb_eval.specs.declared.env.Bound.TheVariants as to
use Rattle.gb_eval.specs.Findings.{Comes, ◌>>=◌, over}
use Rattle.gb_eval.specs.Findings.Finding.{value, fraction}
use Rattle.gb_eval.specs.Findings.Comes.{found, unknown, overflow}
use Rattle.std.proofs.lemmas.List.{length-append, length-map}
use Rattle.gb_core.specs.declared.ty.Ty.{Ty}
use Rattle.gb_core.specs.declared.value.Card.TheVariants.{Exact}
use Rattle.gb_core.specs.Types.{card_of, value_at}
use Rattle.gb_terms.specs.declared.op.Op.{Op}
use Rattle.gb_terms.specs.declared.op.Op.TheVariants as op
use Rattle.gb_dist.specs.declared.row.Row.{Row}
use Rattle.gb_dist.specs.Rows.{entries}
use Rattle.gb_dist.specs.Places.{outcomes}
use Rattle.gb_eval.specs.declared.answer.Stop.{Stop}
use Rattle.gb_eval.specs.declared.answer.Stop.TheVariants as stop
use Rattle.gb_eval.specs.Findings.{of_truth, collected, fraction_in, value_in, Stops}
use Rattle.gb_eval.specs.Known.{is_tuple}
use Rattle.gb_eval.specs.Eval.{Part, in_memories, in_memory, memories_of, number_of_memories, at_three, image_of, images, bound_at, mapped, truth_under, next_truth, next_sum, over_values, quantified, summed, event, measured, narrowed, operated, restricted, table_under, tuple, weighed}
use Rattle.gb_labels.specs.Reads.{Vars}
use Rattle.gb_eval.proofs.Stops.{leads_on, passes, stops_as}
use Rattle.gb_eval.specs.declared.answer.Answer.{Answer}
use Rattle.gb_eval.specs.declared.answer.Answer.TheVariants as answer
use Rattle.gb_eval.specs.Findings.{shown}
use Rattle.gb_eval.specs.Operators.{part, same, weight_of, whole_fraction, zero_fraction}
use Rattle.std.proofs.lemmas.Bool.{le-leb, lt-ltb}
use Rattle.gb_dist.specs.Fractions.{Fraction, of_whole}
use Rattle.gb_dist.proofs.Sizes.{small, large}
use Rattle.gb_core.specs.Numbering.{parts_of, key_of, first_or}
use Rattle.gb_core.specs.declared.value.Value.TheVariants.{Num}
use Rattle.gb_dist.specs.WeightedList.{WeightedList, bit, bit_of_decision, indicator, weight_at}
use Rattle.gb_dist.proofs.Masses.{mass-same}
use mathlib.Core.Bool.{beq}

-- a test that decides equality of values is the test of equality
pub value_test : (b : Bool) (v w : Value) → IsTrue b ↔ (v ≡ w) → b ≡ value_eq v w
value_test true v w h = sym ((value_eq-true v w).1 (h.0 refl))
value_test false v w h = not_true (value_eq v w) (λ e. false≢true (h.1 ((value_eq-true v w).0 e)))
  where
    not_true : (c : Bool) → (c ≡ true → ⊥) → false ≡ c
    not_true true k = absurd (k refl)
    not_true false k = refl

found_bound : (bs : List Bound) (i : ℕ) (d : Bound) → i < length bs → bound_at bs i ≡ Some (get_or bs i d)
found_bound [] i d h = absurd (omega arith)
found_bound (b ∷ bs) zero d h = refl
found_bound (b ∷ bs) (suc i) d h = found_bound bs i d (omega arith)

not_found : (bs : List Bound) (i : ℕ) → (i < length bs → ⊥) → bound_at bs i ≡ None
not_found [] i h = refl
not_found (b ∷ bs) zero h = absurd (h (omega arith))
not_found (b ∷ bs) (suc i) h = not_found bs i (λ k. h (omega arith))

-- what bound variables stand for, the innermost last

pub bound_within : (bs : List Bound) (i : ℕ) (b : Bound) → i < length bs → b ≡ get_or bs (length bs - 1 - i) b → Some b ≡ bound_at (reverse bs) i
bound_within bs i b h e =
    let n : i < length (reverse bs) = omega (arith, h, length-reverse bs) in
    sym (found_bound (reverse bs) i b n ∙ ap Some (get_or-reverse bs i b h ∙ sym e))

pub bound_outside : (bs : List Bound) (i : ℕ) → (i < length bs → ⊥) → None ≡ bound_at (reverse bs) i
bound_outside bs i h = sym (not_found (reverse bs) i (λ k. h (omega (arith, k, length-reverse bs))))

-- whether two values that are found are the same
pub same_values : (b : Bool) (v w : Value) (x y : Answer) → IsTrue b ↔ (v ≡ w) → x ≡ answer.Value v → y ≡ answer.Value w → same (shown x) (shown y) ≡ found b
same_values b v w x y h e f = (λ i. same (shown (e i)) (shown (f i))) ∙ ap found (sym (value_test b v w h))

-- whole numbers as fractions

pub small_whole : (z : ℤ) → unsigned_abs z < 2 ^ 127 → whole_fraction z ≡ found (fraction (of_whole z))
small_whole z h = ap (λ b. if b then found (fraction (of_whole z)) else unknown) (small z h)

pub large_whole : (z : ℤ) → 2 ^ 127 ≤ unsigned_abs z → whole_fraction z ≡ unknown
large_whole z h = ap (λ b. if b then found (fraction (of_whole z)) else unknown) (large z h)

-- parts

pub part_within : (n : ℕ) (vs : List Value) (v : Value) → n < length vs → v ≡ get_or vs n v → part n vs ≡ found (value v)
part_within n [] v h e = absurd (omega arith)
part_within zero (w ∷ vs) v h e = ap (λ z. found (value z)) (sym e)
part_within (suc n) (w ∷ vs) v h e = part_within n vs v (omega arith) e

pub part_outside : (n : ℕ) (vs : List Value) → length vs ≤ n → part n vs ≡ unknown
part_outside n [] h = refl
part_outside zero (w ∷ vs) h = absurd (omega arith)
part_outside (suc n) (w ∷ vs) h = part_outside n vs (omega arith)

-- the key of an entry
pub first_key : (p : Value) (vs : List Value) (v k : Value) (b : Bool) → vs ≡ parts_of p → 1 ≤ length vs → v ≡ get_or vs 0 v → IsTrue b ↔ (v ≡ k) → b ≡ value_eq (key_of p) k
first_key p [] v k b e h q t = absurd (omega arith)
first_key p (w ∷ vs) v k b e h q t = value_test b v k t ∙ ap (λ z. value_eq z k) (q ∙ ap (λ l. first_or l (Num 0)) e)

-- the weight of a value, where equality of values is decided by its test
value_indicator : (v w : Value) (d : Dec (v ≡ w)) → bit_of_decision d ≡ bit (value_eq w v)
value_indicator v w (yes e) = ap bit (sym ((value_eq-true w v).1 (sym e)))
value_indicator v w (no n) = step (value_eq w v) refl
  where
    step : (b : Bool) → value_eq w v ≡ b → 0 ≡ bit b
    step true h = absurd (n (sym ((value_eq-true w v).0 h)))
    step false h = refl

pub weight_is : (l : WeightedList Value) (v : Value) (n : ℕ) → ((d : Discrete Value) → n ≡ weight_at d l v) → n ≡ weight_of v l
weight_is l v n h = h value_discrete ∙ mass-same l (indicator value_discrete v) (λ w. bit (value_eq w v)) (λ w. value_indicator v w (value_discrete v w))

-- a stop before a place stands

suc_is : (n : ℕ) → n + 1 ≡ suc n
suc_is n = omega arith

module _ {A : Type 0} (step : A → ℕ → Comes A) (a : A) where
  pub over_next : (n : ℕ) (b : A) → over step a n ≡ found b → over step a (n + 1) ≡ step b n
  over_next n b h = ap (over step a) (suc_is n) ∙ ap (λ x. x >>= λ c. step c n) h

  -- what no further step changes stands
  stays : (x : Comes A) → ((k : ℕ) → (x >>= λ b. step b k) ≡ x) → (n k : ℕ) → over step a n ≡ x → over step a (k + n) ≡ x
  stays x s n zero h = let e : 0 + n ≡ n = omega arith in ap (over step a) e ∙ h
  stays x s n (suc k) h =
      let e : suc k + n ≡ suc (k + n) = omega arith in
      ap (over step a) e ∙ ap (λ y. y >>= λ b. step b (k + n)) (stays x s n k h) ∙ s (k + n)

  pub over_decided : (x : Comes A) (n m : ℕ) (b : A) → ((k : ℕ) → (x >>= λ c. step c k) ≡ x) → over step a n ≡ found b → step b n ≡ x → n < m → over step a m ≡ x
  over_decided x n m b s h e l =
      let k : m ≡ (m - (n + 1)) + (n + 1) = omega (arith, l) in
      ap (over step a) k ∙ stays x s (n + 1) (m - (n + 1)) (over_next n b h ∙ e)

-- lists

pub two_of : {X : Type 0} (xs : List X) (a b : X) → 2 ≤ length xs → length xs < 3 → a ≡ get_or xs 0 a → b ≡ get_or xs 1 b → xs ≡ a ∷ b ∷ []
two_of [] a b h k e f = absurd (omega arith)
two_of (x ∷ []) a b h k e f = absurd (omega arith)
two_of (x ∷ y ∷ []) a b h k e f = λ i. sym e i ∷ sym f i ∷ []
two_of (x ∷ y ∷ z ∷ xs) a b h k e f = absurd (omega arith)

collected_length : {A : Type 0} (out : List A) (cs : List (Comes A)) (bs : List A) → collected out cs ≡ found bs → length bs ≡ length out + length cs
collected_length out [] bs e = let q : out ≡ bs = cc in omega (arith, ap (λ (l : List _). length l) q)
collected_length out (unknown ∷ cs) bs e = absurd (cc)
collected_length out (overflow o ∷ cs) bs e = absurd (cc)
collected_length out (found a ∷ cs) bs e = let q = collected_length (out ++ a ∷ []) cs bs e in omega (arith, q, length-append out (a ∷ []))

pub event_length : (x : Part) (rs : List Row) (bound : List Bound) (bs : List Bool) → event x (entries rs) bound ≡ found bs → length bs ≡ length rs
event_length x rs bound bs e =
    let q = collected_length [] (map (λ v. truth_under x (to.Value v ∷ bound)) (outcomes (entries rs))) bs e in
    omega (arith, q, length-map (outcomes (entries rs)) (λ v. truth_under x (to.Value v ∷ bound)), length-map (entries rs) (λ (e : Value × ℕ). e.0), length-map {B = Value × ℕ} rs (λ (r : Row). (r.value, r.weight)))

pub images_length : (x : Part) (rs : List Row) (bound : List Bound) (vs : List Value) → images x (entries rs) bound ≡ found vs → length vs ≡ length rs
images_length x rs bound vs e =
    let q = collected_length [] (map (λ v. x.comes (to.Value v ∷ bound) >>= value_in) (outcomes (entries rs))) vs e in
    omega (arith, q, length-map (outcomes (entries rs)) (λ v. x.comes (to.Value v ∷ bound) >>= value_in), length-map (entries rs) (λ (e : Value × ℕ). e.0), length-map {B = Value × ℕ} rs (λ (r : Row). (r.value, r.weight)))

-- operators at more than three arguments
pub operated_many : {X : Type 0} (o : Op) (t : Ty) (f : X → Part) (xs : List X) (bound : List Bound) (b : Bool) → b ≡ is_tuple o → b ≡ false → 4 ≤ length xs → operated o t (map f xs) bound ≡ unknown
operated_many o t f [] bound b e g h = absurd (omega arith)
operated_many o t f (a ∷ []) bound b e g h = absurd (omega arith)
operated_many o t f (a ∷ c ∷ []) bound b e g h = absurd (omega arith)
operated_many o t f (a ∷ c ∷ d ∷ []) bound b e g h = absurd (omega arith)
operated_many o t f (a ∷ c ∷ d ∷ i ∷ xs) bound b e g h = ap (λ z. if z then tuple (map f (a ∷ c ∷ d ∷ i ∷ xs)) bound else unknown) (sym e ∙ g)

-- and at three
pub operated_three : {X : Type 0} (o : Op) (t : Ty) (f : X → Part) (xs : List X) (bound : List Bound) (b : Bool) → b ≡ is_tuple o → b ≡ false → 3 ≤ length xs → length xs < 4 → operated o t (map f xs) bound ≡ at_three o t (map f xs) bound
operated_three o t f [] bound b e g h k = absurd (omega arith)
operated_three o t f (a ∷ []) bound b e g h k = absurd (omega arith)
operated_three o t f (a ∷ c ∷ []) bound b e g h k = absurd (omega arith)
operated_three o t f (a ∷ c ∷ d ∷ []) bound b e g h k = ap (λ z. if z then tuple (map f (a ∷ c ∷ d ∷ [])) bound else at_three o t (map f (a ∷ c ∷ d ∷ [])) bound) (sym e ∙ g)
operated_three o t f (a ∷ c ∷ d ∷ i ∷ xs) bound b e g h k = absurd (omega arith)

-- distributions and events

module _ {X : Type 0} (f : X → Part) (xs : List X) (a b : X) (bound : List Bound) (d : ℕ × WeightedList Value) (h : 2 ≤ length xs) (k : length xs < 3) (p : a ≡ get_or xs 0 a) (q : b ≡ get_or xs 1 b) (e : table_under (f a) bound ≡ found d) where
  pub measured_by : measured (map f xs) bound ≡ weighed (f b) d bound
  measured_by = ap (λ l. measured (map f l) bound) (two_of xs a b h k p q) ∙ leads_on (table_under (f a) bound) (λ r. weighed (f b) r bound) d e

  pub mapped_by : mapped (map f xs) bound ≡ image_of (f b) d bound
  mapped_by = ap (λ l. mapped (map f l) bound) (two_of xs a b h k p q) ∙ leads_on (table_under (f a) bound) (λ r. image_of (f b) r bound) d e

  pub restricted_by : restricted (map f xs) bound ≡ narrowed (f b) d bound
  restricted_by = ap (λ l. restricted (map f l) bound) (two_of xs a b h k p q) ∙ leads_on (table_under (f a) bound) (λ r. narrowed (f b) r bound) d e

-- three arguments
pub three_of : {X : Type 0} (xs : List X) (a b c : X) → 3 ≤ length xs → length xs < 4 → a ≡ get_or xs 0 a → b ≡ get_or xs 1 b → c ≡ get_or xs 2 c → xs ≡ a ∷ b ∷ c ∷ []
three_of [] a b c h k e f g = absurd (omega arith)
three_of (x ∷ []) a b c h k e f g = absurd (omega arith)
three_of (x ∷ y ∷ []) a b c h k e f g = absurd (omega arith)
three_of (x ∷ y ∷ z ∷ []) a b c h k e f g = λ i. sym e i ∷ sym f i ∷ sym g i ∷ []
three_of (x ∷ y ∷ z ∷ w ∷ xs) a b c h k e f g = absurd (omega arith)

pub three_other : (o : Op) (t : Ty) (xs : List Part) (bound : List Bound) → (o ≡ op.If → ⊥) → (o ≡ op.Set → ⊥) → at_three o t xs bound ≡ unknown
three_other op.If t xs bound h k = absurd (h refl)
three_other op.Set t xs bound h k = absurd (k refl)
three_other _ t xs bound h k = refl

-- quantifiers

pub next_decides : (d : Bool) (f : ℕ → Comes Bool) (n : ℕ) → next_truth d f (not d) n ≡ f n
next_decides true f n = refl
next_decides false f n = refl

decision_stands : (d : Bool) (f : ℕ → Comes Bool) (k : ℕ) → next_truth d f d k ≡ found d
decision_stands true f k = refl
decision_stands false f k = refl

-- a stop before the last place
pub over_stops : {A : Type 0} (step : A → ℕ → Comes A) (a : A) (n m : ℕ) (b : A) (c : Comes A) (e : Stop) → over step a n ≡ found b → step b n ≡ c → Stops c e → n < m → Stops (over step a m) e
over_stops step a n m b c stop.NoMemory h s w l = tt
over_stops step a n m b c stop.Unknown h s w l = over_decided step a unknown n m b (λ k. refl) h (s ∙ w) l
over_stops step a n m b c (stop.Overflow o) h s w l = over_decided step a (overflow o) n m b (λ k. refl) h (s ∙ w) l

-- two truths that are tested to be equal
pub beq_same : (a b : Bool) → beq a b ≡ true → a ≡ b
beq_same true true h = refl
beq_same true false h = absurd (false≢true h)
beq_same false true h = absurd (false≢true h)
beq_same false false h = refl

beq_other : (a b : Bool) → beq a b ≡ false → a ≡ not b
beq_other true true h = absurd (false≢true (sym h))
beq_other true false h = refl
beq_other false true h = refl
beq_other false false h = absurd (false≢true (sym h))

-- one place more that doesn't decide
pub truths_on : (d : Bool) (f : ℕ → Comes Bool) (n : ℕ) (b : Bool) → over (next_truth d f) (not d) n ≡ found (not d) → f n ≡ found b → beq b d ≡ false → over (next_truth d f) (not d) (n + 1) ≡ found (not d)
truths_on d f n b h e q = over_next (next_truth d f) (not d) n (not d) h ∙ next_decides d f n ∙ e ∙ ap found (beq_other b d q)

-- the places of a quantifier, where those before one don't decide
module _ (d : Bool) (ty : Ty) (n at : ℕ) (x : Part) (xs : List Part) (bound : List Bound) (e : xs ≡ x ∷ []) (c : card_of ty ≡ Exact n) where
  abbrev at_place : ℕ → Comes Bool
  at_place i = truth_under x (to.Value (value_at ty i) ∷ bound)

  quantified_is : quantified d ty xs bound ≡ (over (next_truth d at_place) (not d) n >>= λ a. found (of_truth a))
  quantified_is = ap (λ ys. quantified d ty ys bound) e ∙ ap (λ k. over_values d k ty (λ v. truth_under x (to.Value v ∷ bound)) >>= λ a. found (of_truth a)) c

  pub quantified_stops : (s : Stop) → over (next_truth d at_place) (not d) at ≡ found (not d) → Stops (at_place at) s → at < n → Stops (quantified d ty xs bound) s
  quantified_stops s h w l =
      stops_as _ _ s quantified_is (passes (over (next_truth d at_place) (not d) n) (λ a. found (of_truth a)) s
      (over_stops (next_truth d at_place) (not d) at n (not d) (at_place at) s h (next_decides d at_place at) w l))

  pub quantified_decided : over (next_truth d at_place) (not d) at ≡ found (not d) → at_place at ≡ found d → at < n → quantified d ty xs bound ≡ found (of_truth d)
  quantified_decided h w l =
      quantified_is ∙ ap (λ y. y >>= λ a. found (of_truth a)) (over_decided (next_truth d at_place) (not d) (found d) at n (not d) (decision_stands d at_place) h (next_decides d at_place at ∙ w) l)

-- the places of a quantifier over memories
module _ (d : Bool) (vs : Vars) (n at : ℕ) (x : Part) (bound : List Bound) (c : card_of (memories_of vs) ≡ Exact n) (some : 0 < n) where
  abbrev at_memory : ℕ → Comes Bool
  at_memory i = in_memory vs x bound (value_at (memories_of vs) i)

  in_memories_is : in_memories d vs x bound ≡ (over (next_truth d at_memory) (not d) n >>= λ a. found (of_truth a))
  in_memories_is =
      ap (λ k. number_of_memories k >>= λ m. over (next_truth d at_memory) (not d) m >>= λ a. found (of_truth a)) c
      ∙ ap (λ b. (if b then found n else unknown) >>= λ m. over (next_truth d at_memory) (not d) m >>= λ a. found (of_truth a)) (lt-ltb 0 n some)

  pub in_memories_stops : (s : Stop) → over (next_truth d at_memory) (not d) at ≡ found (not d) → Stops (at_memory at) s → at < n → Stops (in_memories d vs x bound) s
  in_memories_stops s h w l =
      stops_as _ _ s in_memories_is (passes (over (next_truth d at_memory) (not d) n) (λ a. found (of_truth a)) s
      (over_stops (next_truth d at_memory) (not d) at n (not d) (at_memory at) s h (next_decides d at_memory at) w l))

  pub in_memories_decided : over (next_truth d at_memory) (not d) at ≡ found (not d) → at_memory at ≡ found d → at < n → in_memories d vs x bound ≡ found (of_truth d)
  in_memories_decided h w l =
      in_memories_is ∙ ap (λ y. y >>= λ a. found (of_truth a)) (over_decided (next_truth d at_memory) (not d) (found d) at n (not d) (decision_stands d at_memory) h (next_decides d at_memory at ∙ w) l)

-- the numbers of a sum
module _ (q at : ℕ) (x : Part) (xs : List Part) (bound : List Bound) (e : xs ≡ x ∷ []) (few : q ≤ 2 ^ 32) where
  abbrev at_number : ℕ → Comes Fraction
  at_number i = x.comes (to.Value (Num i) ∷ bound) >>= fraction_in

  summed_is : summed q xs bound ≡ (over (next_sum at_number) zero_fraction q >>= λ a. found (fraction a))
  summed_is =
      ap (λ ys. summed q ys bound) e
      ∙ ap (λ b. if b then (over (next_sum at_number) zero_fraction q >>= λ a. found (fraction a)) else unknown) (le-leb q (2 ^ 32) few)

  pub summed_stops : (s : Stop) (all : Fraction) → over (next_sum at_number) zero_fraction at ≡ found all → Stops (next_sum at_number all at) s → at < q → Stops (summed q xs bound) s
  summed_stops s all h w l =
      stops_as _ _ s summed_is (passes (over (next_sum at_number) zero_fraction q) (λ a. found (fraction a)) s
      (over_stops (next_sum at_number) zero_fraction at q all (next_sum at_number all at) s h refl w l))

  pub summed_whole : (all : Fraction) → over (next_sum at_number) zero_fraction at ≡ found all → at ≡ q → summed q xs bound ≡ found (fraction all)
  summed_whole all h l = summed_is ∙ ap (λ n. over (next_sum at_number) zero_fraction n >>= λ a. found (fraction a)) (sym l) ∙ ap (λ y. y >>= λ a. found (fraction a)) h
