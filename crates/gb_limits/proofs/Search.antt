-- None of the positions, or a first one.
use Rattle.std.specs.Prelude.{◌≡◌, ℕ, zero, suc, ◌+◌, ◌-◌, ◌*◌, ◌^◌, ◌<◌, ◌≤◌, ◌⊎◌, ℤ, pos, Bool, true, false, List, length, take, nat_lt, nat_le, slice_index}
use Rattle.std.proofs.Common.{refl, ap, subst, inl, inr, ⊎_elim, arith, below_more}
use Rattle.std.proofs.lemmas.Bool.Decides.{nat_tests}
use Rattle.std.proofs.lemmas.List.{take_all}
use Rattle.gb_script.specs.declared.table.Step.{Step}
use Rattle.gb_script.specs.declared.action.Rule.{Rule}
use Rattle.gb_script.specs.declared.text.Text.{Text}
use Rattle.gb_limits.specs.declared.limits.TheConstants.{LEVELS}
use Rattle.gb_limits.specs.LeftOut.{left_out_at, IsFirstLeftOut, NoneLeftOut}
use Rattle.gb_limits.specs.Limits.{depth_at, IsFirstTooDeep, NoneTooDeep, is_too_many, IsFirstLong, NoneLong}
use Rattle.gb_limits.specs.Numbers.{number_of, IsOverflow, digits_at, IsFirstOverflow, NoneOverflow}
use Rattle.gb_limits.proofs.Digits.{number_of_more}

-- The test fails at each position before this one.
abbrev FailsBefore : (ℕ → Bool) → ℕ → Type 0
FailsBefore f n = (j : ℕ) → j < n → f j ≡ false

record IsFirst (f : ℕ → Bool) (n i : ℕ) : Type 0 where
  within : i < n
  here : f i ≡ true
  first : FailsBefore f i

abbrev Searched : (ℕ → Bool) → ℕ → Type 0
Searched f n = FailsBefore f n ⊎ ((i : ℕ) × IsFirst f n i)

further : (f : ℕ → Bool) (n : ℕ) → FailsBefore f n → (b : Bool) → f n ≡ b → Searched f (suc n)
further f n none true e = inr (n, record { within = omega arith; here = e; first = none })
further f n none false e = inl (λ j h. below_more (λ k. f k ≡ false) n none e j (omega arith))

search_first : (f : ℕ → Bool) (n : ℕ) → Searched f n
search_first f zero = inl (λ j h. absurd (omega arith))
search_first f (suc n) =
    ⊎_elim (λ (none : FailsBefore f n). further f n none (f n) refl)
    (λ (x : (i : ℕ) × IsFirst f n i). inr (x.0, record { within = omega (arith, x.1.within); here = x.1.here; first = x.1.first }))
    (search_first f n)

-- tests of numbers

lt_true : (m n : ℕ) → nat_lt m n ≡ true → m < n
lt_true m n e = grind (arith, nat_tests)

lt_false : (m n : ℕ) → nat_lt m n ≡ false → n ≤ m
lt_false m n e = grind (arith, nat_tests)

le_true : (m n : ℕ) → nat_le m n ≡ true → m ≤ n
le_true m n e = grind (arith, nat_tests)

le_false : (m n : ℕ) → nat_le m n ≡ false → n < m
le_false m n e = grind (arith, nat_tests)

-- words, levels and operands

pub left_out : (t : Text) → NoneLeftOut t ⊎ ((i : ℕ) × IsFirstLeftOut t i)
left_out t =
    ⊎_elim (λ (none : FailsBefore (left_out_at t) (length t.lexemes)). inl none)
    (λ (x : (i : ℕ) × IsFirst (left_out_at t) (length t.lexemes) i). inr (x.0, record { within = x.1.within; here = x.1.here; first = x.1.first }))
    (search_first (left_out_at t) (length t.lexemes))

pub too_deep : (t : Text) (steps : List (Step Rule)) (fault : ℕ) → NoneTooDeep t steps fault ⊎ ((i : ℕ) × IsFirstTooDeep t steps fault i)
too_deep t steps fault =
    let deep : ℕ → Bool = λ i. nat_lt LEVELS (depth_at t steps fault i) in
    ⊎_elim (λ (none : FailsBefore deep (length t.lexemes)). inl (λ j h. lt_false LEVELS (depth_at t steps fault j) (none j h)))
    (λ (x : (i : ℕ) × IsFirst deep (length t.lexemes) i). inr (
      x.0,
      record {
        within = x.1.within;
        here = lt_true LEVELS (depth_at t steps fault x.0) x.1.here;
        first = λ j h. lt_false LEVELS (depth_at t steps fault j) (x.1.first j h);
      },
    ))
    (search_first deep (length t.lexemes))

pub long : (t : Text) (steps : List (Step Rule)) → NoneLong t steps ⊎ ((i : ℕ) × IsFirstLong t steps i)
long t steps =
    ⊎_elim (λ (none : FailsBefore (is_too_many t steps) (length t.lexemes)). inl none)
    (λ (x : (i : ℕ) × IsFirst (is_too_many t steps) (length t.lexemes) i). inr (x.0, record { within = x.1.within; here = x.1.here; first = x.1.first }))
    (search_first (is_too_many t steps) (length t.lexemes))

-- numbers

abbrev LeadsOutIn : List ℕ → Type 0
LeadsOutIn ds = (left : ℤ) × (right : ℤ) × IsOverflow ds left right

-- the operation that leads out at a digit: the product, or else the sum
leading : (ds : List ℕ) (k : ℕ) → k < length ds → number_of (take k ds) < 2 ^ 127 → 2 ^ 127 ≤ number_of (take k ds) * 10 + (slice_index ds k - 48)
    → (b : Bool) → nat_le (2 ^ 127) (number_of (take k ds) * 10) ≡ b → LeadsOutIn ds
leading ds k within before out true e = (
  pos (number_of (take k ds)),
  pos 10,
  record {
    read = k;
    within = within;
    before = before;
    here = inl (le_true (2 ^ 127) (number_of (take k ds) * 10) e, refl, refl);
  },
)
leading ds k within before out false e = (
  pos (number_of (take k ds) * 10),
  pos (slice_index ds k - 48),
  record {
    read = k;
    within = within;
    before = before;
    here = inr (le_false (2 ^ 127) (number_of (take k ds) * 10) e, out, refl, refl);
  },
)

-- the number of the digits up to one is out of range
abbrev is_out : List ℕ → ℕ → Bool
is_out ds k = nat_le (2 ^ 127) (number_of (take (k + 1) ds))

in_range_before : (ds : List ℕ) (k : ℕ) → FailsBefore (is_out ds) k → number_of (take k ds) < 2 ^ 127
in_range_before ds zero none = omega arith
in_range_before ds (suc k) none =
    let e : k + 1 ≡ suc k = omega arith in
    subst (λ (n : ℕ). number_of (take n ds) < 2 ^ 127) e (le_false (2 ^ 127) (number_of (take (k + 1) ds)) (none k (omega arith)))

led_out : (ds : List ℕ) (k : ℕ) → IsFirst (is_out ds) (length ds) k → LeadsOutIn ds
led_out ds k x =
    let out = le_true (2 ^ 127) (number_of (take (k + 1) ds)) x.here in
    leading ds k x.within (in_range_before ds k x.first) (subst (λ (n : ℕ). 2 ^ 127 ≤ n) (number_of_more ds k x.within) out) _ refl

out_of_range : (ds : List ℕ) → 2 ^ 127 ≤ number_of ds → LeadsOutIn ds
out_of_range ds out =
    ⊎_elim
    (λ (none : FailsBefore (is_out ds) (length ds)).
    let small = in_range_before ds (length ds) none in
    let same : number_of (take (length ds) ds) ≡ number_of ds = ap number_of (take_all (length ds) ds (omega arith)) in
    absurd (omega (arith, small, same, out)))
    (λ (x : (k : ℕ) × IsFirst (is_out ds) (length ds) k). led_out ds x.0 x.1)
    (search_first (is_out ds) (length ds))

pub overflow : (t : Text) → NoneOverflow t ⊎ ((i : ℕ) × (left : ℤ) × (right : ℤ) × IsFirstOverflow t i left right)
overflow t =
    let large : ℕ → Bool = λ i. nat_le (2 ^ 127) (number_of (digits_at t i)) in
    ⊎_elim (λ (none : FailsBefore large (length t.lexemes)). inl (λ j h. le_false (2 ^ 127) (number_of (digits_at t j)) (none j h)))
    (λ (x : (i : ℕ) × IsFirst large (length t.lexemes) i).
    let here = le_true (2 ^ 127) (number_of (digits_at t x.0)) x.1.here in
    let o = out_of_range (digits_at t x.0) here in
    inr (
      x.0,
      o.0,
      o.1,
      record {
        within = x.1.within;
        here = here;
        operands = o.2;
        first = λ j h. le_false (2 ^ 127) (number_of (digits_at t j)) (x.1.first j h);
      },
    ))
    (search_first large (length t.lexemes))
