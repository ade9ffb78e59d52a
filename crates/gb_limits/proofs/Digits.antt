-- Numbers, digit by digit.
use Rattle.std.proofs.Common.{◌≡◌, ℕ, zero, suc, ◌+◌, ◌-◌, ◌*◌, ◌^◌, ◌≤◌, ◌<◌, ℤ, List, [], ◌∷◌, length, take, refl, sym, subst, ◌∙◌, arith, add-one, inl, inr}
use Rattle.std.specs.Prelude.{slice_index}
use Rattle.std.proofs.lemmas.Bool.{cases_order}
use Rattle.gb_limits.specs.Numbers.{number_behind, number_of, LeadsOut, IsOverflow}

one_more : (n : ℕ) (ds : List ℕ) (k : ℕ) → k < length ds → number_behind n (take (suc k) ds) ≡ number_behind n (take k ds) * 10 + (slice_index ds k - 48)
one_more n [] k h = absurd (omega arith)
one_more n (d ∷ ds) zero h = refl
one_more n (d ∷ ds) (suc k) h = one_more (n * 10 + (d - 48)) ds k (omega arith)

-- one more digit
pub number_of_more : (ds : List ℕ) (k : ℕ) → k < length ds → number_of (take (k + 1) ds) ≡ number_of (take k ds) * 10 + (slice_index ds k - 48)
number_of_more ds k h = rw add-one (one_more 0 ds k h)

-- Digits behind others don't make a number smaller.
grows : (n : ℕ) (ds : List ℕ) → n ≤ number_behind n ds
grows n [] = omega arith
grows n (d ∷ ds) = let more = grows (n * 10 + (d - 48)) ds in omega arith

pub front_is_less : (n : ℕ) (ds : List ℕ) (j k : ℕ) → j ≤ k → number_behind n (take j ds) ≤ number_behind n (take k ds)
front_is_less n ds zero k h = grows n (take k ds)
front_is_less n ds (suc j) zero h = absurd (omega arith)
front_is_less n [] (suc j) (suc k) h = omega arith
front_is_less n (d ∷ ds) (suc j) (suc k) h = front_is_less (n * 10 + (d - 48)) ds j k (omega arith)

pub whole_is_more : (n : ℕ) (ds : List ℕ) (j : ℕ) → number_behind n (take j ds) ≤ number_behind n ds
whole_is_more n ds zero = grows n ds
whole_is_more n [] (suc j) = omega arith
whole_is_more n (d ∷ ds) (suc j) = whole_is_more (n * 10 + (d - 48)) ds j

leads_out : (n d : ℕ) (left right : ℤ) → LeadsOut n d left right → 2 ^ 127 ≤ n * 10 + d
leads_out n d left right (inl x) = omega (arith, x.0)
leads_out n d left right (inr x) = x.1

-- behind the digit that leads out
out_behind : (ds : List ℕ) (left right : ℤ) (x : IsOverflow ds left right) → 2 ^ 127 ≤ number_of (take (x.read + 1) ds)
out_behind ds left right x =
    let step = number_of_more ds x.read x.within in
    let out = leads_out _ _ left right x.here in
    omega arith

-- Digits that lead out of range spell a number out of range.
pub out_of_range : (ds : List ℕ) (left right : ℤ) → IsOverflow ds left right → 2 ^ 127 ≤ number_of ds
out_of_range ds left right x =
    let out = out_behind ds left right x in
    let more = whole_is_more 0 ds (x.read + 1) in
    omega arith

not_before : (ds : List ℕ) (a b c d : ℤ) (x : IsOverflow ds a b) (y : IsOverflow ds c d) → x.read < y.read → ⊥
not_before ds a b c d x y h =
    let out = out_behind ds a b x in
    let within = y.before in
    let more = front_is_less 0 ds (x.read + 1) y.read (omega arith) in
    omega arith

same_operands : (n d : ℕ) (a b e f : ℤ) → LeadsOut n d a b → LeadsOut n d e f → (a ≡ e) × (b ≡ f)
same_operands n d a b e f (inl x) (inl y) = (x.1 ∙ sym y.1, x.2 ∙ sym y.2)
same_operands n d a b e f (inl x) (inr y) = absurd (omega (arith, x.0, y.0))
same_operands n d a b e f (inr x) (inl y) = absurd (omega (arith, x.0, y.0))
same_operands n d a b e f (inr x) (inr y) = (x.2 ∙ sym y.2, x.3 ∙ sym y.3)

pub one_overflow : (ds : List ℕ) (a b c d : ℤ) → IsOverflow ds a b → IsOverflow ds c d → (a ≡ c) × (b ≡ d)
one_overflow ds a b c d x y =
    let same : x.read ≡ y.read = elim (cases_order x.read y.read) [ inl e ↦ e | inr (inl h) ↦ absurd (not_before ds a b c d x y h) | inr (inr h) ↦ absurd (not_before ds c d a b y x h) ] in
    same_operands (number_of (take y.read ds)) (slice_index ds y.read - 48) a b c d
    (subst (λ (k : ℕ). LeadsOut (number_of (take k ds)) (slice_index ds k - 48) a b) same x.here) y.here
