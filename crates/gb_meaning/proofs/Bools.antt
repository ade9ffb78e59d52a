-- Tests that try each number and each value.
use Rattle.std.proofs.Common.{◌≡◌, ℕ, zero, suc, ◌<◌, Bool, true, false, ◌||◌, refl, ap, sym, ◌∙◌, arith}
use Rattle.std.proofs.lemmas.Bool.{and_parts, and_from}
use native.Mathlib.Decide.{ℕ_discrete}
use Rattle.gb_core.specs.declared.value.Value.{Value}
use Rattle.gb_core.specs.Numbering.{Numbering}
use Rattle.gb_core.proofs.Lawful.{Lawful}
use Rattle.gb_meaning.specs.Terms.{each_below, some_below, each_value, some_value}

pub same_truth : (a b : Bool) → (a ≡ true → b ≡ true) → (b ≡ true → a ≡ true) → a ≡ b
same_truth true b h k = sym (h refl)
same_truth false true h k = k refl
same_truth false false h k = refl

pub or_left : (a b : Bool) → a ≡ true → (a || b) ≡ true
or_left true b e = refl
or_left false b e = cc

pub or_right : (a b : Bool) → b ≡ true → (a || b) ≡ true
or_right true b e = refl
or_right false b e = e

pub each_below_use : (n : ℕ) (f : ℕ → Bool) → each_below n f ≡ true → (i : ℕ) → i < n → f i ≡ true
each_below_use zero f h i l = absurd (omega arith)
each_below_use (suc n) f h i l = elim (ℕ_discrete i n) [
  | yes e ↦ ap f e ∙ (and_parts (each_below n f) (f n) h).1
  | no k ↦ each_below_use n f (and_parts (each_below n f) (f n) h).0 i (omega arith)
]

pub each_below_make : (n : ℕ) (f : ℕ → Bool) → ((i : ℕ) → f i ≡ true) → each_below n f ≡ true
each_below_make zero f h = refl
each_below_make (suc n) f h = and_from (each_below n f) (f n) (each_below_make n f h) (h n)

pub each_below_has : (n : ℕ) (f : ℕ → Bool) → ((i : ℕ) → i < n → f i ≡ true) → each_below n f ≡ true
each_below_has zero f h = refl
each_below_has (suc n) f h = and_from (each_below n f) (f n) (each_below_has n f (λ i k. h i (omega (arith, k)))) (h n (omega arith))

pub some_below_has : (n : ℕ) (f : ℕ → Bool) → some_below n f ≡ true → (i : ℕ) × (i < n) × (f i ≡ true)
some_below_has zero f h = absurd (cc)
some_below_has (suc n) f h = step (λ e. some_below_has n f e) (some_below n f) refl h
  where
    step : (some_below n f ≡ true → (i : ℕ) × (i < n) × (f i ≡ true)) → (b : Bool) → some_below n f ≡ b → (b || f n) ≡ true → (i : ℕ) × (i < suc n) × (f i ≡ true)
    step u true e k = let w = u e in let l = w.1 in (w.0, omega (arith, l), w.2)
    step u false e k = (n, omega arith, k)

pub some_below_make : (n : ℕ) (f : ℕ → Bool) (i : ℕ) → i < n → f i ≡ true → some_below n f ≡ true
some_below_make zero f i l h = absurd (omega arith)
some_below_make (suc n) f i l h = elim (ℕ_discrete i n) [
  | yes e ↦ or_right (some_below n f) (f n) (sym (ap f e) ∙ h)
  | no k ↦ or_left (some_below n f) (f n) (some_below_make n f i (omega arith) h)
]

pub some_below_use : (n : ℕ) (f : ℕ → Bool) → some_below n f ≡ true → (i : ℕ) × (f i ≡ true)
some_below_use zero f h = absurd (cc)
some_below_use (suc n) f h = step (λ e. some_below_use n f e) (some_below n f) refl h
  where
    step : (some_below n f ≡ true → (i : ℕ) × (f i ≡ true)) → (b : Bool) → some_below n f ≡ b → (b || f n) ≡ true → (i : ℕ) × (f i ≡ true)
    step u true e k = u e
    step u false e k = (n, k)

module _ (t : Numbering) (l : Lawful t) (f : Value → Bool) where
  pub each_value_use : each_value t f ≡ true → (v : Value) → t.has v ≡ true → f v ≡ true
  each_value_use h v k = ap f (sym (l.at_place v k)) ∙ each_below_use t.size (λ i. f (t.at i)) h (t.place v) (l.below v k)

  pub each_value_make : ((v : Value) → f v ≡ true) → each_value t f ≡ true
  each_value_make h = each_below_make t.size (λ i. f (t.at i)) (λ i. h (t.at i))

  pub each_value_has : ((v : Value) → t.has v ≡ true → f v ≡ true) → each_value t f ≡ true
  each_value_has h = each_below_has t.size (λ i. f (t.at i)) (λ i k. h (t.at i) (l.has_at i k))

  pub some_value_has : some_value t f ≡ true → (v : Value) × (t.has v ≡ true) × (f v ≡ true)
  some_value_has h = let w = some_below_has t.size (λ i. f (t.at i)) h in (t.at w.0, l.has_at w.0 w.1, w.2)

  pub some_value_make : (v : Value) → t.has v ≡ true → f v ≡ true → some_value t f ≡ true
  some_value_make v k h = some_below_make t.size (λ i. f (t.at i)) (t.place v) (l.below v k) (ap f (l.at_place v k) ∙ h)

  pub some_value_use : some_value t f ≡ true → (v : Value) × (f v ≡ true)
  some_value_use h = let w = some_below_use t.size (λ i. f (t.at i)) h in (t.at w.0, w.1)
