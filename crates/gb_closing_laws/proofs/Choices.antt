-- Each list of numbers of labels up to greatest ones is a choice.
use Rattle.std.proofs.Common.{◌≡◌, ℕ, suc, pred, ◌+◌, ◌*◌, ◌/◌, ◌%◌, ◌<◌, ◌≤◌, min, ◌⊎◌, inl, inr, Bool, true, false, if◌then◌else◌, bytes_eq, Option, Some, None, List, [], ◌∷◌, refl, ap, sym, ◌∙◌, subst, arith}
use Rattle.std.proofs.lemmas.Nat.{div-mul-add, mod-mul-add}
use Rattle.std.proofs.Math.Nat.{suc-mul, mul-le-mul_right}
use Rattle.std.proofs.lemmas.Bool.Decides.{leb_tells}
use Rattle.std.proofs.Math.Dec.{leb}
use Rattle.std.proofs.lemmas.Slice.Eq.{bytes_eq-Decides}
use Rattle.gb_core.specs.declared.ty.Ty.TheVariants as ty
use Rattle.gb_meaning.specs.Names.{Name}
use Rattle.gb_meaning.specs.Values.{Types, values}
use Rattle.gb_laws.specs.Finite.{IsInhabited}
use Rattle.gb_laws.proofs.Sizes.{finite_sized}
use Rattle.gb_labels.specs.Labels.{Labels, count_of, choices, choice_at}
use Rattle.gb_labels.specs.Things.{with_one, counted}
use Rattle.gb_closing_laws.specs.Chosen.{AreUpTo, AreAbove, chosen}
use Rattle.gb_closing_laws.specs.Settings.{at_most, label_count}

suc_pred : (n : ℕ) → 0 < n → suc (pred n) ≡ n
suc_pred n h = omega (arith, h)

product_below : (a b n r : ℕ) → 0 < a → a ≤ b → r < n → pred a * n + r < b * n
product_below a b n r h l k =
    let e : pred a * n + n ≡ a * n = step a h in
    let w : a * n ≤ b * n = mul-le-mul_right n l in
    omega (arith, e, w, k)
  where
    step : (a : ℕ) → 0 < a → pred a * n + n ≡ a * n
    step a h = sym (suc-mul (pred a) n) ∙ ap (λ z. z * n) (suc_pred a h)

pub choice_is : (most ls : Labels) → AreUpTo most ls → (i : ℕ) × (i < choices most) × (choice_at most i ≡ ls)
choice_is [] [] w = (0, omega arith, refl)
choice_is [] (l ∷ ls) w = absurd w
choice_is (m ∷ most) [] w = absurd w
choice_is (m ∷ most) (l ∷ ls) w =
    let r = choice_is most ls w.1 in
    let n = choices most in
    let count : suc ((pred l.count * n + r.0) / n) ≡ l.count = ap suc (div-mul-add (pred l.count) n r.0 r.1) ∙ suc_pred l.count w.0.1 in
    let rest : choice_at most ((pred l.count * n + r.0) % n) ≡ ls = ap (choice_at most) (mod-mul-add (pred l.count) n r.0 r.1) ∙ r.2 in
    (pred l.count * n + r.0, product_below l.count m.count n r.0 w.0.1 w.0.2 r.1, λ i. record { name = sym w.0.0 i; count = count i } ∷ rest i)

-- Numbers that are counted are above 0.
with_one_above : (ls : Labels) (a : Name) → AreAbove ls → AreAbove (with_one ls a)
with_one_above [] a w = (omega arith, tt)
with_one_above (l ∷ ls) a w = step (bytes_eq l.name a) (with_one_above ls a w.1)
  where
    step : (b : Bool) → AreAbove (with_one ls a) → AreAbove (if b then record l { count = suc l.count } ∷ ls else l ∷ with_one ls a)
    step true k = (omega arith, w.1)
    step false k = (w.0, k)

pub counted_above : (ls : Labels) (ms : List Name) → AreAbove ls → AreAbove (counted ls ms)
counted_above ls [] w = w
counted_above ls (m ∷ ms) w = counted_above (with_one ls m) ms (with_one_above ls m w)

-- numbers above 0 are found
found_above : (ls : Labels) → AreAbove ls → (a : Name) (n : ℕ) → count_of ls a ≡ Some n → 0 < n
found_above [] w a n e = cc
found_above (l ∷ ls) w a n e = step (bytes_eq l.name a) e (found_above ls w.1 a n)
  where
    step : (b : Bool) → (if b then Some l.count else count_of ls a) ≡ Some n → (count_of ls a ≡ Some n → 0 < n) → 0 < n
    step true e f = let k : l.count ≡ n = cc in subst (λ n. 0 < n) k w.0
    step false e f = f e

-- as many labels as are asked for, at least one, and no more values than there are
module _ (t : Types) (inhabited : IsInhabited t) where
  pub count_above : (most : Labels) → AreAbove most → (a : Name) → 0 < label_count t most a
  count_above most w a = step (count_of most a) refl
    where
      size : 0 < (values t (ty.Glob a)).size
      size = finite_sized t inhabited (ty.Glob a) refl

      step : (o : Option ℕ) → count_of most a ≡ o → 0 < at_most o (values t (ty.Glob a)).size
      step None e = size
      step (Some k) e = let x : 0 < k = found_above most w a k e in let y : 0 < (values t (ty.Glob a)).size = size in omega (arith, x, y)

  pub chosen_up_to : (most : Labels) → AreAbove most → AreUpTo most (chosen t most)
  chosen_up_to [] w = tt
  chosen_up_to (m ∷ most) w =
      let k : 0 < (values t (ty.Glob m.name)).size = finite_sized t inhabited (ty.Glob m.name) refl in
      let h : 0 < m.count = w.0 in
      ((refl, omega (arith, h, k), omega arith), chosen_up_to most w.1)

  -- the number that is chosen for a module
  pub count_chosen : (most : Labels) (a : Name) (n : ℕ) → count_of (chosen t most) a ≡ Some n → n ≡ label_count t most a
  count_chosen [] a n e = cc
  count_chosen (m ∷ most) a n e = step (bytes_eq m.name a) refl e (count_chosen most a n)
    where
      size : Name → ℕ
      size b = (values t (ty.Glob b)).size

      step : (b : Bool) → bytes_eq m.name a ≡ b → (if b then Some (min m.count (size m.name)) else count_of (chosen t most) a) ≡ Some n → (count_of (chosen t most) a ≡ Some n → n ≡ at_most (count_of most a) (size a)) →
          n ≡ at_most (if b then Some m.count else count_of most a) (size a)
      step true q e f = let z : min m.count (size m.name) ≡ n = cc in sym z ∙ ap (λ b. min m.count (size b)) ((bytes_eq-Decides m.name a).0 q)
      step false q e f = f e

-- as many values as in the setting, or the greatest number
pub sizes_apart : (t : Types) (most : Labels) (a : Name) (k : ℕ) → count_of most a ≡ Some k →
    ((values t (ty.Glob a)).size ≡ label_count t most a) ⊎ ((label_count t most a ≡ k) × (k ≤ (values t (ty.Glob a)).size))
sizes_apart t most a k e = subst (λ o. (n ≡ at_most o n) ⊎ ((at_most o n ≡ k) × (k ≤ n))) (sym e) (step (leb_tells k n))
  where
    n : ℕ
    n = (values t (ty.Glob a)).size

    step : ((leb k n ≡ true) × (k ≤ n)) ⊎ ((leb k n ≡ false) × (n < k)) → (n ≡ min k n) ⊎ ((min k n ≡ k) × (k ≤ n))
    step (inl x) = let l : k ≤ n = x.1 in inr (omega (arith, l), l)
    step (inr x) = let l : n < k = x.1 in inl (omega (arith, l))
