-- Choices counted up to a limit, and the choice at a place, one module after another.
use Rattle.std.proofs.Common.{◌≡◌, ℕ, zero, suc, ◌⊎◌, inl, inr, ◌+◌, ◌-◌, ◌*◌, ◌/◌, ◌%◌, ◌<◌, ◌≤◌, min, [], ◌∷◌, ◌++◌, length, get_or, take, drop, refl, sym, ap, ◌∙◌, append_assoc, mod-eq_of_lt, subst, arith}
use Rattle.std.proofs.Math.Nat.{min-eq_left}
use Rattle.std.proofs.lemmas.Bool.{cases_lt}
use Rattle.std.proofs.lemmas.List.{take_all}
use Rattle.std.proofs.lemmas.Nat.{div-mul-add, div_below, mod_below}
use Rattle.gb_core.proofs.Capped.{min_times}
use Rattle.gb_labels.specs.declared.labels.Label.{Label}
use Rattle.gb_labels.specs.Labels.{Labels, choices, choice_at}

-- a list by its first element and the others
pub parted : (ls : Labels) (l : Label) → 1 ≤ length ls → l ≡ get_or ls 0 l → ls ≡ l ∷ take (length ls - 1) (drop 1 ls)
parted [] l n e = absurd (omega arith)
parted (x ∷ ls) l n e = (λ i. sym e i ∷ sym (take_all (length (x ∷ ls) - 1) ls (omega arith)) i)

-- a product whose second factor is counted up to a limit
product : (m a b n r : ℕ) → 0 < m → a ≤ m → n ≡ min b m → r ≡ min (a * n) m → r ≡ min (a * b) m
product m a b n r z l e f =
    let x : a ≡ min a m = sym (min-eq_left l) in
    f ∙ (λ i. min (x i * e i) m) ∙ min_times m a b z

pub choices_more : (ls os : Labels) (l : Label) (m n r : ℕ) → ls ≡ l ∷ os → 0 < m → l.count ≤ m → n ≡ min (choices os) m → r ≡ min (l.count * n) m → r ≡ min (choices ls) m
choices_more ls os l m n r p z k e f = product m l.count (choices os) n r z k e f ∙ ap (λ x. min (choices x) m) (sym p)

-- a place among the choices of a module's number and those of the others, which are counted up to a limit
pub record IsPlaced (m count all at each : ℕ) : Type 0 where
  pub positive : 0 < each
  pub digit : at / each ≡ at / all
  pub rest : at % each ≡ at % all
  pub few : at / each < count
  pub below : at % each < min all m

smaller : (n k : ℕ) → n < k → n / k ≡ 0
smaller n k l = let e : n ≡ 0 * k + n = omega arith in ap (λ x. x / k) e ∙ div-mul-add 0 k n l

-- where all are counted
counted : (m count all at : ℕ) → 0 < all → at < count * all → all ≤ m → IsPlaced m count all at all
counted m count all at z h l = record {
  positive = z;
  digit = refl;
  rest = refl;
  few = div_below at all count z h;
  below = (let r : at % all < all = mod_below at all z in omega arith);
}

-- where there are more than the limit
uncounted : (m count all at : ℕ) → at < count * all → at < m → m ≤ all → 0 < count → IsPlaced m count all at m
uncounted m count all at h b l k =
    let s = smaller at m b in
    let t = smaller at all (omega arith) in
    let r : at % m ≡ at = mod-eq_of_lt b in
    let w : at < all = omega arith in
    let q : at % all ≡ at = mod-eq_of_lt w in
    record {
      positive = omega arith;
      digit = s ∙ sym t;
      rest = r ∙ sym q;
      few = rw s k;
      below = rw r (omega arith);
    }

by_limit : (m count all at each : ℕ) → 0 < all → 0 < count → each ≡ min all m → at < count * all → at < m → (all < m) ⊎ (m ≤ all) → IsPlaced m count all at each
by_limit m count all at each z k e h b (inl l) =
    let same : each ≡ all = omega arith in
    subst (IsPlaced m count all at) (sym same) (counted m count all at z h (omega arith))
by_limit m count all at each z k e h b (inr l) =
    let same : each ≡ m = omega arith in
    subst (IsPlaced m count all at) (sym same) (uncounted m count all at h b l k)

pub placed : (m count all at each : ℕ) → each ≡ min all m → at < min (count * all) m → IsPlaced m count all at each
placed m count zero at each e h = let none : count * zero ≡ 0 = omega arith in absurd (omega arith)
placed m zero (suc all) at each e h = let none : zero * suc all ≡ 0 = omega arith in absurd (omega arith)
placed m (suc count) (suc all) at each e h = by_limit m (suc count) (suc all) at each (omega arith) (omega arith) e (omega arith) (omega arith) (cases_lt (suc all) m)

pub placed_in : (m : ℕ) (ls os : Labels) (l : Label) (at each : ℕ) → ls ≡ l ∷ os → each ≡ min (choices os) m → at < min (choices ls) m → IsPlaced m l.count (choices os) at each
placed_in m ls os l at each p e h =
    let more : choices ls ≡ l.count * choices os = ap choices p in
    placed m l.count (choices os) at each e (omega (arith, more, h))

-- the number of a module at a place added to a choice, and then those of the others
pub choice_added : (ls os : Labels) (l made : Label) (out mid new : Labels) (at each : ℕ) → ls ≡ l ∷ os → at / each ≡ at / choices os → at % each ≡ at % choices os → made ≡ record { name = l.name; count = suc (at / each) } → mid ≡ out ++ made ∷ [] → new ≡ mid ++ choice_at os (at % each) → new ≡ out ++ choice_at ls at
choice_added ls os l made out mid new at each p d r is m n =
    n
    ∙ (λ i. m i ++ choice_at os (r i))
    ∙ append_assoc out (made ∷ []) (choice_at os (at % choices os))
    ∙ ap (λ x. out ++ x ∷ choice_at os (at % choices os)) (is ∙ (λ i. record { name = l.name; count = suc (d i) }))
    ∙ ap (λ x. out ++ choice_at x at) (sym p)

pub no_choices : (ls : Labels) → length ls ≡ 0 → choices ls ≡ 1
no_choices [] e = refl
no_choices (l ∷ ls) e = absurd (omega (arith, e))
