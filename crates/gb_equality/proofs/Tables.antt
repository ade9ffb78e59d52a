-- What tables imply.
use Rattle.std.proofs.Common.{◌≡◌, ◌≢◌, ◌⊎◌, inl, inr, ℕ, zero, suc, ◌<◌, Bool, true, false, Option, Some, None, IfSome, refl, sym, ap, ◌∙◌, subst, arith}
use Rattle.std.proofs.lemmas.Bool.{false≢true}
use Rattle.gb_terms.specs.Make.{bit}
use Rattle.gb_equality.specs.declared.connectives.Connective.{Connective}
use Rattle.gb_equality.specs.declared.connectives.Connective.TheVariants.{Truth, Not, And, Or, Implies, Iff, Unlike, Equal, NotEqual, Other}
use Rattle.gb_equality.specs.declared.rules.Equation.{Equation}
use Rattle.gb_equality.specs.Connectives.{truth, is_over_forms, is_true, by_table}
use Rattle.gb_equality.specs.Rules.{Fits, IsPossible, IsForced, IsRead, IsOneOf, IsImplied, IsComplete, IsEquated, IsEven}

-- labels of truths

pub of_truth : (n : ℕ) → n < 2 → (p : Bool) × (n ≡ bit p)
of_truth zero h = (false, refl)
of_truth (suc zero) h = (true, refl)
of_truth (suc (suc n)) h = absurd (omega arith)

is_true_bit : (p : Bool) → is_true (bit p) ≡ p
is_true_bit true = refl
is_true_bit false = refl

some_same : (a b : ℕ) → Some a ≡ Some b → a ≡ b
some_same a b e = cc

-- the table at labels of truths

at_truths : (c : Connective) (p q : Bool) → Some (bit (truth c (is_true (bit p)) (is_true (bit q)))) ≡ Some (bit (truth c p q))
at_truths c p q =
    ap (λ r. Some (bit (truth c r (is_true (bit q))))) (is_true_bit p) ∙ ap (λ r. Some (bit (truth c p r))) (is_true_bit q)

by_truths : (c : Connective) → is_over_forms c ≡ true → (p q : Bool) → by_table c (bit p) (bit q) ≡ Some (bit (truth c p q))
by_truths (Truth b) h p q = at_truths (Truth b) p q
by_truths Not h p q = at_truths Not p q
by_truths And h p q = at_truths And p q
by_truths Or h p q = at_truths Or p q
by_truths Implies h p q = at_truths Implies p q
by_truths Iff h p q = at_truths Iff p q
by_truths Unlike h p q = at_truths Unlike p q
by_truths Equal h p q = absurd (false≢true h)
by_truths NotEqual h p q = absurd (false≢true h)
by_truths Other h p q = absurd (false≢true h)

says : (c : Connective) → is_over_forms c ≡ true → (l m : ℕ) → (n : ℕ) × (by_table c l m ≡ Some n)
says (Truth b) h l m = (bit (truth (Truth b) (is_true l) (is_true m)), refl)
says Not h l m = (bit (truth Not (is_true l) (is_true m)), refl)
says And h l m = (bit (truth And (is_true l) (is_true m)), refl)
says Or h l m = (bit (truth Or (is_true l) (is_true m)), refl)
says Implies h l m = (bit (truth Implies (is_true l) (is_true m)), refl)
says Iff h l m = (bit (truth Iff (is_true l) (is_true m)), refl)
says Unlike h l m = (bit (truth Unlike (is_true l) (is_true m)), refl)
says Equal h l m = absurd (false≢true h)
says NotEqual h l m = absurd (false≢true h)
says Other h l m = absurd (false≢true h)

own_truth : (c : Connective) → is_over_forms c ≡ true → (l m own : ℕ) (p q : Bool) → l ≡ bit p → m ≡ bit q → by_table c l m ≡ Some own → own ≡ bit (truth c p q)
own_truth c h l m own p q e f t =
    some_same own (bit (truth c p q)) (sym t ∙ ap (λ k. by_table c k m) e ∙ ap (by_table c (bit p)) f ∙ by_truths c h p q)

-- Labels that a reading agrees with: each label itself, and that of the truth that it reads.

abbrev Agrees : (ℕ → ℕ) → ℕ → ℕ → Type 0
Agrees read l k = k < 2 → k ≡ read l

itself : (read : ℕ → ℕ) → read 0 ≡ 0 → read 1 ≡ 1 → (l : ℕ) → Agrees read l l
itself read f t zero h = sym f
itself read f t (suc zero) h = sym t
itself read f t (suc (suc n)) h = absurd (omega arith)

fits : (read : ℕ → ℕ) (l k : ℕ) (p : Bool) → Agrees read l k → read l ≡ bit p → Fits k p
fits read l k p a e h = a h ∙ e

pub possible : (c : Connective) (own l m own2 l2 m2 : ℕ) (read : ℕ → ℕ) → is_over_forms c ≡ true → IsRead c own l m read →
    Agrees read own own2 → Agrees read l l2 → Agrees read m m2 → IsPossible c own2 l2 m2
possible c own l m own2 l2 m2 read h r a b d =
    let p = of_truth (read l) (r.left_truth h) in
    let q = of_truth (read m) (r.right_truth h) in
    record {
      first = p.0;
      second = q.0;
      first_fits = fits read l l2 p.0 b p.1;
      second_fits = fits read m m2 q.0 d q.1;
      own_fits = fits read own own2 (truth c p.0 q.0) a (own_truth c h (read l) (read m) (read own) p.0 q.0 p.1 q.1 r.table);
    }

-- complete labels

fitted : (l : ℕ) (p : Bool) → l < 2 → Fits l p → l ≡ bit p
fitted l p h f = f h

pub complete : (c : Connective) (own l m : ℕ) → is_over_forms c ≡ true → IsPossible c own l m → IsComplete c own l m
complete c own l m h x o a b n t =
    x.own_fits o ∙ sym (own_truth c h l m n x.first x.second (x.first_fits (a h)) (x.second_fits (b h)) t)

-- no truths possible: the two truths have to be one
pub none_possible : (c : Connective) (own l m : ℕ) → is_over_forms c ≡ true → (IsPossible c own l m → ⊥) → (e : Equation) → e.left ≡ 0 → e.right ≡ 1 → IsImplied c own l m e
none_possible c own l m h n e z o = record {
  known = says c h;
  apart = omega (arith, z, o);
  first = inl (omega (arith, z));
  second = inl (omega (arith, o));
  joined = λ read r. absurd (n (possible c own l m own l m read h r (itself read r.falsity r.truth own) (itself read r.falsity r.truth l) (itself read r.falsity r.truth m)));
}

-- a truth that is forced

is_false : (b : Bool) (A : Type 0) → ((b ≡ true → A) × (A → b ≡ true)) → b ≡ false → A → ⊥
is_false b A d e a = false≢true (sym e ∙ d.1 a)

one : (n : ℕ) → n < 2 → (n ≡ 0 → ⊥) → n ≡ 1
one n h k = omega (arith, h, k)

nought : (n : ℕ) → n < 2 → (n ≡ 1 → ⊥) → n ≡ 0
nought n h k = omega (arith, h, k)

module _ (c : Connective) (h : is_over_forms c ≡ true) (own l m label : ℕ) (f t : Bool) (e : Equation) (F T : Type 0) where
  forces : (read : ℕ → ℕ) → read 0 ≡ 0 → read 1 ≡ 1 → read label < 2 →
      ((f ≡ true → F) × (F → f ≡ true)) → ((t ≡ true → T) × (T → t ≡ true)) → (read label ≡ 0 → F) → (read label ≡ 1 → T) →
      ((e.right ≡ 1) × (f ≡ false)) ⊎ ((e.right ≡ 0) × (t ≡ false)) → read label ≡ read e.right
  forces read z o b df dt rf rt (inl x) = one (read label) b (λ k. is_false f F df x.1 (rf k)) ∙ sym o ∙ ap read (sym x.0)
  forces read z o b df dt rf rt (inr x) = nought (read label) b (λ k. is_false t T dt x.1 (rt k)) ∙ sym z ∙ ap read (sym x.0)

  right_below : ((e.right ≡ 1) × (f ≡ false)) ⊎ ((e.right ≡ 0) × (t ≡ false)) → e.right < 2
  right_below (inl x) = omega (arith, x.0)
  right_below (inr x) = omega (arith, x.0)

  of_forced : IsForced label f t e → IsOneOf own l m label → ((f ≡ true → F) × (F → f ≡ true)) → ((t ≡ true → T) × (T → t ≡ true)) →
      ((read : ℕ → ℕ) → IsRead c own l m read → (read label < 2) × (read label ≡ 0 → F) × (read label ≡ 1 → T)) → IsImplied c own l m e
  of_forced x i df dt g = record {
    known = says c h;
    apart = omega (arith, x.free, x.left, right_below x.right);
    first = subst (IsOneOf own l m) (sym x.left) i;
    second = inl (right_below x.right);
    joined = λ read r. ap read x.left ∙ forces read r.falsity r.truth (g read r).0 df dt (g read r).1 (g read r).2 x.right;
  }

module _ (c : Connective) (own l m : ℕ) (h : is_over_forms c ≡ true) (f t : Bool) (e : Equation) where
  pub own_forced : IsForced own f t e → ((f ≡ true → IsPossible c 0 l m) × (IsPossible c 0 l m → f ≡ true)) → ((t ≡ true → IsPossible c 1 l m) × (IsPossible c 1 l m → t ≡ true)) →
      IsImplied c own l m e
  own_forced x df dt =
      of_forced c h own l m own f t e (IsPossible c 0 l m) (IsPossible c 1 l m) x (inr (inl refl)) df dt
      (λ read r. (
        r.own_truth,
        (λ k. possible c own l m 0 l m read h r (λ _. sym k) (itself read r.falsity r.truth l) (itself read r.falsity r.truth m)),
        (λ k. possible c own l m 1 l m read h r (λ _. sym k) (itself read r.falsity r.truth l) (itself read r.falsity r.truth m)),
      ))

  pub left_forced : IsForced l f t e → ((f ≡ true → IsPossible c own 0 m) × (IsPossible c own 0 m → f ≡ true)) → ((t ≡ true → IsPossible c own 1 m) × (IsPossible c own 1 m → t ≡ true)) →
      IsImplied c own l m e
  left_forced x df dt =
      of_forced c h own l m l f t e (IsPossible c own 0 m) (IsPossible c own 1 m) x (inr (inr (inl refl))) df dt
      (λ read r. (
        r.left_truth h,
        (λ k. possible c own l m own 0 m read h r (itself read r.falsity r.truth own) (λ _. sym k) (itself read r.falsity r.truth m)),
        (λ k. possible c own l m own 1 m read h r (itself read r.falsity r.truth own) (λ _. sym k) (itself read r.falsity r.truth m)),
      ))

  pub right_forced : IsForced m f t e → ((f ≡ true → IsPossible c own l 0) × (IsPossible c own l 0 → f ≡ true)) → ((t ≡ true → IsPossible c own l 1) × (IsPossible c own l 1 → t ≡ true)) →
      IsImplied c own l m e
  right_forced x df dt =
      of_forced c h own l m m f t e (IsPossible c own l 0) (IsPossible c own l 1) x (inr (inr (inr refl))) df dt
      (λ read r. (
        r.right_truth h,
        (λ k. possible c own l m own l 0 read h r (itself read r.falsity r.truth own) (itself read r.falsity r.truth l) (λ _. sym k)),
        (λ k. possible c own l m own l 1 read h r (itself read r.falsity r.truth own) (itself read r.falsity r.truth l) (λ _. sym k)),
      ))

module _ (c : Connective) (own l m : ℕ) (h : is_over_forms c ≡ true) (f t : Bool) where
  pub right_match : (r : Option Equation) → IfSome r (IsForced m f t) → ((f ≡ true → IsPossible c own l 0) × (IsPossible c own l 0 → f ≡ true)) → ((t ≡ true → IsPossible c own l 1) × (IsPossible c own l 1 → t ≡ true)) →
      IfSome r (IsImplied c own l m)
  right_match None x df dt = tt
  right_match (Some e) x df dt = right_forced c own l m h f t e x df dt
