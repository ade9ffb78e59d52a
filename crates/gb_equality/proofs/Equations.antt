-- What equations imply.
use Rattle.std.proofs.Common.{◌≡◌, ◌≢◌, ◌⊎◌, inl, inr, ℕ, ◌<◌, ◌==◌, Bool, true, false, not, Some, refl, sym, ap, ◌∙◌, arith}
use Rattle.std.proofs.lemmas.Bool.{false≢true}
use Rattle.std.proofs.lemmas.Bool.Decides.{Decides-eqb}
use Rattle.gb_terms.specs.Make.{bit}
use Rattle.gb_equality.specs.declared.connectives.Connective.TheVariants.{Equal, NotEqual, Other}
use Rattle.gb_equality.specs.declared.rules.Equation.{Equation}
use Rattle.gb_equality.specs.Rules.{IsImplied, IsComplete, IsEquated, IsEven}

some_same : (a b : ℕ) → Some a ≡ Some b → a ≡ b
some_same a b e = cc

-- tests of labels

bit_true : (b : Bool) → bit b ≡ 1 → b ≡ true
bit_true true h = refl
bit_true false h = absurd (omega (arith, h))

bit_false : (b : Bool) → bit (not b) ≡ 0 → b ≡ true
bit_false true h = refl
bit_false false h = absurd (omega (arith, h))

test_same : (x y : ℕ) → x ≡ y → (x == y) ≡ true
test_same x y e = (Decides-eqb x y).1 e

same_of_test : (x y : ℕ) → (x == y) ≡ true → x ≡ y
same_of_test x y e = (Decides-eqb x y).0 e

-- `s = t`

pub equal_implied : (own l m : ℕ) (e : Equation) → IsEquated 1 own l m e → IsImplied Equal own l m e
equal_implied own l m e (inl x) = record {
  known = λ y z. (bit (y == z), refl);
  apart = omega (arith, x.1, x.2, x.3);
  first = inr (inr (inl x.2));
  second = inr (inr (inr x.3));
  joined = λ read r.
      let b : bit (read l == read m) ≡ 1 = some_same (bit (read l == read m)) (read own) r.table ∙ ap read x.0 ∙ r.truth in
      ap read x.2 ∙ same_of_test (read l) (read m) (bit_true (read l == read m) b) ∙ sym (ap read x.3);
}
equal_implied own l m e (inr x) = record {
  known = λ y z. (bit (y == z), refl);
  apart = omega (arith, x.1, x.2, x.3);
  first = inr (inl x.2);
  second = inl (omega (arith, x.3));
  joined = λ read r.
      let b : bit (read l == read m) ≡ 1 = ap bit (test_same (read l) (read m) (ap read x.0)) in
      ap read x.2 ∙ sym (some_same (bit (read l == read m)) (read own) r.table) ∙ b ∙ sym r.truth ∙ sym (ap read x.3);
}

pub equal_complete : (own l m : ℕ) → IsEven 1 own l m → IsComplete Equal own l m
equal_complete own l m h o a b n t = by_test (l == m) refl
  where
    by_test : (z : Bool) → (l == m) ≡ z → own ≡ n
    by_test true e = h.1 (same_of_test l m e) ∙ sym (ap bit e) ∙ some_same (bit (l == m)) n t
    by_test false e =
        let no : own ≡ 1 → ⊥ = λ k. false≢true (sym e ∙ test_same l m (h.0 k)) in
        let zero : own ≡ 0 = omega (arith, o, no) in
        zero ∙ sym (ap bit e) ∙ some_same (bit (l == m)) n t

-- `s <> t`

pub unequal_implied : (own l m : ℕ) (e : Equation) → IsEquated 0 own l m e → IsImplied NotEqual own l m e
unequal_implied own l m e (inl x) = record {
  known = λ y z. (bit (not (y == z)), refl);
  apart = omega (arith, x.1, x.2, x.3);
  first = inr (inr (inl x.2));
  second = inr (inr (inr x.3));
  joined = λ read r.
      let b : bit (not (read l == read m)) ≡ 0 = some_same (bit (not (read l == read m))) (read own) r.table ∙ ap read x.0 ∙ r.falsity in
      ap read x.2 ∙ same_of_test (read l) (read m) (bit_false (read l == read m) b) ∙ sym (ap read x.3);
}
unequal_implied own l m e (inr x) = record {
  known = λ y z. (bit (not (y == z)), refl);
  apart = omega (arith, x.1, x.2, x.3);
  first = inr (inl x.2);
  second = inl (omega (arith, x.3));
  joined = λ read r.
      let b : bit (not (read l == read m)) ≡ 0 = ap (λ z. bit (not z)) (test_same (read l) (read m) (ap read x.0)) in
      ap read x.2 ∙ sym (some_same (bit (not (read l == read m))) (read own) r.table) ∙ b ∙ sym r.falsity ∙ sym (ap read x.3);
}

pub unequal_complete : (own l m : ℕ) → IsEven 0 own l m → IsComplete NotEqual own l m
unequal_complete own l m h o a b n t = by_test (l == m) refl
  where
    by_test : (z : Bool) → (l == m) ≡ z → own ≡ n
    by_test true e = h.1 (same_of_test l m e) ∙ sym (ap (λ z. bit (not z)) e) ∙ some_same (bit (not (l == m))) n t
    by_test false e =
        let no : own ≡ 0 → ⊥ = λ k. false≢true (sym e ∙ test_same l m (h.0 k)) in
        let one : own ≡ 1 = omega (arith, o, no) in
        one ∙ sym (ap (λ z. bit (not z)) e) ∙ some_same (bit (not (l == m))) n t

pub other_complete : (own l m : ℕ) → IsComplete Other own l m
other_complete own l m o a b n t = cc
