-- Leaves that close by equality alone.
use Rattle.std.proofs.Common.{◌≡◌, ℕ, ◌<◌, ◌≤◌, ◌⊎◌, inl, inr, Bool, true, false, List, refl, sym, ◌∙◌, subst, arith}
use Rattle.std.proofs.lemmas.Bool.{false≢true, cases_order}
use Rattle.gb_terms.specs.declared.term.Term.{Term}
use Rattle.gb_equality.specs.declared.equality.Labelled.{Labelled}
use Rattle.gb_equality.specs.Labels.{Labels, Refutes, EqualityValid}
use Rattle.gb_equality.specs.Answer.{IsRefutation}
use Rattle.gb_equality.proofs.Deciding.{valid_or_refuted}
use Rattle.gb_smt.specs.declared.leaves.Leaf.{Leaf}
use Rattle.gb_smt.specs.Equations.{used_up}
use Rattle.gb_smt.specs.Atoms.{atoms_of, IsCount}
use Rattle.gb_smt.specs.ByEquality.{has_no_form, ClosesByEquality}
use Rattle.gb_smt.proofs.Different.{no_more}

-- the number of different terms
pub count_once : (ts : List Term) (m n : ℕ) → IsCount ts m → IsCount ts n → m ≡ n
count_once ts m n a b =
    let p = no_more a.once b.once a.distinct (λ t h. b.within t (a.from t h)) in
    let q = no_more b.once a.once b.distinct (λ t h. a.within t (b.from t h)) in
    omega (arith, p, q, a.number, b.number)

-- what a test that fails says
abbrev pub Denies : Leaf → Type 0
Denies l = (false ≡ true → ClosesByEquality l) × (ClosesByEquality l → false ≡ true)

denied : (l : Leaf) → (ClosesByEquality l → ⊥) → Denies l
denied l n = (λ e. absurd (false≢true e), λ c. absurd (n c))

pub others_deny : (l : Leaf) → has_no_form l ≡ true → Denies l
others_deny l e = denied l (λ c. false≢true (sym c.forms ∙ e))

module _ (whole leaf : Leaf) (e : leaf ≡ used_up whole) (n : ℕ) (counted : IsCount (atoms_of leaf) n) where
  counted_whole : IsCount (atoms_of (used_up whole)) n
  counted_whole = subst (λ l. IsCount (atoms_of l) n) e counted

  too_many : 20 < n → ClosesByEquality whole → ⊥
  too_many m c = omega (arith, m, c.few, count_once (atoms_of (used_up whole)) n c.atoms counted_whole c.count)

  pub many_deny : 20 < n → Denies whole
  many_deny m = denied whole (too_many m)

  few_valid : has_no_form whole ≡ false → n ≤ 20 → EqualityValid leaf.hyps leaf.conclusion → ClosesByEquality whole
  few_valid p f v = record { forms = p; atoms = n; count = counted_whole; few = f; valid = subst (λ l. EqualityValid l.hyps l.conclusion) e v }

  pub valid_confirms : has_no_form whole ≡ false → n ≤ 20 → EqualityValid leaf.hyps leaf.conclusion → (true ≡ true → ClosesByEquality whole) × (ClosesByEquality whole → true ≡ true)
  valid_confirms p f v = (λ q. few_valid p f v, λ c. refl)

  pub refuted_denies : (list : List Labelled) → IsRefutation leaf.hyps leaf.conclusion list → Denies whole
  refuted_denies list r = denied whole (λ c. c.valid r.labels (subst (λ l. Refutes r.labels l.hyps l.conclusion) e r.refutes))

-- a leaf is so or not
module _ (l : Leaf) (n : ℕ) (counted : IsCount (atoms_of (used_up l)) n) where
  abbrev Either : Type 0
  Either = ClosesByEquality l ⊎ (ClosesByEquality l → ⊥)

  by_validity : has_no_form l ≡ false → n ≤ 20 → EqualityValid (used_up l).hyps (used_up l).conclusion ⊎ ((L : Labels) × Refutes L (used_up l).hyps (used_up l).conclusion) → Either
  by_validity p f (inl v) = inl (few_valid l (used_up l) refl n counted p f v)
  by_validity p f (inr r) = inr (λ c. c.valid r.0 r.1)

  by_number : has_no_form l ≡ false → (n ≡ 20) ⊎ ((n < 20) ⊎ (20 < n)) → Either
  by_number p (inl e) = by_validity p (omega (arith, e)) (valid_or_refuted (used_up l).hyps (used_up l).conclusion)
  by_number p (inr (inl m)) = by_validity p (omega (arith, m)) (valid_or_refuted (used_up l).hyps (used_up l).conclusion)
  by_number p (inr (inr m)) = inr (too_many l (used_up l) refl n counted m)

  by_forms : (b : Bool) → has_no_form l ≡ b → Either
  by_forms true e = inr (λ c. false≢true (sym c.forms ∙ e))
  by_forms false e = by_number e (cases_order n 20)

  pub closes_or_not : Either
  closes_or_not = by_forms (has_no_form l) refl
