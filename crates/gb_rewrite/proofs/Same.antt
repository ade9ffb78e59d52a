-- The test of terms.
use Rattle.std.proofs.Common.{◌≡◌, Bool, true, false, IsTrue, refl}
use Rattle.std.proofs.lemmas.Bool.{false≢true}
use Rattle.std.specs.Prelude.{◌↔◌}
use Rattle.gb_terms.specs.declared.term.Term.{Term}
use Rattle.gb_meaning.proofs.SameTerms.{same_terms}
use Rattle.gb_prog.specs.Same.{is_yes, is_same}

by_decision : {A : Type 0} (b : Bool) (d : Dec A) → (IsTrue b ↔ A) → b ≡ is_yes d
by_decision true (yes p) h = refl
by_decision false (yes p) h = absurd (false≢true (h.1 p))
by_decision true (no n) h = absurd (n (h.0 refl))
by_decision false (no n) h = refl

pub same_is : (a b : Term) (r : Bool) → (IsTrue r ↔ a ≡ b) → r ≡ is_same a b
unfolding is_same
same_is a b r h = by_decision r (same_terms a b) h

yes_is : {A : Type 0} (d : Dec A) → is_yes d ≡ true → A
yes_is (yes p) e = p
yes_is (no n) e = absurd (false≢true e)

pub are_one : (a b : Term) → is_same a b ≡ true → a ≡ b
unfolding is_same
are_one a b e = yes_is (same_terms a b) e
