-- Whether terms are the same, for definitions that choose by it.
use Rattle.std.specs.Prelude.{Bool, true, false}
use Rattle.gb_terms.specs.declared.term.Term.{Term}
use Rattle.gb_meaning.proofs.SameTerms.{same_terms}

abbrev pub is_yes : {A : Type 0} → Dec A → Bool
is_yes (yes p) = true
is_yes (no n) = false

-- whether two terms are the same
unfoldable pub is_same : Term → Term → Bool
is_same a b = is_yes (same_terms a b)
