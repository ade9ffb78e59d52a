-- Labellings, and leaves that are valid by equality alone.
use Rattle.std.specs.Prelude.{◌≡◌, ◌≢◌, ℕ, ◌<◌, true, List, map, Some}
use Rattle.std.specs.List.{All, Contains}
use Rattle.gb_terms.specs.declared.term.Term.{Term}
use Rattle.gb_equality.specs.Parts.{arguments_of, operator_of, terms_in}
use Rattle.gb_equality.specs.Connectives.{is_form, connective_of, label_by, AreDifferent}

-- the label of each term; that of a form is 1 where it is true, and 0 where it is false
abbrev pub Labels : Type 0
Labels = Term → ℕ

-- A labelling of terms: equal operators with equal labels of arguments have equal labels, different literals of a type have
-- different labels, a form is true or false, and a connective and an equation are so by their arguments.
pub record IsLabelling (L : Labels) (ts : List Term) : Type 0 where
  pub congruent : (t u : Term) → Contains ts t → Contains ts u → operator_of t ≡ operator_of u → map L (arguments_of t) ≡ map L (arguments_of u) → L t ≡ L u
  pub literals : (t u : Term) → Contains ts t → Contains ts u → AreDifferent t u → L t ≢ L u
  pub truths : (t : Term) → Contains ts t → is_form t ≡ true → L t < 2
  pub tables : (t : Term) → Contains ts t → (l : ℕ) → label_by (connective_of t) (map L (arguments_of t)) ≡ Some l → L t ≡ l

-- the labelling makes the hypotheses true and the conclusion false
pub record Refutes (L : Labels) (hyps : List Term) (t : Term) : Type 0 where
  pub labelling : IsLabelling L (terms_in hyps t)
  pub assumed : All (λ h. L h ≡ 1) hyps
  pub concluded : L t ≡ 0

-- no labelling makes the hypotheses true and the conclusion false
abbrev pub EqualityValid : List Term → Term → Type 0
EqualityValid hyps t = (L : Labels) → Refutes L hyps t → ⊥
