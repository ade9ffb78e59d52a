-- Linear forms: a constant, and different terms with their coefficients.
use Rattle.std.specs.Prelude.{ℕ, suc, Bool, true, false, if◌then◌else◌, List, [], ◌∷◌}
use Rattle.std.specs.List.{list_all}
use Rattle.gb_dist.specs.Fractions.{Fraction}
use Rattle.gb_terms.specs.declared.term.Term.{Term}
use Rattle.gb_meaning.proofs.SameTerms.{same_terms}
use Rattle.gb_goal.specs.Answers.{Answer, ◌>>=◌}
use Rattle.gb_goal.specs.Answers.Answer.{given}
use Rattle.gb_closing.specs.declared.numbers.Sign.{Sign}
use Rattle.gb_linear.specs.declared.numbers.Stands.{Stands}
use Rattle.gb_closing.specs.declared.summands.Summand.{Summand}
use Rattle.gb_linear.specs.declared.forms.LinearForm.{LinearForm}
use Rattle.gb_closing.specs.Numbers.{operated, zero}
use Rattle.gb_closing.specs.Summands.{with_coefficient, besides}
use Rattle.gb_linear.specs.Numbers.{multiplied, one, is_zero}

abbrev pub is_yes : {A : Type 0} → Dec A → Bool
is_yes (yes p) = true
is_yes (no n) = false

-- whether two terms are the same
unfoldable pub is_same : Term → Term → Bool
is_same a b = is_yes (same_terms a b)

-- the coefficient of a term: 0 where the term is missing
abbrev pub coefficient : List Summand → Term → Fraction
coefficient [] t = zero
coefficient (x ∷ xs) t = if is_same x.term t then x.coefficient else coefficient xs t

-- the summands without that of a term
abbrev pub without : List Summand → Term → List Summand
without [] t = []
without (x ∷ xs) t = if is_same x.term t then xs else x ∷ without xs t

-- the place of the summand of a term, or the end of the list
abbrev pub place_in : List Summand → Term → ℕ
place_in [] t = 0
place_in (x ∷ xs) t = if is_same x.term t then 0 else suc (place_in xs t)

-- The summands of a sum or a difference, in order of first occurrence: each of the first form with what the second one has of its
-- term, and then those that the second one has besides.
abbrev pub merged : Sign → List Summand → List Summand → Answer (List Summand)
merged sign [] ys = besides sign ys
merged sign (x ∷ xs) ys = do
  z ← with_coefficient x.term (operated sign x.coefficient (coefficient ys x.term))
  zs ← merged sign xs (without ys x.term)
  given (z ∷ zs)

-- A sum or a difference: the constants first, then the terms.
abbrev pub combined : Sign → LinearForm → LinearForm → Answer LinearForm
combined sign a b = do
  c ← operated sign a.constant b.constant
  xs ← merged sign a.summands b.summands
  given (record { constant = c; summands = xs })

abbrev pub each_scaled : Stands → Fraction → List Summand → Answer (List Summand)
each_scaled on k [] = given []
each_scaled on k (x ∷ xs) = do
  z ← with_coefficient x.term (multiplied on k x.coefficient)
  zs ← each_scaled on k xs
  given (z ∷ zs)

-- a form times a number
abbrev pub scaled : Stands → Fraction → LinearForm → Answer LinearForm
scaled on k a = do
  c ← multiplied on k a.constant
  xs ← each_scaled on k a.summands
  given (record { constant = c; summands = xs })

-- no term is left
abbrev pub is_constant : LinearForm → Bool
is_constant a = list_all (λ x. is_zero x.coefficient) a.summands

abbrev pub of_number : Fraction → LinearForm
of_number c = record { constant = c; summands = [] }

-- the form of a term that isn't taken apart
abbrev pub alone : Term → LinearForm
alone t = record { constant = zero; summands = record { term = t; coefficient = one } ∷ [] }
