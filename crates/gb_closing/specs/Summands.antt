-- Terms with coefficients, and those that a second sum has besides.
use Rattle.std.specs.Prelude.{List, [], ◌∷◌, ◌++◌}
use Rattle.gb_dist.specs.Fractions.{Fraction}
use Rattle.gb_terms.specs.declared.term.Term.{Term}
use Rattle.gb_goal.specs.Answers.{Answer, ◌>>=◌}
use Rattle.gb_goal.specs.Answers.Answer.{given}
use Rattle.gb_closing.specs.declared.numbers.Sign.{Sign}
use Rattle.gb_closing.specs.declared.summands.Summand.{Summand}
use Rattle.gb_closing.specs.Numbers.{operated, zero}

-- what is given, behind what was given before
abbrev pub behind : {A : Type 0} → List A → Answer (List A) → Answer (List A)
behind xs a = a >>= λ ys. given (xs ++ ys)

-- the term with this coefficient
abbrev pub with_coefficient : Term → Answer Fraction → Answer Summand
with_coefficient t a = a >>= λ c. given (record { term = t; coefficient = c })

-- what the second form of a sum or a difference has besides the first one
abbrev pub besides : Sign → List Summand → Answer (List Summand)
besides sign [] = given []
besides sign (y ∷ ys) = do
  z ← with_coefficient y.term (operated sign zero y.coefficient)
  zs ← besides sign ys
  given (z ∷ zs)
