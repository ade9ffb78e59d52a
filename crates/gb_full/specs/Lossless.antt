-- What rules ask where weight may be lost.
use Rattle.std.specs.Prelude.{List, [], ◌∷◌}
use Rattle.gb_core.specs.declared.refusal.Why.TheVariants.{Shape, NotLossless}
use Rattle.gb_terms.specs.declared.op.Rel.{Rel}
use Rattle.gb_terms.specs.declared.op.Rel.TheVariants.{AtMost}
use Rattle.gb_terms.specs.declared.term.Term.{Term}
use Rattle.gb_goal.specs.Answers.{Answer}
use Rattle.gb_goal.specs.Answers.Answer.{given}
use Rattle.gb_goal.specs.Goal.{Goal}
use Rattle.gb_goal.specs.Goal.Goal.{ambient}
use Rattle.gb_goal.specs.Rows.{refusing}
use Rattle.gb_prog.specs.Compared.{compared, zero}
use Rattle.gb_full.specs.Loss.{Loss, nowhere, sampled, called}

-- nothing loses weight
abbrev pub full : Loss → Answer (Unit {0})
full nowhere = given tt
full (sampled x) = refusing (NotLossless x)
full called = refusing Shape

-- Weight that the rest of the body loses makes a probability less, so that only `<=` stays, with a bound that isn't below 0.
abbrev pub of_rest : Loss → Rel → Term → Goal → Answer (List Goal)
of_rest nowhere r b G = given (G ∷ [])
of_rest l AtMost b G = given (G ∷ ambient (compared AtMost zero b) ∷ [])
of_rest (sampled x) r b G = refusing (NotLossless x)
of_rest called r b G = refusing Shape
