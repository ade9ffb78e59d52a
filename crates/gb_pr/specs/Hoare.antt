-- `hoare`: from a probability to what always holds.
use Rattle.std.specs.Prelude.{zero, suc, ℤ, pos, List, [], ◌∷◌, Option, Some}
use Rattle.gb_core.specs.declared.refusal.Why.TheVariants.{Shape}
use Rattle.gb_terms.specs.declared.op.Rel.TheVariants.{AtMost, Equal, AtLeast}
use Rattle.gb_terms.specs.declared.term.Term.{Term}
use Rattle.gb_goal.specs.Answers.{Answer, ◌>>=◌}
use Rattle.gb_goal.specs.Answers.Answer.{given}
use Rattle.gb_goal.specs.Goal.{Code, Goal}
use Rattle.gb_goal.specs.Goal.Goal.{hoare, phoare, ambient}
use Rattle.gb_goal.specs.Rows.{Row, refusing}
use Rattle.gb_goal.specs.Scope.{Declarations}
use Rattle.gb_typing.specs.Forms.{not_form}
use Rattle.gb_prog.specs.Compared.{at_most_form, literal}
use Rattle.gb_prog.specs.Compared as real
use Rattle.gb_full.specs.Loss.{Loss, code_loss}
use Rattle.gb_full.specs.Lossless.{full}

-- the postcondition never holds
abbrev pub never : Code → Term → Term → Goal
never a p q = hoare a p (not_form q)

abbrev pub at_most_goals : Code → Term → Term → Term → List Goal
at_most_goals a p q b = never a p q ∷ ambient (at_most_form real.zero b) ∷ []

abbrev pub at_least_goals : Code → Term → Term → Term → List Goal
at_least_goals a p q b = hoare a p q ∷ ambient (at_most_form b real.one) ∷ []

-- exactly 0, or exactly 1
abbrev pub exactly : Code → Term → Term → Loss → Option ℤ → Answer (List Goal)
exactly a p q l (Some (pos zero)) = given (never a p q ∷ [])
exactly a p q l (Some (pos (suc zero))) = full l >>= λ _. given (hoare a p q ∷ [])
exactly a p q l n = refusing Shape

abbrev pub hoare_row : Declarations → Row
hoare_row ds (phoare a AtMost p q b) = given (at_most_goals a p q b)
hoare_row ds (phoare a AtLeast p q b) = full (code_loss ds a) >>= λ _. given (at_least_goals a p q b)
hoare_row ds (phoare a Equal p q b) = exactly a p q (code_loss ds a) (literal b)
hoare_row ds G = refusing Shape
