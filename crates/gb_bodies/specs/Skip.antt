-- `skip`: empty bodies leave an implication. With a probability it is that the bound is met where the postcondition is certain, and
-- where it is impossible.
use Rattle.std.specs.Prelude.{[], ◌∷◌}
use Rattle.gb_core.specs.declared.refusal.Why.TheVariants.{Shape}
use Rattle.gb_terms.specs.declared.op.Side.TheVariants.{Own}
use Rattle.gb_goal.specs.Goal.Code.{body}
use Rattle.gb_goal.specs.Goal.Goal.{hoare, phoare, equiv, ambient}
use Rattle.gb_typing.specs.Forms.{implies_form, every, every_pair}
use Rattle.gb_prog.specs.Compared.{certain_or_not}
use Rattle.gb_goal.specs.Rows.{Row, refusing}
use Rattle.gb_goal.specs.Answers.Answer.{given}

abbrev pub skip_row : Row
skip_row (hoare (body []) p q) = given (ambient (every Own (implies_form p q)) ∷ [])
skip_row (phoare (body []) r p q b) = given (ambient (every Own (implies_form p (certain_or_not r q b))) ∷ [])
skip_row (equiv (body []) (body []) p q) = given (ambient (every_pair (implies_form p q)) ∷ [])
skip_row G = refusing Shape
