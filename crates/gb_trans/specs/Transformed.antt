-- Steps that put another body in the place of one body of a goal.
use Rattle.std.specs.Prelude.{List, [], ◌∷◌}
use Rattle.gb_core.specs.declared.refusal.Why.TheVariants.{Shape}
use Rattle.gb_terms.specs.declared.term.Instr.{Instr}
use Rattle.gb_steps.specs.declared.step.Acts.{Acts}
use Rattle.gb_goal.specs.Answers.{Answer, ◌>>=◌}
use Rattle.gb_goal.specs.Answers.Answer.{given}
use Rattle.gb_goal.specs.Goal.{Goal}
use Rattle.gb_goal.specs.Rows.{Row, refusing}
use Rattle.gb_prog.specs.OneBody.{OneBody, one_body, on_one}

-- the goal with the body that is made of its own
abbrev pub with_body : (OneBody → Answer (List Instr)) → OneBody → Answer (List Goal)
with_body f o = do
  is ← f o
  given (o.goal is o.pre o.post ∷ [])

abbrev pub transforming : (OneBody → Answer (List Instr)) → Acts → Row
transforming f a G = on_one (with_body f) (one_body a G) (refusing Shape)
