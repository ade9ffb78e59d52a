-- `symmetry`: the programs of an equivalence exchange their places.
use Rattle.std.specs.Prelude.{[], ◌∷◌}
use Rattle.gb_core.specs.declared.refusal.Why.TheVariants.{Shape}
use Rattle.gb_goal.specs.Answers.Answer.{given}
use Rattle.gb_goal.specs.Goal.Goal.{equiv}
use Rattle.gb_goal.specs.Rows.{Row, refusing}
use Rattle.gb_prog.specs.Exchanged.{exchanged}

-- the right program on the left and the left one on the right, in the goal and in what its conditions read
abbrev pub symmetry_row : Row
symmetry_row (equiv a b p q) = given (equiv b a (exchanged p) (exchanged q) ∷ [])
symmetry_row G = refusing Shape
