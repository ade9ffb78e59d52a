-- What isn't built.
use Rattle.std.specs.Prelude.{List, [], ◌∷◌}
use Rattle.gb_core.specs.declared.place.Place.{Place}
use Rattle.gb_script.specs.declared.tree.Node.{Node}
use Rattle.gb_goal.specs.Answers.{Answer, not_built}
use Rattle.gb_goal.specs.Answers.Answer.{given}

-- nothing stands where only parts may that aren't built
abbrev pub absent : List Node → Place → Answer (Unit {0})
absent [] p = given tt
absent (x ∷ xs) p = not_built p
