-- The step `smt` on sequents.
use Rattle.std.specs.Prelude.{◌≡◌, Some, None, List, []}
use Rattle.gb_core.specs.declared.place.Place.{Place}
use Rattle.gb_terms.specs.declared.term.Term.{Term}
use Rattle.gb_goal.specs.Scope.{Declarations}
use Rattle.gb_goal.specs.Answers.{Answer}
use Rattle.gb_goal.specs.Answers.Answer.{given, refused}
use Rattle.gb_goal.specs.declared.sequent.Sequent.{Sequent}
use Rattle.gb_smt.specs.Leaves.{leaves_of}
use Rattle.gb_smt.specs.Apply.{IsAnswerOf}

-- What `smt` answers at a sequent over a script where these forms are known besides, as a step at a place: no sequents, where each leaf is
-- closed, and else why the first one that isn't closed isn't.
abbrev pub IsSmtAnswer : Declarations → List Term → Place → Sequent → Answer (List Sequent) → Type 0
IsSmtAnswer ds known place q (given qs) = (qs ≡ []) × IsAnswerOf ds (leaves_of known q) None
IsSmtAnswer ds known place q (refused why at) = IsAnswerOf ds (leaves_of known q) (Some why) × (at ≡ place)
