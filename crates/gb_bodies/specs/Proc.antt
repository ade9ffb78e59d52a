-- `proc`: from procedures to their bodies.
use Rattle.std.specs.Prelude.{List, [], ◌∷◌, Option, Some, None}
use Rattle.std.specs.Option.{option_zip}
use Rattle.gb_core.specs.declared.refusal.Why.TheVariants.{Shape}
use Rattle.gb_terms.specs.declared.decl.Proc.{Proc}
use Rattle.gb_terms.specs.declared.op.Rel.{Rel}
use Rattle.gb_terms.specs.declared.op.Side.TheVariants.{Own, Left, Right}
use Rattle.gb_terms.specs.declared.term.Term.{Term}
use Rattle.gb_walk.specs.Change.{term_changed}
use Rattle.gb_goal.specs.Scope.{Declarations, procedure_of}
use Rattle.gb_goal.specs.Goal.{Goal}
use Rattle.gb_goal.specs.Goal.Code.{body, procedure}
use Rattle.gb_goal.specs.Goal.Goal.{hoare, phoare, equiv}
use Rattle.gb_goal.specs.Answers.{Answer}
use Rattle.gb_goal.specs.Answers.Answer.{given}
use Rattle.gb_goal.specs.Rows.{Row, refusing}
use Rattle.gb_typing.specs.Calls.{returned}

-- what is said of the result of a procedure, of the term that it returns
abbrev pub of_result : Proc → Term → Term
of_result a q = term_changed q (returned Own a ∷ [])

-- the goal on the body of one procedure, with its precondition and its postcondition
abbrev pub of_one : Term → Term → Option Proc → Answer (List Goal)
of_one p q None = refusing Shape
of_one p q (Some a) = given (hoare (body a.body.list) p (of_result a q) ∷ [])

-- the same with a probability
abbrev pub of_chance : Rel → Term → Term → Term → Option Proc → Answer (List Goal)
of_chance r p q b None = refusing Shape
of_chance r p q b (Some a) = given (phoare (body a.body.list) r p (of_result a q) b ∷ [])

-- the same of two procedures
abbrev pub of_two : Term → Term → Option (Proc × Proc) → Answer (List Goal)
of_two p q None = refusing Shape
of_two p q (Some (a, b)) =
    given (equiv (body a.body.list) (body b.body.list) p (term_changed q (returned Left a ∷ returned Right b ∷ [])) ∷ [])

abbrev pub proc_row : Declarations → Row
proc_row ds (hoare (procedure f) p q) = of_one p q (procedure_of ds f)
proc_row ds (phoare (procedure f) r p q b) = of_chance r p q b (procedure_of ds f)
proc_row ds (equiv (procedure f) (procedure h) p q) = of_two p q (option_zip (procedure_of ds f) (procedure_of ds h))
proc_row ds G = refusing Shape
