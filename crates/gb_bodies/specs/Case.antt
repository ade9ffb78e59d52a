-- `case`: the goal where a form holds before, and the goal where it doesn't.
use Rattle.std.specs.Prelude.{List, [], ◌∷◌}
use Rattle.gb_core.specs.declared.refusal.Why.TheVariants.{Shape}
use Rattle.gb_terms.specs.declared.decl.TypedName.{TypedName}
use Rattle.gb_terms.specs.declared.term.Term.{Term}
use Rattle.gb_steps.specs.declared.step.Acts.TheVariants as on
use Rattle.gb_goal.specs.Answers.{Answer}
use Rattle.gb_goal.specs.Answers.Answer.{given}
use Rattle.gb_goal.specs.Goal.{Goal}
use Rattle.gb_goal.specs.Goal.Code.{body}
use Rattle.gb_goal.specs.Goal.Goal.{hoare, phoare, equiv}
use Rattle.gb_goal.specs.Rows.{Row, refusing}
use Rattle.gb_typing.specs.Context.{Context}
use Rattle.gb_typing.specs.Sequents.{one, two}
use Rattle.gb_typing.specs.Typing.{IsForm}
use Rattle.gb_typing.specs.Forms.{and_form, not_form}
use Rattle.gb_prog.specs.OneBody.{OneBody, one_body, on_one}

-- a goal as one of its bodies sees it, with the form beside its precondition, and with the negation
abbrev pub case_one : Term → OneBody → Answer (List Goal)
case_one f o = given (o.goal o.list (and_form o.pre f) o.post ∷ o.goal o.list (and_form o.pre (not_form f)) o.post ∷ [])

-- one body, or the left one of two
abbrev pub case_row : Term → Row
case_row f G = on_one (case_one f) (one_body on.All G) (on_one (case_one f) (one_body on.Left G) (refusing Shape))

-- a typed step: the form is said of the bodies' locals
abbrev pub IsTypedCase : Context → Term → List TypedName → List TypedName → Goal → Type 0
IsTypedCase c f ls rs (hoare (body is) p q) = IsForm (one c ls) f
IsTypedCase c f ls rs (phoare (body is) r p q b) = IsForm (one c ls) f
IsTypedCase c f ls rs (equiv (body is) (body js) p q) = IsForm (two c ls rs) f
IsTypedCase c f ls rs G = Unit {0}
