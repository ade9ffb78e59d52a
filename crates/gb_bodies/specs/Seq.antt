-- `seq`: a body is cut in two, and a form is said between.
use Rattle.std.specs.Prelude.{ℕ, ◌&&◌, nat_le, if◌then◌else◌, List, [], ◌∷◌, length, take, drop}
use Rattle.gb_core.specs.declared.refusal.Why.TheVariants.{Shape, Argument}
use Rattle.gb_terms.specs.declared.decl.TypedName.{TypedName}
use Rattle.gb_terms.specs.declared.term.Term.{Term}
use Rattle.gb_typing.specs.Context.{Context}
use Rattle.gb_typing.specs.Sequents.{one, two}
use Rattle.gb_typing.specs.Typing.{IsForm}
use Rattle.gb_steps.specs.declared.step.Cut.{Cut}
use Rattle.gb_steps.specs.declared.step.Cut.TheVariants.{One, Two}
use Rattle.gb_goal.specs.Goal.{Goal}
use Rattle.gb_goal.specs.Goal.Code.{body}
use Rattle.gb_goal.specs.Goal.Goal.{hoare, equiv}
use Rattle.gb_goal.specs.Rows.{Row, refusing}
use Rattle.gb_goal.specs.Answers.Answer.{given}

abbrev pub seq_row : Cut → Term → Row
seq_row (One k) r (hoare (body is) p q) =
    if nat_le k (length is) then given (hoare (body (take k is)) p r ∷ hoare (body (drop k is)) r q ∷ []) else refusing Argument
seq_row (Two k l) r (equiv (body is) (body js) p q) =
    if nat_le k (length is) && nat_le l (length js)
    then given (equiv (body (take k is)) (body (take l js)) p r ∷ equiv (body (drop k is)) (body (drop l js)) r q ∷ []) else refusing Argument
seq_row k r G = refusing Shape

-- a typed step: the form is said of the bodies' locals
abbrev pub IsTypedCut : Context → Cut → Term → List TypedName → List TypedName → Goal → Type 0
IsTypedCut c (One k) r ls rs (hoare (body is) p q) = IsForm (one c ls) r
IsTypedCut c (Two k l) r ls rs (equiv (body is) (body js) p q) = IsForm (two c ls rs) r
IsTypedCut c k r ls rs G = Unit {0}
