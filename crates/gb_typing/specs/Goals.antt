-- Well-typed goals.
use Rattle.std.specs.Prelude.{◌≡◌, List, Some, None}
use Rattle.gb_core.specs.declared.ty.Ty.TheVariants as ty
use Rattle.gb_terms.specs.declared.decl.TypedName.{TypedName}
use Rattle.gb_meaning.specs.Written.{type_of}
use Rattle.gb_typing.specs.Context.{Context, Frame, procedure, with_own, with_sides}
use Rattle.gb_typing.specs.Typing.{IsThere, before, after, IsTyped, IsForm}
use Rattle.gb_typing.specs.Programs.{IsBody}
use Rattle.gb_goal.specs.Goal.{Code, Goal}
use Rattle.gb_goal.specs.Goal.Code.{body, procedure as of_procedure}
use Rattle.gb_goal.specs.Goal.Goal.{hoare, phoare, equiv, ambient}

-- a body over these locals, or a procedure that is there
abbrev pub IsCode : Context → List TypedName → Code → Type 0
IsCode c ls (body is) = IsBody c ls is
IsCode c ls (of_procedure p) = IsThere (procedure c p)

-- the locals of its memory before it runs, and after: those of a body, the parameters of a procedure, and its result
abbrev pub frame_before : Context → List TypedName → Code → Frame
frame_before c ls (body is) = Some ls
frame_before c ls (of_procedure p) = before (procedure c p)

abbrev pub frame_after : Context → List TypedName → Code → Frame
frame_after c ls (body is) = Some ls
frame_after c ls (of_procedure p) = after (procedure c p)

-- two bodies, or two procedures
abbrev pub AreAlike : Code → Code → Type 0
AreAlike (body is) (body js) = Unit {0}
AreAlike (of_procedure p) (of_procedure q) = Unit {0}
AreAlike a b = ⊥

-- A goal whose bodies are over these locals; one body is over the first. Its conditions read the memories of what it speaks of, a
-- bound reads none of them. No quantifier over modules stands in front of it.
abbrev pub IsGoalOver : Context → List TypedName → List TypedName → Goal → Type 0
IsGoalOver c ls rs (hoare a p q) = IsCode c ls a × IsForm (with_own c (frame_before c ls a)) p × IsForm (with_own c (frame_after c ls a)) q
IsGoalOver c ls rs (phoare a r p q b) =
    IsCode c ls a × IsForm (with_own c (frame_before c ls a)) p × IsForm (with_own c (frame_after c ls a)) q
    × IsTyped (with_own c None) b × (type_of b ≡ ty.Real)
IsGoalOver c ls rs (equiv a b p q) =
    AreAlike a b × IsCode c ls a × IsCode c rs b
    × IsForm (with_sides c (frame_before c ls a) (frame_before c rs b)) p × IsForm (with_sides c (frame_after c ls a) (frame_after c rs b)) q
IsGoalOver c ls rs (ambient f) = IsForm c f

abbrev pub IsTypedGoal : Context → Goal → Type 0
IsTypedGoal c G = (ls : List TypedName) × (rs : List TypedName) × IsGoalOver c ls rs G
