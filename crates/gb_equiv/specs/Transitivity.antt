-- `transitivity p (P1 ==> Q1) (P2 ==> Q2)`: two procedures by way of a third one.
use Rattle.std.specs.Prelude.{if◌then◌else◌, List, [], ◌∷◌}
use Rattle.gb_core.specs.declared.refusal.Why.TheVariants.{Shape}
use Rattle.gb_core.specs.declared.ty.Ty.TheVariants.{Bool as bool_ty}
use Rattle.gb_terms.specs.declared.decl.TypedName.{TypedName}
use Rattle.gb_terms.specs.declared.module.ProcRef.{ProcRef}
use Rattle.gb_terms.specs.declared.term.Term.{Term}
use Rattle.gb_terms.specs.declared.term.Head.TheVariants.{AllMemory}
use Rattle.gb_terms.specs.Make.{node}
use Rattle.gb_goal.specs.Answers.Answer.{given}
use Rattle.gb_goal.specs.Goal.{Code, Goal}
use Rattle.gb_goal.specs.Goal.Code.{procedure}
use Rattle.gb_goal.specs.Goal.Goal.{equiv, ambient}
use Rattle.gb_goal.specs.Rows.{Row, refusing}
use Rattle.gb_typing.specs.Context.{Context, with_sides}
use Rattle.gb_typing.specs.Context as context
use Rattle.gb_typing.specs.Typing.{IsThere, IsForm, before, after}
use Rattle.gb_forms.specs.Between.{from_left, reads_between, some_between, to_right}
use Rattle.gb_typing.specs.Forms.{implies_form, every_pair}
use Rattle.gb_steps.specs.declared.step.Between.{Between}

-- `forall &3, Q1(1, 3) => Q2(3, 2) => Q`, likewise
abbrev pub every_between : Term → Term → Term → Term
every_between f h q =
    if reads_between f h then node AllMemory (implies_form (from_left f) (implies_form (to_right h) q) ∷ []) bool_ty
    else implies_form f (implies_form h q)

-- The precondition leads through some memory between, the postconditions lead from each one to the postcondition, and the procedures
-- are equivalent to the one between.
abbrev pub through : Between → Code → Code → Term → Term → List Goal
through t a d p q =
    ambient (every_pair (implies_form p (some_between t.left_pre t.right_pre)))
    ∷ ambient (every_pair (every_between t.left_post t.right_post q))
    ∷ equiv a (procedure t.procedure) t.left_pre t.left_post
    ∷ equiv (procedure t.procedure) d t.right_pre t.right_post ∷ []

abbrev pub transitivity_row : Between → Row
transitivity_row t (equiv (procedure f) (procedure h) p q) = given (through t (procedure f) (procedure h) p q)
transitivity_row t G = refusing Shape

-- The procedure between is there, and each relation is said of the parameters, or of the results, of its two procedures.
pub record IsBetween (c : Context) (t : Between) (f h : ProcRef) : Type 0 where
  pub there : IsThere (context.procedure c t.procedure)
  pub left_pre : IsForm (with_sides c (before (context.procedure c f)) (before (context.procedure c t.procedure))) t.left_pre
  pub left_post : IsForm (with_sides c (after (context.procedure c f)) (after (context.procedure c t.procedure))) t.left_post
  pub right_pre : IsForm (with_sides c (before (context.procedure c t.procedure)) (before (context.procedure c h))) t.right_pre
  pub right_post : IsForm (with_sides c (after (context.procedure c t.procedure)) (after (context.procedure c h))) t.right_post

-- a typed step
abbrev pub IsTypedBetween : Context → Between → List TypedName → List TypedName → Goal → Type 0
IsTypedBetween c t ls rs (equiv (procedure f) (procedure h) p q) = IsBetween c t f h
IsTypedBetween c t ls rs G = Unit {0}
