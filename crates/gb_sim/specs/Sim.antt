-- `sim`: the same statements on both sides, by what they read.
use Rattle.std.specs.Prelude.{◌≡◌, ◌⊎◌, true, if◌then◌else◌, List, [], ◌∷◌, Option, Some, None}
use Rattle.gb_core.specs.declared.place.Place.{Place}
use Rattle.gb_core.specs.declared.refusal.Why.TheVariants.{Shape}
use Rattle.gb_core.specs.declared.ty.Ty.{Ty}
use Rattle.gb_terms.specs.declared.op.Op.TheVariants as op
use Rattle.gb_terms.specs.declared.op.Read.TheVariants.{Program}
use Rattle.gb_terms.specs.declared.op.Side.{Side}
use Rattle.gb_terms.specs.declared.op.Side.TheVariants.{Left, Right}
use Rattle.gb_terms.specs.declared.term.Instr.{Instr}
use Rattle.gb_terms.specs.declared.term.Term.{Term, Term', Row_of-Term, end_of-Term, more_of-Term, end_of-Head, more_of-Head, out-Term}
use Rattle.gb_terms.specs.declared.term.Head.{Head}
use Rattle.gb_terms.specs.declared.term.Head.TheVariants as head
use Rattle.gb_terms.specs.Equal.{side_eq}
use Rattle.gb_terms.specs.Make.{node, truth_literal}
use Rattle.gb_meaning.specs.Commands.{terms_in}
use Rattle.gb_goal.specs.Answers.{Answer}
use Rattle.gb_goal.specs.Answers.Answer.{given, refused}
use Rattle.gb_goal.specs.Goal.{Goal, goal_of}
use Rattle.gb_goal.specs.Goal.Code.{body}
use Rattle.gb_goal.specs.Goal.Goal.{equiv, ambient}
use Rattle.gb_goal.specs.Rows.{Row, refusing, stepped}
use Rattle.gb_goal.specs.Scope.{Declarations}
use Rattle.gb_goal.specs.declared.sequent.Sequent.{Sequent}
use Rattle.gb_typing.specs.Forms.{and_form, equal_form, every_pair, implies_form}
use Rattle.gb_labels.specs.declared.reads.TypedVar.{TypedVar}
use Rattle.gb_labels.specs.Reads.{Vars}
use Rattle.gb_forms.specs.Ordered.{is_same, joined}
use Rattle.gb_sim.specs.Need.{if_known, need}
use Rattle.gb_mods.specs.Exclusions.{exclusions}

-- the variable that a head of this type reads in a memory
abbrev pub read_in : Side → Head → Ty → Option TypedVar
read_in r (head.Read (Program x s)) t = if side_eq s r then Some (record { var = x; ty = t }) else None
read_in r h t = None

abbrev pub variable_in : Side → Term → Option TypedVar
variable_in r e = read_in r (out-Term e).head (out-Term e).ty

abbrev pub same_variable : Option TypedVar → Option TypedVar → Option Vars
same_variable (Some x) (Some y) = if is_same x y then Some (x ∷ []) else None
same_variable _ _ = None

abbrev pub first_known : Option Vars → Option Vars → Option Vars
first_known (Some V) o = Some V
first_known None o = o

-- one variable of both memories, on either side of an equation
abbrev pub equated : Term → Term → Option Vars
equated a b = first_known (same_variable (variable_in Left a) (variable_in Right b)) (same_variable (variable_in Right a) (variable_in Left b))

abbrev pub both : Option Vars → Option Vars → Option Vars
both (Some V) (Some W) = Some (joined V W)
both _ _ = None

abbrev pub equated_at : Head → List Term → List (Option Vars) → Option Vars
equated_at (head.Builtin op.And) es (V ∷ W ∷ []) = both V W
equated_at (head.Builtin op.Equal) (a ∷ b ∷ []) Vs = equated a b
equated_at h es Vs = None

abbrev mutual
  -- the variables of which a form says that each is the same on both sides, where it is a conjunction of such equations
  pub equal_in : Term → Option Vars
  equal_in (Term' p (more_of-Head h end_of-Head) n ts t) = equated_at h (terms_in ts) (each_equal ts)

  pub each_equal : {n : _} → Row_of-Term n → List (Option Vars)
  each_equal end_of-Term = []
  each_equal (more_of-Term t ts) = equal_in t ∷ each_equal ts

-- a variable, read in a memory
abbrev pub variable_of : Side → TypedVar → Term
variable_of r x = node (head.Read (Program x.var r)) [] x.ty

-- it is the same on both sides
abbrev pub equality : TypedVar → Term
equality x = equal_form (variable_of Left x) (variable_of Right x)

abbrev pub with_equalities : Term → Vars → Term
with_equalities f [] = f
with_equalities f (x ∷ xs) = with_equalities (and_form f (equality x)) xs

-- each of these variables is
abbrev pub equal_on : Vars → Term
equal_on [] = truth_literal true
equal_on (x ∷ xs) = with_equalities (equality x) xs

abbrev pub by_need : Term → Option Vars → Answer (List Goal)
by_need p None = refusing Shape
by_need p (Some V) = given (ambient (every_pair (implies_form p (equal_on V))) ∷ [])

-- the goal of the same statements on both sides
abbrev pub on_statements : Declarations → List Instr → Term → Term → Answer (List Goal)
on_statements ds is p q = by_need p (if_known (λ V. need (exclusions ds) ds is V) (equal_in q))

abbrev pub sim_row : Declarations → Row
sim_row ds (equiv (body is) (body js) p q) = on_statements ds is p q
sim_row ds G = refusing Shape

-- two bodies that are the same
abbrev pub AreSame : Goal → Type 0
AreSame (equiv (body is) (body js) p q) = is ≡ js
AreSame G = ⊥

-- What `sim` answers at a goal. Where it isn't about two bodies that are the same it is refused.
abbrev pub IsAnswer : Declarations → Place → Sequent → Answer (List Sequent) → Type 0
IsAnswer ds place q r =
    (AreSame (goal_of q.conclusion) × (r ≡ stepped (sim_row ds) place q))
    ⊎ ((AreSame (goal_of q.conclusion) → ⊥) × (r ≡ refused Shape place))
