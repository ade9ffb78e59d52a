-- What a rule sees of a goal: judgments of bodies and of procedures, and other forms.
use Rattle.std.specs.Prelude.{Bool, true, false, List, [], ◌∷◌}
use Rattle.gb_core.specs.declared.ty.Ty.TheVariants.{Bool as bool_ty}
use Rattle.gb_terms.specs.declared.module.ProcRef.{ProcRef}
use Rattle.gb_terms.specs.declared.op.Rel.{Rel}
use Rattle.gb_terms.specs.declared.term.Term.{Term, out-Term}
use Rattle.gb_terms.specs.declared.term.Head.{Head}
use Rattle.gb_terms.specs.declared.term.Head.TheVariants as head
use Rattle.gb_terms.specs.declared.term.Head.TheVariants.{Body, Proc}
use Rattle.gb_terms.specs.declared.term.Head.TheOpen as layer
use Rattle.gb_terms.specs.declared.term.Instr.{Instr}
use Rattle.gb_terms.specs.declared.term.Cmd.{Cmd, roll-Cmd}
use Rattle.gb_terms.specs.declared.term.Subject.{Subject, out-Subject}
use Rattle.gb_terms.specs.Make.{node}

-- what a judgment speaks of
pub data Code : Type 0 where
  body : List Instr → Code
  procedure : ProcRef → Code

-- A goal: judgments with their precondition, their postcondition and their bound, or another form.
pub data Goal : Type 0 where
  hoare : Code → Term → Term → Goal
  phoare : Code → Rel → Term → Term → Term → Goal
  equiv : Code → Code → Term → Term → Goal
  ambient : Term → Goal

abbrev pub subject_of : Code → Subject
subject_of (body is) = Body (roll-Cmd (record { list = is }))
subject_of (procedure p) = Proc p

-- the form that a goal is
abbrev pub form_of : Goal → Term
form_of (hoare a p q) = node (head.Hoare (subject_of a)) (p ∷ q ∷ []) bool_ty
form_of (phoare a r p q b) = node (head.Phoare (subject_of a) r) (p ∷ q ∷ b ∷ []) bool_ty
form_of (equiv a b p q) = node (head.Equiv (subject_of a) (subject_of b)) (p ∷ q ∷ []) bool_ty
form_of (ambient f) = f

abbrev pub code_at : layer.Subject-F Head Instr Subject Cmd Term → Code
code_at (layer.Body c) = body c.list
code_at (layer.Proc p) = procedure p

abbrev pub code_of : Subject → Code
code_of s = code_at (out-Subject s)

abbrev pub goal_at : Term → Head → List Term → Goal
goal_at f (head.Hoare s) (p ∷ q ∷ []) = hoare (code_of s) p q
goal_at f (head.Phoare s r) (p ∷ q ∷ b ∷ []) = phoare (code_of s) r p q b
goal_at f (head.Equiv s u) (p ∷ q ∷ []) = equiv (code_of s) (code_of u) p q
goal_at f h ts = ambient f

-- the goal that a form is
abbrev pub goal_of : Term → Goal
goal_of f = goal_at f (out-Term f).head (out-Term f).args

-- a judgment
abbrev pub IsJudgment : Goal → Type 0
IsJudgment (ambient f) = ⊥
IsJudgment G = Unit {0}

abbrev pub is_body_at : layer.Subject-F Head Instr Subject Cmd Term → Bool
is_body_at (layer.Body c) = true
is_body_at (layer.Proc p) = false

-- whether a form with this head is a judgment that speaks of a body; one on two programs by the first of them
abbrev pub judges_bodies : Head → Bool
judges_bodies (head.Hoare s) = is_body_at (out-Subject s)
judges_bodies (head.Phoare s r) = is_body_at (out-Subject s)
judges_bodies (head.Equiv s u) = is_body_at (out-Subject s)
judges_bodies _ = false
