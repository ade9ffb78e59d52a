-- `rcondt` and `rcondf`: a guard is always true where its statement stands, or always false.
use Rattle.std.specs.Prelude.{ℕ, Bool, true, false, if◌then◌else◌, List, [], ◌∷◌, ◌++◌, Option, Some, None}
use Rattle.gb_core.specs.declared.refusal.Why.TheVariants.{Shape}
use Rattle.gb_terms.specs.declared.op.Side.TheVariants as side
use Rattle.gb_terms.specs.declared.term.Cmd.{Cmd}
use Rattle.gb_terms.specs.declared.term.Head.{Head}
use Rattle.gb_terms.specs.declared.term.Head.TheOpen as layer
use Rattle.gb_terms.specs.declared.term.Instr.{Instr, out-Instr}
use Rattle.gb_terms.specs.declared.term.Subject.{Subject}
use Rattle.gb_terms.specs.declared.term.Term.{Term}
use Rattle.gb_goal.specs.Answers.{Answer}
use Rattle.gb_goal.specs.Answers.Answer.{given}
use Rattle.gb_goal.specs.Goal.{Goal}
use Rattle.gb_goal.specs.Goal.Code.{body}
use Rattle.gb_goal.specs.Goal.Goal.{hoare}
use Rattle.gb_goal.specs.Rows.{Row, refusing}
use Rattle.gb_steps.specs.declared.step.Acts.{Acts}
use Rattle.gb_steps.specs.declared.step.Acts.TheVariants as on
use Rattle.gb_forms.specs.Decided.{deciding}
use Rattle.gb_prog.specs.OneBody.{OneBody, on_one, one_body}
use Rattle.gb_trans.specs.declared.decided.Guarded as seen
use Rattle.gb_trans.specs.declared.decided.Left as seen_left
use Rattle.gb_trans.specs.declared.decided.Left.TheVariants as of_code
use Rattle.gb_trans.specs.Places.{At, on_place, statement_at}

-- A guard, and what its statement comes to where the guard is true, or false.
pub record Decision : Type 0 where
  pub guard : Term
  pub left : List Instr

-- of a branch one side is left; of a loop a turn and the loop again, or nothing
abbrev pub decision : Bool → Instr → layer.Instr-F Head Instr Subject Cmd Term → Option Decision
decision t i (layer.If e a b) = Some (record { guard = e; left = if t then a.list else b.list })
decision t i (layer.While e v a) = Some (record { guard = e; left = if t then a.list ++ i ∷ [] else [] })
decision t i _ = None

-- The guard is as it is said after what stands before; and the goal, with what is left of the statement in its place.
abbrev pub decision_goals : Bool → OneBody → At → Option Decision → Answer (List Goal)
decision_goals t o k None = refusing Shape
decision_goals t o k (Some d) =
    given (hoare (body k.before) o.pre (deciding t d.guard) ∷ o.goal (k.before ++ (d.left ++ k.rest)) o.pre o.post ∷ [])

abbrev pub decided : ℕ → Bool → OneBody → Answer (List Goal)
decided n t o = on_place (λ k. decision_goals t o k (decision t k.statement (out-Instr k.statement))) (statement_at n o.list)

-- a judgment of one body; of an equivalence the step has a row of its own
abbrev pub decided_row : ℕ → Bool → Acts → Row
decided_row n t on.All G = on_one (decided n t) (one_body on.All G) (refusing Shape)
decided_row n t a G = refusing Shape

-- The same, of references.

abbrev pub left_seen : Instr → seen_left.Left → List Instr
left_seen i (of_code.Side a) = a.now.list
left_seen i (of_code.Turn a) = a.now.list ++ i ∷ []
left_seen i of_code.Nothing = []

abbrev pub decision_seen : Instr → seen.Guarded → Decision
decision_seen i d = record { guard = d.guard.now; left = left_seen i d.left }
