-- `if`: a branch that stands first.
use Rattle.std.specs.Prelude.{List, [], ◌∷◌, ◌++◌, Option, Some, None}
use Rattle.std.specs.Option.{option_zip}
use Rattle.gb_core.specs.declared.refusal.Why.TheVariants.{Shape}
use Rattle.gb_terms.specs.declared.op.Side.{Side}
use Rattle.gb_terms.specs.declared.op.Side.TheVariants.{Own, Left, Right}
use Rattle.gb_terms.specs.declared.term.Term.{Term}
use Rattle.gb_terms.specs.declared.term.Head.{Head}
use Rattle.gb_terms.specs.declared.term.Head.TheOpen as layer
use Rattle.gb_terms.specs.declared.term.Subject.{Subject}
use Rattle.gb_terms.specs.declared.term.Instr.{Instr, out-Instr}
use Rattle.gb_terms.specs.declared.term.Cmd.{Cmd}
use Rattle.gb_goal.specs.Goal.{Goal}
use Rattle.gb_goal.specs.Goal.Code.{body}
use Rattle.gb_goal.specs.Goal.Goal.{equiv, ambient}
use Rattle.gb_typing.specs.Forms.{and_form, not_form, implies_form, equal_form, located, every_pair}
use Rattle.gb_goal.specs.Answers.{Answer}
use Rattle.gb_goal.specs.Rows.{Row, refusing}
use Rattle.gb_steps.specs.declared.step.Acts.{Acts}
use Rattle.gb_steps.specs.declared.step.Acts.TheVariants as on
use Rattle.gb_goal.specs.Answers.Answer.{given}
use Rattle.gb_prog.specs.OneBody.{one_body, on_one}
use Rattle.gb_bodies.specs.declared.branch.Branch as seen

-- a branch, and what follows it
pub record Branch : Type 0 where
  pub test : Term
  pub if_true : Cmd
  pub if_false : Cmd
  pub rest : List Instr

-- the same, of references
abbrev pub branch_seen : seen.Branch → Branch
branch_seen b = record { test = b.test.now; if_true = b.if_true.now; if_false = b.if_false.now; rest = b.rest.now }

abbrev pub branch_at : layer.Instr-F Head Instr Subject Cmd Term → List Instr → Option Branch
branch_at (layer.If e a b) is = Some (record { test = e; if_true = a; if_false = b; rest = is })
branch_at _ is = None

-- the branch that a body begins with
abbrev pub first_branch : List Instr → Option Branch
first_branch [] = None
first_branch (i ∷ is) = branch_at (out-Instr i) is

-- the statements where the test is true, and where it is false
abbrev pub where_true : Branch → List Instr
where_true b = b.if_true.list ++ b.rest

abbrev pub where_false : Branch → List Instr
where_false b = b.if_false.list ++ b.rest

-- the goals of both sides of one branch, in a memory; a goal is made of statements and a precondition
abbrev pub of_one : (List Instr → Term → Goal) → Side → Term → Option Branch → Answer (List Goal)
of_one goal r p None = refusing Shape
of_one goal r p (Some b) =
    given (goal (where_true b) (and_form p (located r b.test)) ∷ goal (where_false b) (and_form p (not_form (located r b.test))) ∷ [])

-- the goals of two branches whose tests are equal
abbrev pub of_both : Term → Term → Option (Branch × Branch) → Answer (List Goal)
of_both p q None = refusing Shape
of_both p q (Some (a, b)) = given (
    ambient (every_pair (implies_form p (equal_form (located Left a.test) (located Right b.test))))
    ∷ equiv (body (where_true a)) (body (where_true b)) (and_form p (located Left a.test)) q
    ∷ equiv (body (where_false a)) (body (where_false b)) (and_form p (not_form (located Left a.test))) q ∷ [])

-- the same of the bodies of a goal, where a step acts on two
abbrev pub if_both : Acts → Row
if_both on.All (equiv (body is) (body js) p q) = of_both p q (option_zip (first_branch is) (first_branch js))
if_both a G = refusing Shape

abbrev pub if_row : Acts → Row
if_row a G = on_one (λ o. of_one (λ is p. o.goal is p o.post) o.side o.pre (first_branch o.list)) (one_body a G) (if_both a G)
