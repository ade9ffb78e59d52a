-- A goal as a step on one body sees it.
use Rattle.std.specs.Prelude.{List, [], ◌∷◌, Option, Some, None}
use Rattle.gb_terms.specs.declared.op.Side.{Side}
use Rattle.gb_terms.specs.declared.op.Side.TheVariants as side
use Rattle.gb_terms.specs.declared.term.Instr.{Instr}
use Rattle.gb_terms.specs.declared.term.Term.{Term}
use Rattle.gb_steps.specs.declared.step.Acts.{Acts}
use Rattle.gb_steps.specs.declared.step.Acts.TheVariants as on
use Rattle.gb_goal.specs.Answers.{Answer}
use Rattle.gb_goal.specs.Goal.{Goal}
use Rattle.gb_goal.specs.Goal.Code.{body}
use Rattle.gb_goal.specs.Goal.Goal.{hoare, phoare, equiv}
use Rattle.gb_prog.specs.declared.one_body.Around.{Around}
use Rattle.gb_prog.specs.declared.one_body.Around.TheVariants as around
use Rattle.gb_prog.specs.declared.one_body.OneBody as seen

-- One body, the memory that it runs in, its conditions, and the goal with another body and other conditions in their place.
pub record OneBody : Type 0 where
  pub side : Side
  pub list : List Instr
  pub pre : Term
  pub post : Term
  pub goal : List Instr → Term → Term → Goal

-- the body of a judgment of one, or a body of an equivalence of two
abbrev pub one_body : Acts → Goal → Option OneBody
one_body on.All (hoare (body is) p q) = Some (record { side = side.Own; list = is; pre = p; post = q; goal = λ is p q. hoare (body is) p q })
one_body on.All (phoare (body is) r p q b) = Some (record { side = side.Own; list = is; pre = p; post = q; goal = λ is p q. phoare (body is) r p q b })
one_body on.Left (equiv (body is) (body js) p q) =
    Some (record { side = side.Left; list = is; pre = p; post = q; goal = λ is p q. equiv (body is) (body js) p q })
one_body on.Right (equiv (body is) (body js) p q) =
    Some (record { side = side.Right; list = js; pre = p; post = q; goal = λ js p q. equiv (body is) (body js) p q })
one_body a G = None

-- what a step makes of one body, where it works on one
abbrev pub on_one : (OneBody → Answer (List Goal)) → Option OneBody → Answer (List Goal) → Answer (List Goal)
on_one f (Some o) both = f o
on_one f None both = both

-- The same, of references.

abbrev pub side_of : Around → Side
side_of (around.Left js) = side.Left
side_of (around.Right is) = side.Right
side_of _ = side.Own

abbrev pub filled : Around → List Instr → Term → Term → Goal
filled around.Alone is p q = hoare (body is) p q
filled (around.Bounded r b) is p q = phoare (body is) r p q b.now
filled (around.Left js) is p q = equiv (body is) (body js.now) p q
filled (around.Right is) js p q = equiv (body is.now) (body js) p q

abbrev pub one_seen : seen.OneBody → OneBody
one_seen o = record { side = side_of o.around; list = o.list.now; pre = o.pre.now; post = o.post.now; goal = filled o.around }
