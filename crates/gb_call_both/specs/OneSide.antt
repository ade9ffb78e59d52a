-- `call{1}`, `call{2}`: the call that ends one body of an equivalence, by what its procedure is said to do.
use Rattle.std.specs.Prelude.{Bool, true, false, ◌||◌, if◌then◌else◌, List, [], ◌∷◌, Option, Some, None}
use Rattle.std.specs.List.{list_any}
use Rattle.gb_core.specs.declared.refusal.Why.TheVariants.{Shape}
use Rattle.gb_terms.specs.declared.module.ProcRef.{ProcRef}
use Rattle.gb_terms.specs.declared.op.Rel.TheVariants.{AtLeast, Equal}
use Rattle.gb_terms.specs.declared.op.Side.{Side}
use Rattle.gb_terms.specs.declared.term.Head.{Head}
use Rattle.gb_terms.specs.declared.term.Head.TheOpen as layer
use Rattle.gb_terms.specs.declared.term.Head.TheFolds.{fold-Term, fold-Head}
use Rattle.gb_terms.specs.declared.term.Term.{Term}
use Rattle.gb_steps.specs.declared.step.Acts.{Acts}
use Rattle.gb_steps.specs.declared.step.Acts.TheVariants as on
use Rattle.gb_steps.specs.declared.step.Contract.{Contract}
use Rattle.gb_goal.specs.Answers.{Answer, ◌>>=◌}
use Rattle.gb_goal.specs.Answers.Answer.{given}
use Rattle.gb_goal.specs.Goal.{Goal}
use Rattle.gb_goal.specs.Goal.Code.{procedure}
use Rattle.gb_goal.specs.Goal.Goal.{hoare, phoare}
use Rattle.gb_goal.specs.Rows.{Row, refusing}
use Rattle.gb_goal.specs.Scope.{Declarations}
use Rattle.gb_typing.specs.Forms.{located}
use Rattle.gb_prog.specs.Writes.{TypedVariable}
use Rattle.gb_prog.specs.OneBody.{OneBody, one_body, on_one}
use Rattle.gb_full.specs.Loss.{Loss, nowhere, code_loss}
use Rattle.gb_full.specs.Lossless.{full}
use Rattle.gb_call.specs.Call.{Callee, before_call, callee_of, if_few, left_of, unless_clash}
use Rattle.gb_call.specs.LastCall.{last_call}
use Rattle.gb_call.specs.Outcomes.{clash_after}
use Rattle.gb_call.specs.Written.{with_types}
use Rattle.gb_mods.specs.Exclusions.{exclusions}

-- Forms that speak of programs, or of every memory.

abbrev pub at_head : layer.Head-F Bool (Unit {0}) (Unit {0}) (Unit {0}) Bool → Bool
at_head layer.AllMemory = true
at_head layer.SomeMemory = true
at_head (layer.Pr p r) = true
at_head (layer.Hoare s) = true
at_head (layer.Phoare s r) = true
at_head (layer.Equiv s u) = true
at_head _ = false

abbrev pub at_term : layer.Term-F Bool (Unit {0}) (Unit {0}) (Unit {0}) Bool → Bool
at_term t = t.head || list_any (λ b. b) t.args

abbrev pub speaks : Term → Bool
speaks = fold-Term Bool (Unit {0}) (Unit {0}) (Unit {0}) Bool at_head (λ i. tt) (λ s. tt) (λ c. tt) at_term

abbrev pub head_speaks : Head → Bool
head_speaks = fold-Head Bool (Unit {0}) (Unit {0}) (Unit {0}) Bool at_head (λ i. tt) (λ s. tt) (λ c. tt) at_term

-- What is said of a procedure, of a memory of the goal. A program that a condition speaks of would hide that memory in it.

abbrev pub on_side : Side → Contract → Contract
on_side r s = record s { pre = located r s.pre; post = located r s.post }

abbrev pub unless_speaking : Contract → Answer (List Goal) → Answer (List Goal)
unless_speaking s a = if speaks s.pre || speaks s.post then refusing Shape else a

-- What is known, or to be shown, of the procedure: that what is said always holds after it, or with a probability, which is this.
abbrev pub judged : Option Term → ProcRef → Contract → Goal
judged None f s = hoare (procedure f) s.pre s.post
judged (Some b) f s = phoare (procedure f) Equal s.pre s.post b

-- Where it may lose weight: nowhere, if what is said holds with probability 1.
abbrev pub lost : Declarations → Option Term → ProcRef → Loss
lost ds None f = code_loss ds (procedure f)
lost ds (Some b) f = nowhere

-- The procedure does so. What stands before the call, and the other body, lead to where its precondition holds of the arguments, and its
-- postcondition leads to what is to hold after the call.
abbrev pub side_goals : Option Term → Contract → OneBody → Callee → List TypedVariable → List Goal
side_goals b s o k W =
    judged b k.call.procedure s ∷ o.goal k.call.before o.pre (before_call AtLeast o.side k W (on_side o.side s) o.post) ∷ []

abbrev pub by_side_globals : Option Term → Contract → OneBody → Callee → Option (List TypedVariable) → Answer (List Goal)
by_side_globals b s o k None = refusing Shape
by_side_globals b s o k (Some W) = given (side_goals b s o k W)

abbrev pub where_full : Loss → Answer (List Goal) → Answer (List Goal)
where_full l a = full l >>= λ _. a

abbrev pub by_side_callee : Declarations → Option Term → Contract → OneBody → Callee → Answer (List Goal)
by_side_callee ds b s o k =
    if_few k.call.targets (unless_speaking s (unless_clash (clash_after (exclusions ds) o.side k.call.targets k.written (located o.side s.post) o.post)
    (where_full (lost ds b k.call.procedure) (by_side_globals b s o k (with_types ds (left_of o.side k (on_side o.side s) o.post))))))

abbrev pub of_side_callee : Declarations → Option Term → Contract → OneBody → Option Callee → Answer (List Goal)
of_side_callee ds b s o None = refusing Shape
of_side_callee ds b s o (Some k) = by_side_callee ds b s o k

-- the body on which the rule acts
abbrev pub of_body : Declarations → Option Term → Contract → OneBody → Answer (List Goal)
of_body ds b s o = of_side_callee ds b s o (callee_of ds (last_call o.list))

-- `call` on one of two bodies
abbrev pub on_one_side : Declarations → Option Term → Contract → Acts → Row
on_one_side ds b s on.All G = refusing Shape
on_one_side ds b s a G = on_one (of_body ds b s) (one_body a G) (refusing Shape)
