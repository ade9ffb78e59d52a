-- Judgments of one procedure.
use Rattle.std.specs.Prelude.{pos, true, if◌then◌else◌, List, [], ◌∷◌, bytes_eq, codes}
use Rattle.gb_core.specs.declared.place.Place.{Place}
use Rattle.gb_core.specs.declared.ty.Ty.TheVariants as ty
use Rattle.gb_terms.specs.declared.module.ProcRef.{ProcRef}
use Rattle.gb_terms.specs.declared.op.Op.TheVariants as op
use Rattle.gb_terms.specs.declared.op.Rel.{Rel}
use Rattle.gb_terms.specs.declared.op.Rel.TheVariants as rel
use Rattle.gb_terms.specs.declared.term.Term.{Term}
use Rattle.gb_terms.specs.declared.term.Head.TheVariants.{Hoare, Phoare, Whole, Proc as procedure}
use Rattle.gb_terms.specs.Make.{applied, node, truth_literal}
use Rattle.gb_script.specs.declared.tree.Node.{Node}
use Rattle.gb_goal.specs.Answers.{Answer, ◌>>=◌, not_built}
use Rattle.gb_goal.specs.Answers.Answer.{given}
use Rattle.gb_goal.specs.Interfaces.{ProcedureType}
use Rattle.gb_names.specs.declared.bindings.Binding.{Binding}
use Rattle.gb_names.specs.Environment.{Name, Environment, ambient, in_judgments, reading, unary}
use Rattle.gb_names.specs.Environment.Memories.{none}
use Rattle.gb_names.specs.Judgments.{one_procedure, result_of}
use Rattle.gb_elab.specs.declared.contract.Contract.{Contract}

-- what a precondition reads: the parameters of its procedure
abbrev pub before_one : Environment → ProcedureType → Environment
before_one at f = reading (in_judgments at.memories) (unary at.declared at.sequent f.params)

-- what a postcondition reads: the result of its procedure
abbrev pub after_one : Environment → ProcedureType → Environment
after_one at f = reading (in_judgments at.memories) (unary at.declared at.sequent (result_of f))

-- what a bound reads: logical variables alone
abbrev pub around : Environment → Environment
around at = reading none (ambient at.declared at.sequent)

-- A contract: from each memory in its precondition, its procedure comes to memories in its postcondition.
abbrev pub always : Contract → Term
always c = node (Hoare (procedure c.procedure)) (c.pre ∷ c.post ∷ []) ty.Bool

-- .. with a probability that is at most, exactly or at least a bound
abbrev pub with_chance : Contract → Rel → Term → Term
with_chance c r b = node (Phoare (procedure c.procedure) r) (c.pre ∷ c.post ∷ b ∷ []) ty.Bool

abbrev pub relation : Name → Place → Answer Rel
relation x p =
    if bytes_eq x (codes "<=") then given rel.AtMost
    else if bytes_eq x (codes "=") then given rel.Equal
    else if bytes_eq x (codes ">=") then given rel.AtLeast else not_built p

-- `1%r`
abbrev pub one : Term
one = applied op.ToReal (node (Whole (pos 1)) [] ty.Int ∷ []) ty.Real

-- a procedure ends with probability 1, from every memory
abbrev pub ends : ProcRef → Term
ends f = with_chance (record { procedure = f; pre = truth_literal true; post = truth_literal true }) rel.Equal one

-- the procedure that ends
abbrev pub lossless : Environment → List Binding → List Node → Place → Answer Term
lossless at bound (f ∷ []) p = do
  m ← one_procedure at bound f p
  given (ends m.0)
lossless at bound _ p = not_built p
