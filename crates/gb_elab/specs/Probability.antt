-- Probabilities.
use Rattle.std.specs.Prelude.{if◌then◌else◌, List, [], ◌∷◌, ◌++◌, Option}
use Rattle.gb_core.specs.declared.place.Place.{Place}
use Rattle.gb_core.specs.declared.refusal.Why.TheVariants.{Argument}
use Rattle.gb_core.specs.declared.ty.Ty.{Ty}
use Rattle.gb_core.specs.declared.ty.Ty.TheVariants as ty
use Rattle.gb_terms.specs.declared.module.ProcRef.{ProcRef}
use Rattle.gb_terms.specs.declared.op.Side.{Side}
use Rattle.gb_terms.specs.declared.term.Term.{Term}
use Rattle.gb_terms.specs.declared.term.Head.TheVariants.{Pr}
use Rattle.gb_terms.specs.Make.{node}
use Rattle.gb_goal.specs.Answers.{Answer}
use Rattle.gb_goal.specs.Answers.Answer.{refused}
use Rattle.gb_names.specs.Allowed.{has_judgments, stands}
use Rattle.gb_names.specs.Environment.{Name, Environment, ambient, in_arguments, reading}

-- a probability, which only formulas have
abbrev pub chance_here : Environment → Option Ty → Place → Answer (Unit {0})
chance_here at w p = if has_judgments at.language then stands at w p ty.Real else refused Argument p

-- what the arguments of a call read: logical variables, and the memory of this name, from which it is made
abbrev pub before_call : Environment → Name → Environment
before_call at x = reading (in_arguments x at.memories) (ambient at.declared at.sequent)

-- the probability of an event after a procedure with these arguments, from a memory
abbrev pub chance : ProcRef → Side → List Term → Term → Term
chance f m ts e = node (Pr f m) (ts ++ e ∷ []) ty.Real
