-- What stands in front of a conclusion, taken into the context.
use Rattle.std.specs.Prelude.{ℕ, if◌then◌else◌, List, [], ◌∷◌, ◌++◌, length}
use Rattle.gb_core.specs.declared.place.Place.{Place}
use Rattle.gb_core.specs.declared.refusal.Why.TheVariants.{Shape}
use Rattle.gb_core.specs.declared.ty.Ty.{Ty}
use Rattle.gb_terms.specs.declared.op.Op.TheVariants.{Implies}
use Rattle.gb_terms.specs.declared.op.Read.TheVariants.{Logical}
use Rattle.gb_terms.specs.declared.op.Side.TheVariants.{Bound, Memory}
use Rattle.gb_terms.specs.declared.term.Term.{Term, out-Term}
use Rattle.gb_terms.specs.declared.term.Head.{Head}
use Rattle.gb_terms.specs.declared.term.Head.TheVariants.{Builtin, All, AllMemory, Read}
use Rattle.gb_terms.specs.Make.{node}
use Rattle.gb_walk.specs.declared.change.Change.TheVariants.{OfBound, ToSide}
use Rattle.gb_walk.specs.Change.{term_changed}
use Rattle.gb_goal.specs.Answers.{Answer}
use Rattle.gb_goal.specs.Answers.Answer.{given, refused}
use Rattle.gb_goal.specs.declared.sequent.Sequent.{Sequent}
use Rattle.gb_steps.specs.declared.step.AmbientRule.{AmbientRule}
use Rattle.gb_steps.specs.declared.step.AmbientRule.TheVariants.{Introduce, IntroduceMemory}
use Rattle.gb_amb.specs.Quantified.{goal_quantifies_modules}

-- a hypothesis more, and another conclusion
abbrev pub with_premise : Sequent → List ℕ → Term → Term → Sequent
with_premise q name a f = record q { hyps = q.hyps ++ record { name = name; form = a } ∷ []; conclusion = f }

-- the variable behind those of the context
abbrev pub next_variable : Sequent → Ty → Term
next_variable q u = node (Read (Logical (length q.logical))) [] u

-- the body of a `forall`, about a variable more
abbrev pub with_variable : Sequent → List ℕ → Ty → Term → Sequent
with_variable q name u f =
    record q {
      logical = q.logical ++ record { name = name; ty = u } ∷ [];
      conclusion = term_changed f (OfBound 0 (next_variable q u) ∷ []);
    }

-- the body of a `forall` over memories, about a memory more
abbrev pub with_memory : Sequent → List ℕ → Term → Sequent
with_memory q name f =
    record q {
      memories = q.memories ++ name ∷ [];
      conclusion = term_changed f (ToSide (Bound 0) (Memory (length q.memories)) ∷ []);
    }

-- A goal in a wider context. Beside a quantifier over modules this isn't built.
abbrev pub unless_modules : Place → Sequent → Sequent → Answer (List Sequent)
unless_modules place q wider = if goal_quantifies_modules q then refused Shape place else given (wider ∷ [])

-- The conclusion without its leading quantifier or premise, which is in the context then.
abbrev pub introduced_at : AmbientRule → Place → Sequent → Head → List Term → Answer (List Sequent)
introduced_at (Introduce x) place q (All u) (f ∷ []) = unless_modules place q (with_variable q x u f)
introduced_at (Introduce x) place q (Builtin Implies) (a ∷ f ∷ []) = given (with_premise q x a f ∷ [])
introduced_at (IntroduceMemory x) place q AllMemory (f ∷ []) = unless_modules place q (with_memory q x f)
introduced_at r place q h ts = refused Shape place

abbrev pub introduced : AmbientRule → Place → Sequent → Answer (List Sequent)
introduced r place q = introduced_at r place q (out-Term q.conclusion).head (out-Term q.conclusion).args
