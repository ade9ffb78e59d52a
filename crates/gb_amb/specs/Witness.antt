-- A thing that is said to exist, in place of the one that is bound.
use Rattle.std.specs.Prelude.{ℕ, List, [], ◌∷◌}
use Rattle.gb_core.specs.declared.place.Place.{Place}
use Rattle.gb_core.specs.declared.refusal.Why.TheVariants.{Shape}
use Rattle.gb_terms.specs.declared.op.Side.TheVariants.{Bound, Memory}
use Rattle.gb_terms.specs.declared.term.Term.{Term, out-Term}
use Rattle.gb_terms.specs.declared.term.Head.{Head}
use Rattle.gb_terms.specs.declared.term.Head.TheVariants.{Some, SomeMemory}
use Rattle.gb_walk.specs.declared.change.Change.TheVariants.{OfBound, ToSide}
use Rattle.gb_walk.specs.Change.{term_changed}
use Rattle.gb_goal.specs.Answers.{Answer}
use Rattle.gb_goal.specs.Answers.Answer.{given, refused}
use Rattle.gb_goal.specs.declared.sequent.Sequent.{Sequent}
use Rattle.gb_amb.specs.Parts.{concluding}

-- the body of an `exists` with this head and these arguments, about a term
abbrev pub witnessed_at : Term → Place → Sequent → Head → List Term → Answer (List Sequent)
witnessed_at e place q (Some u) (f ∷ []) = given (concluding q (term_changed f (OfBound 0 e ∷ [])) ∷ [])
witnessed_at e place q h ts = refused Shape place

abbrev pub witnessed : Term → Place → Sequent → Answer (List Sequent)
witnessed e place q = witnessed_at e place q (out-Term q.conclusion).head (out-Term q.conclusion).args

-- what the body of a quantifier over memories says of a memory of the context
abbrev pub at_memory : Term → ℕ → Term
at_memory f i = term_changed f (ToSide (Bound 0) (Memory i) ∷ [])

-- the body of an `exists` over memories with this head and these arguments, about a memory of the context
abbrev pub memory_witnessed_at : ℕ → Place → Sequent → Head → List Term → Answer (List Sequent)
memory_witnessed_at i place q SomeMemory (f ∷ []) = given (concluding q (at_memory f i) ∷ [])
memory_witnessed_at i place q h ts = refused Shape place

abbrev pub memory_witnessed : ℕ → Place → Sequent → Answer (List Sequent)
memory_witnessed i place q = memory_witnessed_at i place q (out-Term q.conclusion).head (out-Term q.conclusion).args
