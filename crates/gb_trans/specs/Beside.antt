-- `rcondt` and `rcondf` on one of two programs: the guard is known beside each memory of the other one.
use Rattle.std.specs.Prelude.{ℕ, Bool, true, false, if◌then◌else◌, List, [], ◌∷◌, ◌++◌, length, codes, Option, Some, None}
use Rattle.gb_core.specs.declared.place.Place.{Place}
use Rattle.gb_core.specs.declared.refusal.Why.TheVariants.{Shape}
use Rattle.gb_terms.specs.declared.op.Side.{Side}
use Rattle.gb_terms.specs.declared.op.Side.TheVariants as side
use Rattle.gb_terms.specs.declared.term.Instr.{out-Instr}
use Rattle.gb_terms.specs.declared.term.Term.{Term, out-Term}
use Rattle.gb_walk.specs.declared.change.Change.TheVariants.{ToSide}
use Rattle.gb_walk.specs.Change.{term_changed}
use Rattle.gb_goal.specs.Answers.{Answer, placed_at}
use Rattle.gb_goal.specs.Answers.Answer.{given, refused}
use Rattle.gb_goal.specs.Goal.{Goal, form_of, goal_of}
use Rattle.gb_goal.specs.Goal.Code.{body}
use Rattle.gb_goal.specs.Goal.Goal.{hoare}
use Rattle.gb_goal.specs.Rows.{concluding, refusing}
use Rattle.gb_goal.specs.Scope.{Declarations}
use Rattle.gb_goal.specs.declared.scope.Entry.{Entry}
use Rattle.gb_goal.specs.declared.scope.Entry.TheVariants as entry
use Rattle.gb_goal.specs.declared.sequent.Sequent.{Sequent}
use Rattle.gb_steps.specs.declared.step.Acts.{Acts}
use Rattle.gb_steps.specs.declared.step.Acts.TheVariants as on
use Rattle.gb_print_names.specs.BoundNames.{Name, is_among, primed}
use Rattle.gb_print_names.specs.Occurring.{judgment_locals}
use Rattle.gb_print.specs.GoalText.{context_names}
use Rattle.gb_prog.specs.OneBody.{OneBody, one_body}
use Rattle.gb_amb.specs.Quantified.{goal_quantifies_modules}
use Rattle.gb_call_both.specs.OneSide.{speaks}
use Rattle.gb_trans.specs.Places.{At, on_place, statement_at}
use Rattle.gb_forms.specs.Decided.{deciding}
use Rattle.gb_trans.specs.Decided.{Decision, decision}

-- the other one of two memories
abbrev pub other : Side → Side
other side.Left = side.Right
other side.Right = side.Left
other s = s

-- what is said of two memories, of the own one and of a memory of the context in place of the other one
abbrev pub beside : Side → ℕ → Term → Term
beside s i p = term_changed p (ToSide s side.Own ∷ ToSide (other s) (side.Memory i) ∷ [])

-- a name, with primes behind it while it is one of these
abbrev pub unlike : List Name → Name → Name
unlike ns x = primed (length ns) (is_among ns) x

-- the name of an abstract module, which the lemma of a goal binds
abbrev pub bound_name : Option Entry → List Name
bound_name (Some (entry.AbstractModule b)) = b.name ∷ []
bound_name _ = []

-- the names of the abstract modules that are declared
abbrev pub bound_modules : Declarations → List Name
bound_modules [] = []
bound_modules (d ∷ ds) = bound_name (Some d.1) ++ bound_modules ds

-- the names of a context, and of the modules that its lemma binds
abbrev pub names_around : Declarations → Sequent → List Name
names_around ds q = context_names q ++ bound_modules ds

-- the name of the memory that is added: names of the context, of those modules and of the variables of the programs are others
abbrev pub memory_name : Declarations → Sequent → Name
memory_name ds q = unlike (judgment_locals (out-Term q.conclusion).head (out-Term q.conclusion).args (names_around ds q)) (codes "m")

-- the guard is so after what stands before, from where the precondition holds beside the memory behind those of the context
abbrev pub judged_beside : Bool → Sequent → OneBody → At → Term → Term
judged_beside t q o k e = form_of (hoare (body k.before) (beside o.side (length q.memories) o.pre) (deciding t e))

-- the same as a goal, with that memory
abbrev pub known_beside : Declarations → Bool → Sequent → OneBody → At → Decision → Sequent
known_beside ds t q o k d = record q { memories = q.memories ++ memory_name ds q ∷ []; conclusion = judged_beside t q o k d.guard }

-- that, and the goal with what is left of the statement
abbrev pub by_decision : Declarations → Bool → Sequent → OneBody → At → Option Decision → Answer (List Sequent)
by_decision ds t q o k None = refusing Shape
by_decision ds t q o k (Some d) = given (known_beside ds t q o k d ∷ concluding q (o.goal (k.before ++ (d.left ++ k.rest)) o.pre o.post) ∷ [])

abbrev pub at_place : Declarations → ℕ → Bool → Sequent → OneBody → Answer (List Sequent)
at_place ds n t q o = on_place (λ k. by_decision ds t q o k (decision t k.statement (out-Instr k.statement))) (statement_at n o.list)

-- A program of which the precondition speaks would hide the memory that is its own one: this is refused.
abbrev pub on_body : Declarations → ℕ → Bool → Sequent → Option OneBody → Answer (List Sequent)
on_body ds n t q None = refusing Shape
on_body ds n t q (Some o) = if speaks o.pre then refusing Shape else at_place ds n t q o

-- one of two bodies
abbrev pub one_of_two : Acts → Goal → Option OneBody
one_of_two on.All G = None
one_of_two a G = one_body a G

-- What the step answers at a place. (Beside a quantifier over modules it isn't built.)
abbrev pub beside_answer : Declarations → ℕ → Bool → Acts → Place → Sequent → Answer (List Sequent)
beside_answer ds n t a place q = if goal_quantifies_modules q then refused Shape place else placed_at place (on_body ds n t q (one_of_two a (goal_of q.conclusion)))
