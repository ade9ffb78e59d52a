-- What the steps on conclusions make of goals.
use Rattle.std.specs.Prelude.{◌≡◌, ◌⊎◌, ℕ, if◌then◌else◌, List, [], ◌∷◌, ◌++◌, Result, Ok, Err}
use Rattle.std.specs.List.{AllByRecursion}
use Rattle.gb_core.specs.declared.place.Place.{Place}
use Rattle.gb_core.specs.declared.refusal.Refused.{Refused}
use Rattle.gb_core.specs.declared.refusal.Refused.TheVariants.{NoMemory, ReadFault, Script}
use Rattle.gb_core.specs.declared.refusal.Why.TheVariants.{Shape}
use Rattle.gb_terms.specs.declared.term.Term.{Term, out-Term}
use Rattle.gb_terms.specs.declared.term.Head.{Head}
use Rattle.gb_terms.specs.declared.term.Head.TheVariants.{Some, SomeMemory}
use Rattle.gb_goal.specs.Answers.{Answer}
use Rattle.gb_goal.specs.Answers.Answer.{given, refused}
use Rattle.gb_goal.specs.Goal.{judges_bodies}
use Rattle.gb_goal.specs.declared.sequent.Sequent.{Sequent}
use Rattle.gb_steps.specs.declared.step.AmbientRule.{AmbientRule}
use Rattle.gb_steps.specs.declared.step.AmbientRule.TheVariants.{Assumption, Case, Have, Introduce, IntroduceMemory, Witness, WitnessMemory, Trivial, Done}
use Rattle.gb_meaning.specs.Written.{type_of}
use Rattle.gb_meaning.specs.Declared.{Declarations}
use Rattle.gb_meaning.specs.Holds.{Holds}
use Rattle.gb_typing.specs.Context.{Context}
use Rattle.gb_typing.specs.Typing.{IsTyped, IsForm}
use Rattle.gb_typing.specs.Sequents.{IsTypedSequent}
use Rattle.gb_typing.specs.Scopes.{context_of}
use Rattle.gb_typing.specs.Forms.{implies_form, not_form}
use Rattle.gb_amb.specs.Closed.{IsAmong, IsClosed}
use Rattle.gb_amb.specs.Introduced.{introduced}
use Rattle.gb_amb.specs.Parts.{concluding, by_parts}
use Rattle.gb_amb.specs.Witness.{at_memory, memory_witnessed, witnessed}

-- the goal with one hypothesis more, behind the others
abbrev pub assuming : Sequent → List ℕ → Term → Sequent
assuming q name f = record q { hyps = q.hyps ++ record { name = name; form = f } ∷ [] }

-- where a condition is met the answer is the first one, and where it isn't the second one
abbrev pub Decides : Type 0 → Answer (List Sequent) → Answer (List Sequent) → Answer (List Sequent) → Type 0
Decides P x y r = (P × (r ≡ x)) ⊎ ((P → ⊥) × (r ≡ y))

-- the conclusion where a form is true, and where it isn't
abbrev pub by_cases : Term → Place → Sequent → Answer (List Sequent)
by_cases f place q =
    if judges_bodies (out-Term q.conclusion).head then refused Shape place
    else given (concluding q (implies_form f q.conclusion) ∷ concluding q (implies_form (not_form f) q.conclusion) ∷ [])

-- what a step at a place answers at a goal
abbrev pub IsAnswer : AmbientRule → Place → Sequent → Answer (List Sequent) → Type 0
IsAnswer Assumption place q r = Decides (IsAmong q.hyps q.conclusion) (given []) (refused Shape place) r
IsAnswer (Case f) place q r = r ≡ by_cases f place q
IsAnswer (Have name f) place q r = r ≡ given (concluding q f ∷ assuming q name f ∷ [])
IsAnswer (Introduce x) place q r = r ≡ introduced (Introduce x) place q
IsAnswer (IntroduceMemory x) place q r = r ≡ introduced (IntroduceMemory x) place q
IsAnswer (Witness e) place q r = r ≡ witnessed e place q
IsAnswer (WitnessMemory i) place q r = r ≡ memory_witnessed i place q
IsAnswer Trivial place q r = Decides (IsClosed q) (given []) (given (q ∷ [])) r
IsAnswer Done place q r = Decides (IsClosed q) (given []) (refused Shape place) r
IsAnswer rule place q r = r ≡ by_parts rule place q

-- a typed term of the type of what is said to exist, where this is a value
abbrev pub IsWitness : Context → Term → Head → Type 0
IsWitness c e (Some u) = IsTyped c e × (type_of e ≡ u)
IsWitness c e h = Unit {0}

-- what is said to exist is said of a memory: that is typed there, since the body may read locals of the memory that is bound which this
-- one hasn't
abbrev pub IsMemoryWitness : Context → ℕ → Head → List Term → Type 0
IsMemoryWitness c i SomeMemory (f ∷ []) = IsForm c (at_memory f i)
IsMemoryWitness c i h ts = Unit {0}

-- what a step brings to a goal with this conclusion is typed
abbrev pub IsTypedStep : Context → Term → AmbientRule → Type 0
IsTypedStep c C (Case f) = IsForm c f
IsTypedStep c C (Have name f) = IsForm c f
IsTypedStep c C (Witness e) = IsWitness c e (out-Term C).head
IsTypedStep c C (WitnessMemory i) = IsMemoryWitness c i (out-Term C).head (out-Term C).args
IsTypedStep c C rule = Unit {0}

-- Typed goals, from which a goal follows.
pub record LeadTo (ds : Declarations) (q : Sequent) (qs : List Sequent) : Type 0 where
  pub typed : AllByRecursion (IsTypedSequent (context_of ds)) qs
  pub leads : AllByRecursion (Holds ds) qs → Holds ds q

-- What the code returned is such an answer, unless memory ran out.
abbrev pub Returns : (Answer (List Sequent) → Type 0) → Result (List Sequent) Refused → Type 0
Returns P (Ok qs) = P (given qs)
Returns P (Err NoMemory) = Unit {0}
Returns P (Err ReadFault) = ⊥
Returns P (Err (Script why place)) = P (refused why place)
