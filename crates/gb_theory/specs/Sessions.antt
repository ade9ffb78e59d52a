-- What the state of a check stands for, and what its calls answer.
use Rattle.std.specs.Prelude.{◌≡◌, option_map, Result, Ok, Err}
use Rattle.gb_core.specs.declared.place.Place.{Place}
use Rattle.gb_core.specs.declared.refusal.Refused.{Refused}
use Rattle.gb_core.specs.declared.refusal.Refused.TheVariants.{NoMemory, ReadFault, Script}
use Rattle.gb_core.specs.declared.refusal.Why.{Why}
use Rattle.gb_goal.specs.Answers.{Answer}
use Rattle.gb_goal.specs.Answers.Answer.{given, refused}
use Rattle.gb_theory.specs.Built.{Session}
use Rattle.gb_theory.specs.Built as session
use Rattle.gb_state.specs.declared.state.OpenProof.{OpenProof}
use Rattle.gb_state.specs.declared.state.State.{State}

abbrev pub open_of : OpenProof → session.OpenProof
open_of p = record { claim = p.claim; goals = p.goals; fresh = p.fresh }

-- the session that a state stands for
abbrev pub session_of : State → Session
session_of s = record { scope = s.scope; proof = option_map open_of s.proof; lemmas = s.lemmas }

-- A refusal of the code is one that is due. Want of memory is free.
abbrev pub IsDue : {A : Type 0} → (Answer A → Type 0) → Refused → Type 0
IsDue P NoMemory = Unit {0}
IsDue P ReadFault = ⊥
IsDue P (Script why place) = P (refused why place)

-- What a function returned, seen by view, is an answer that is due, unless memory ran out.
abbrev pub Meets : {A B : Type 0} → (A → B) → (Answer B → Type 0) → Result A Refused → Type 0
Meets view P (Ok x) = P (given (view x))
Meets view P (Err e) = IsDue P e

-- What a function did that led to the session `next` is due, unless memory ran out.
abbrev pub Leads : (Answer Session → Type 0) → Session → Result (Unit {0}) Refused → Type 0
Leads P next r = Meets (λ _. next) P r

-- A refusal leaves the session as it was. Where memory runs out nothing is said of it.
abbrev pub IsKept : Session → Session → Result (Unit {0}) Refused → Type 0
IsKept old new r = (why : Why) (place : Place) → r ≡ Err (Script why place) → new ≡ old
