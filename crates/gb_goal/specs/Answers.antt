-- What typing, rules and commands answer.
use Rattle.std.specs.Prelude.{◌≡◌, ◌==◌, if◌then◌else◌, Option, Some, None, Result, Ok, Err}
use Rattle.gb_core.specs.declared.place.Place.{Place}
use Rattle.gb_core.specs.declared.refusal.Refused.{Refused}
use Rattle.gb_core.specs.declared.refusal.Refused.TheVariants.{NoMemory, ReadFault, Script}
use Rattle.gb_core.specs.declared.refusal.Why.{Why}
use Rattle.gb_core.specs.declared.refusal.Why.TheVariants.{Syntax}

-- what is given, or why and where it is refused
pub data Answer (A : Type 0) : Type 0 where
  given : A → Answer A
  refused : Why → Place → Answer A

infixl 10 ◌>>=◌
-- what follows from an answer; a refusal stands
abbrev pub ◌>>=◌ : {A B : Type 0} → Answer A → (A → Answer B) → Answer B
(given x) >>= f = f x
(refused w p) >>= f = refused w p

abbrev pub given_or : {A : Type 0} → Option A → Why → Place → Answer A
given_or (Some x) w p = given x
given_or None w p = refused w p

-- a form of the language that isn't built yet; the reader lets none pass
abbrev pub not_built : {A : Type 0} → Place → Answer A
not_built p = refused Syntax p

-- The place of a refusal for which its caller has one. Lines count from 1.
abbrev pub nowhere : Place
nowhere = record { file = 0; line = 0; col = 0 }

-- a refusal without a place of its own stands at this one
abbrev pub placed_at : {A : Type 0} → Place → Answer A → Answer A
placed_at place (given x) = given x
placed_at place (refused why at) = refused why (if at.line == 0 then place else at)

-- A refusal of the code is this one, or want of memory.
abbrev pub Refuses : Why → Place → Refused → Type 0
Refuses w p NoMemory = Unit {0}
Refuses w p ReadFault = ⊥
Refuses w p (Script v q) = (v ≡ w) × (q ≡ p)

-- A refusal of the code is the answer, or want of memory.
abbrev pub Fails : {B : Type 0} → Answer B → Refused → Type 0
Fails a NoMemory = Unit {0}
Fails a ReadFault = ⊥
Fails a (Script w p) = a ≡ refused w p

-- What a function returned, seen by view, is the answer, unless memory ran out.
abbrev pub Gives : {A B : Type 0} → (A → B) → Answer B → Result A Refused → Type 0
Gives view a (Ok x) = a ≡ given (view x)
Gives view a (Err e) = Fails a e

-- What a function returned is the answer, unless memory ran out.
abbrev pub Answers : {A : Type 0} → Answer A → Result A Refused → Type 0
Answers a r = Gives (λ x. x) a r
