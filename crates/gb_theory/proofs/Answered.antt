-- Answers one after another.
use Rattle.std.proofs.Common.{◌≡◌, ℕ, ap, sym, refl, Option, Some, None}
use Rattle.std.specs.Prelude.{Result, Ok, Err}
use Rattle.gb_core.specs.declared.place.Place.{Place}
use Rattle.gb_core.specs.declared.refusal.Refused.{Refused}
use Rattle.gb_core.specs.declared.refusal.Refused.TheVariants.{NoMemory, ReadFault, Script}
use Rattle.gb_goal.specs.Answers.{Answer, ◌>>=◌, Fails, Gives}
use Rattle.gb_goal.specs.Answers.Answer.{given}
use Rattle.gb_theory.specs.Limits.{limited}
use Rattle.gb_theory.specs.Commands.{within}
use Rattle.gb_theory.specs.Sessions.{IsDue, Meets}

-- what follows from what is given
pub then_given : {A B : Type 0} (f : A → Answer B) (a : Answer A) (x : A) → a ≡ given x → (a >>= f) ≡ f x
then_given f a x e = ap (λ y. y >>= f) e

-- a limit that isn't passed
pub within_given : (limit : Option ℕ) (place : Place) → Ok tt ≡ limited limit place → within limit place ≡ given tt
within_given None place h = refl
within_given (Some n) place h = absurd (cc)

-- a refusal of what is one of the wanted answers
is_due : {A : Type 0} (P : Answer A → Type 0) (a : Answer A) (e : Refused) → Fails a e → ((x : Answer A) → x ≡ a → P x) → IsDue P e
is_due P a NoMemory h wanted = tt
is_due P a ReadFault h wanted = h
is_due P a (Script why place) h wanted = wanted _ (sym h)

-- what is given is one of the wanted answers
pub gives_meets : {A B : Type 0} (view : A → B) (P : Answer B → Type 0) (a : Answer B) (r : Result A Refused)
    → Gives view a r → ((x : Answer B) → x ≡ a → P x) → Meets view P r
gives_meets view P a (Ok x) h due = due (given (view x)) (sym h)
gives_meets view P a (Err e) h due = is_due P a e h due
