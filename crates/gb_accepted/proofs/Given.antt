-- What is given after an answer is given by the answer and what goes on from it.
use Rattle.std.proofs.Common.{◌≡◌, Option, Some, None, refl, sym}
use Rattle.gb_core.specs.declared.place.Place.{Place}
use Rattle.gb_core.specs.declared.refusal.Why.{Why}
use Rattle.gb_goal.specs.Answers.{Answer, placed_at}
use Rattle.gb_goal.specs.Answers.Answer.{given, refused}
use Rattle.gb_theory.specs.Built.{OpenProof}
use Rattle.gb_theory.specs.Commands.{After, outside}

-- a refusal gives nothing
pub nothing_given : {A B : Type 0} (w : Why) (p : Place) (x : A) → refused w p ≡ given x → B
nothing_given w p x e = absurd (cc)

pub given_after : {A B : Type 0} (a : Answer A) (P : A → Answer B → Type 0) (y : B) → After a P (given y) → (x : A) × (a ≡ given x) × P x (given y)
given_after (given x) P y h = (x, refl, h)
given_after (refused w p) P y h = nothing_given w p y (sym h)

pub given_outside : (o : Option OpenProof) (p : Place) (x : Unit {0}) → outside o p ≡ given x → o ≡ None
given_outside None p x e = refl
given_outside (Some q) p x e = nothing_given _ _ x e

pub given_placed : {A : Type 0} (a : Answer A) (p : Place) (x : A) → given x ≡ placed_at p a → a ≡ given x
given_placed (given y) p x e = sym e
given_placed (refused w q) p x e = nothing_given _ _ x (sym e)
