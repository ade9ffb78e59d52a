-- What is given is given by each of its steps.
use Rattle.std.proofs.Common.{◌≡◌, Bool, true, false, if◌then◌else◌, refl, sym}
use Rattle.gb_core.specs.declared.place.Place.{Place}
use Rattle.gb_core.specs.declared.refusal.Why.{Why}
use Rattle.gb_goal.specs.Answers.{Answer, ◌>>=◌, placed_at}
use Rattle.gb_goal.specs.Answers.Answer.{given, refused}

pub nothing_given : {A B : Type 0} (w : Why) (p : Place) (x : A) → refused w p ≡ given x → B
nothing_given w p x e = absurd (cc)

pub given_is : {A : Type 0} (x y : A) → given x ≡ given y → x ≡ y
given_is x y h = cc

pub given_bind : {A B : Type 0} (a : Answer A) (k : A → Answer B) (y : B) → (a >>= k) ≡ given y → (x : A) × (a ≡ given x) × (k x ≡ given y)
given_bind (given x) k y h = (x, refl, h)
given_bind (refused w p) k y h = absurd (cc)

pub given_placed : {A : Type 0} (a : Answer A) (p : Place) (x : A) → given x ≡ placed_at p a → a ≡ given x
given_placed (given y) p x e = sym e
given_placed (refused w q) p x e = nothing_given _ _ x (sym e)

pub if_given : {A : Type 0} (b : Bool) (x : A) (w : Why) (p : Place) (y : A) → (if b then given x else refused w p) ≡ given y → x ≡ y
if_given true x w p y h = given_is x y h
if_given false x w p y h = nothing_given w p y h
