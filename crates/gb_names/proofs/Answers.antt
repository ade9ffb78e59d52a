-- What functions return, by the answers that they are to give.
use Rattle.std.proofs.Common.{◌≡◌, Result, ap, sym, subst}
use Rattle.gb_core.specs.declared.place.Place.{Place}
use Rattle.gb_core.specs.declared.refusal.Refused.{Refused}
use Rattle.gb_core.specs.declared.refusal.Refused.TheVariants.{NoMemory, ReadFault, Script}
use Rattle.gb_core.specs.declared.refusal.Why.{Why}
use Rattle.gb_goal.specs.Answers.{Answer, ◌>>=◌, Answers, Fails, Gives}
use Rattle.gb_goal.specs.Answers.Answer.{given, refused}

-- a refusal stands
pub passes : {A B : Type 0} (a : Answer A) (k : A → Answer B) (e : Refused) → Fails a e → Fails (a >>= k) e
passes a k NoMemory h = tt
passes a k ReadFault h = h
passes a k (Script w p) h = ap (λ z. z >>= k) h

-- what is given leads on
pub leads_on : {A B : Type 0} (a : Answer A) (k : A → Answer B) (x : A) → a ≡ given x → (a >>= k) ≡ k x
leads_on a k x h = ap (λ z. z >>= k) h

pub answers_as : {A : Type 0} (a b : Answer A) (r : Result A Refused) → a ≡ b → Answers b r → Answers a r
answers_as a b r e h = subst (λ z. Answers z r) (sym e) h

pub gives_as : {A B : Type 0} (view : A → B) (a b : Answer B) (r : Result A Refused) → a ≡ b → Gives view b r → Gives view a r
gives_as view a b r e h = subst (λ z. Gives view z r) (sym e) h

pub fails_as : {A : Type 0} (a b : Answer A) (e : Refused) → a ≡ b → Fails b e → Fails a e
fails_as a b e i h = subst (λ z. Fails z e) (sym i) h

-- the refusal itself
pub refuses_as : {A : Type 0} (a : Answer A) (e : Refused) (w : Why) (p : Place) → a ≡ refused w p → e ≡ Script w p → Fails a e
refuses_as a e w p h i = subst (Fails a) (sym i) h
