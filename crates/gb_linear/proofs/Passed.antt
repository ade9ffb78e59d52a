-- What functions return, where an answer goes on from another one.
use Rattle.std.proofs.Common.{◌≡◌, Result, Err, ap, sym, ◌∙◌, subst}
use Rattle.gb_core.specs.declared.refusal.Refused.{Refused}
use Rattle.gb_core.specs.declared.refusal.Refused.TheVariants.{NoMemory, ReadFault, Script}
use Rattle.gb_goal.specs.Answers.{Answer, ◌>>=◌, Answers, Fails}
use Rattle.gb_goal.specs.Answers.Answer.{given}

pub passes : {A B : Type 0} (a : Answer A) (k : A → Answer B) (e : Refused) → Fails a e → Fails (a >>= k) e
passes a k NoMemory h = tt
passes a k ReadFault h = h
passes a k (Script w p) h = ap (λ z. z >>= k) h

-- a refusal stands
pub refusal_stands : {A B : Type 0} (b : Answer B) (a : Answer A) (k : A → Answer B) (r : Result B Refused) (e : Refused) → b ≡ (a >>= k) → Fails a e → r ≡ Err e → Answers b r
refusal_stands b a k r e is h q = subst (Answers b) (sym q) (subst (λ z. Fails z e) (sym is) (passes a k e h))

-- what is given leads on
pub leads_on : {A B : Type 0} (b : Answer B) (a : Answer A) (k : A → Answer B) (x : A) → b ≡ (a >>= k) → a ≡ given x → b ≡ k x
leads_on b a k x is h = is ∙ ap (λ z. z >>= k) h

pub answers_as : {A : Type 0} (a b : Answer A) (r : Result A Refused) → a ≡ b → Answers b r → Answers a r
answers_as a b r e h = subst (λ z. Answers z r) (sym e) h

pub fails_with : {A : Type 0} (a : Answer A) (r : Result A Refused) (e : Refused) → Fails a e → r ≡ Err e → Answers a r
fails_with a r e h q = subst (Answers a) (sym q) h
