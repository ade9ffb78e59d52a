-- Stops of the code.
use Rattle.std.proofs.Common.{◌≡◌, ℕ, Option, Some, None, Result, Err, sym, ap, ◌∙◌, List, subst}
use Rattle.gb_core.specs.declared.refusal.Refused.{Refused}
use Rattle.gb_core.specs.declared.refusal.Refused.TheVariants as refused
use Rattle.gb_dist.specs.declared.whole.Overflow.{Overflow}
use Rattle.gb_dist.specs.Operations.{Operation, first_overflow}
use Rattle.gb_dist.specs.Tables.{IsRefusal, refusal_of}
use Rattle.gb_eval.specs.declared.answer.Stop.{Stop}
use Rattle.gb_eval.specs.declared.answer.Stop.TheVariants as stop
use Rattle.gb_eval.specs.Findings.{Comes, ◌>>=◌, unless, after, Stops, Gives, stop_of}
use Rattle.std.proofs.Common.{◌*◌, ◌<◌, ◌^◌, pos, if◌then◌else◌, arith}
use Rattle.std.proofs.lemmas.Bool.{lt-ltb}
use Rattle.gb_dist.specs.Fractions.{of_whole, over, reduced}
use Rattle.gb_dist.specs.Operations.{over_steps}
use Rattle.gb_dist.proofs.Sizes.{small}
use Rattle.gb_eval.specs.Operators.{chance}
use Rattle.gb_eval.specs.Findings.Finding.{fraction}
use Rattle.gb_eval.specs.Findings.Comes.{found, unknown}

-- a stop stands
pub passes : {A B : Type 0} (c : Comes A) (k : A → Comes B) (e : Stop) → Stops c e → Stops (c >>= k) e
passes c k stop.NoMemory h = tt
passes c k stop.Unknown h = ap (λ z. z >>= k) h
passes c k (stop.Overflow o) h = ap (λ z. z >>= k) h

-- what is found leads on
pub leads_on : {A B : Type 0} (c : Comes A) (k : A → Comes B) (x : A) → c ≡ found x → (c >>= k) ≡ k x
leads_on c k x h = ap (λ z. z >>= k) h

pub stops_as : {A : Type 0} (c d : Comes A) (e : Stop) → c ≡ d → Stops d e → Stops c e
stops_as c d e h s = subst (λ z. Stops z e) (sym h) s

-- the refusal of a call on tables
pub refused_so : {A : Type 0} (os : List Operation) (x : A) (e : Refused) → IsRefusal (first_overflow os) e → Stops (after os x) (stop_of e)
refused_so os x refused.NoMemory h = tt
refused_so os x refused.ReadFault h = absurd h
refused_so {A} os x (refused.Script w p) h = step (first_overflow os) h.0 (h.1, h.2)
  where
    step : (o : Option Overflow) (v : Overflow) → (o ≡ Some v) × (refused.Script w p ≡ refusal_of v) → Stops (unless o x) (stop_of (refused.Script w p))
    step o v h = subst (λ r. Stops (unless o x) (stop_of r)) (sym h.1) (ap (λ z. unless z x) h.0)

pub goes_on : {A : Type 0} (os : List Operation) (x : A) → first_overflow os ≡ None → after os x ≡ found x
goes_on os x h = ap (λ z. unless z x) h

pub gives_as : {A B : Type 0} (view : A → B) (c d : Comes B) (r : Result A Stop) → c ≡ d → Gives view d r → Gives view c r
gives_as view c d r h g = subst (λ z. Gives view z r) (sym h) g

-- what is returned where it stops
pub stops_with : {A B : Type 0} (view : A → B) (c : Comes B) (r : Result A Stop) (e : Stop) → Stops c e → r ≡ Err e → Gives view c r
stops_with view c r e s h = subst (Gives view c) (sym h) s

-- a weight over a denominator, by the operations that compute it
pub chance_by : (w n : ℕ) → 0 < n → n < 2 ^ 127 → chance w n ≡ after (over_steps (of_whole (pos w)) (pos n)) (fraction (reduced (over (of_whole (pos w)) (pos n))))
chance_by w n h l =
    let one : 1 * n ≡ n = omega arith in
    ap (λ b. if b then found (fraction (reduced (pos w, n))) else unknown) (lt-ltb 0 n h)
    ∙ ap (λ k. found (fraction (reduced (pos w, k)))) (sym one)
    ∙ sym (goes_on (over_steps (of_whole (pos w)) (pos n)) (fraction (reduced (over (of_whole (pos w)) (pos n)))) (ap (λ b. if b then None else Some (record { left = pos 1; right = pos n })) (small (pos (1 * n)) (omega arith))))
