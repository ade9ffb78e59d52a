-- The first line with a chain that is too long.
use Rattle.std.specs.Prelude.{◌≡◌, ◌≢◌, ℕ, zero, suc, ◌<◌, List, [], ◌∷◌, ◌++◌, length, take, Result, Ok, Err, IfErr, OnOk}
use Rattle.std.specs.List.{All}
use Rattle.std.proofs.Common.{refl, subst, get_or, arith, inl, inr}
use Rattle.std.proofs.lemmas.List.Elements.{All-head, All-tail, All-push}
use Rattle.gb_core.specs.declared.place.Place.{Place}
use Rattle.gb_core.specs.declared.refusal.Refused.{Refused}
use Rattle.gb_core.specs.declared.refusal.Refused.TheVariants.{NoMemory, ReadFault, Script}
use Rattle.gb_core.specs.declared.refusal.Why.{Why}
use Rattle.gb_core.specs.declared.refusal.Why.TheVariants.{TooMany}
use Rattle.gb_limits.specs.Places.{IsChainPlace}
use Rattle.gb_read_script.specs.declared.goal_lines.ReadLine.{ReadLine}
use Rattle.gb_read_script.specs.declared.goal_lines.ReadGoal.{ReadGoal}
use Rattle.gb_read_script.specs.GoalLines.{IsRefusedFor}
use Rattle.gb_read_script.specs.Goal.{all_lines, IsShort, IsLongPlace, IsTooMany}

-- what a refusal that is no fault of reading tells
pub refused_for : {T : Type 0} (r : Result T Refused) (P : Why → Place → Type 0) → IfErr r (λ e. e ≢ ReadFault)
    → ((why : Why) (place : Place) → r ≡ Err (Script why place) → P why place) → IfErr r (IsRefusedFor P)
refused_for (Ok x) P sound told = tt
refused_for (Err NoMemory) P sound told = tt
refused_for (Err ReadFault) P sound told = absurd (sound refl)
refused_for (Err (Script why place)) P sound told = told why place refl

long_at : (lines : List ReadLine) (i : ℕ) (d : ReadLine) (place : Place) → i < length lines → All IsShort (take i lines)
    → IsChainPlace (get_or lines i d).text (get_or lines i d).steps place → IsLongPlace lines place
long_at [] i d place lt short long = absurd (omega arith)
long_at (l ∷ ls) zero d place lt short long = inl long
long_at (l ∷ ls) (suc i) d place lt short long =
    inr (All-head IsShort l (take i ls) short, long_at ls i d place (omega arith) (All-tail IsShort l (take i ls) short) long)

alone : (l : ReadLine) (place : Place) → IsLongPlace (l ∷ []) place → IsChainPlace l.text l.steps place
alone l place (inl long) = long
alone l place (inr h) = absurd h.1

-- a line of its own
pub long_line : {T : Type 0} (r : Result T Refused) (l : ReadLine) → IfErr r (λ e. e ≢ ReadFault)
    → ((why : Why) (place : Place) → r ≡ Err (Script why place) → (why ≡ TooMany 256) × IsChainPlace l.text l.steps place) → IfErr r (IsRefusedFor (IsTooMany (l ∷ [])))
long_line r l sound told = refused_for r (IsTooMany (l ∷ [])) sound (λ why place e. let h = told why place e in (h.0, inl h.1))

long_before : (lines more : List ReadLine) (place : Place) → IsLongPlace lines place → IsLongPlace (lines ++ more) place
long_before [] more place h = absurd h
long_before (l ∷ ls) more place (inl long) = inl long
long_before (l ∷ ls) more place (inr h) = inr (h.0, long_before ls more place h.1)

long_behind : (lines : List ReadLine) (l : ReadLine) (place : Place) → All IsShort lines → IsChainPlace l.text l.steps place → IsLongPlace (lines ++ l ∷ []) place
long_behind [] l place short long = inl long
long_behind (m ∷ ms) l place short long = inr (All-head IsShort m ms short, long_behind ms l place (All-tail IsShort m ms short) long)

weaker : (e : Refused) (P Q : Why → Place → Type 0) → ((why : Why) (place : Place) → P why place → Q why place) → IsRefusedFor P e → IsRefusedFor Q e
weaker NoMemory P Q f h = tt
weaker ReadFault P Q f h = h
weaker (Script why place) P Q f h = f why place h

-- a line of the context is refused, and those before it are short
pub refused_at : (e : Refused) (goal : ReadGoal) (i : ℕ) (l : ReadLine) → IsRefusedFor (IsTooMany (l ∷ [])) e → i < length goal.context → l ≡ get_or goal.context i l
    → All IsShort (take i goal.context) → IsRefusedFor (IsTooMany (all_lines goal)) e
refused_at e goal i l told lt same short =
    weaker e (IsTooMany (l ∷ [])) (IsTooMany (all_lines goal))
    (λ why place h. (
      h.0,
      long_before goal.context (goal.conclusion ∷ []) place
          (long_at goal.context i l place lt short (subst (λ (m : ReadLine). IsChainPlace m.text m.steps place) same (alone l place h.1))),
    )) told

-- the conclusion is refused
pub refused_behind : {T : Type 0} (r : Result T Refused) (goal : ReadGoal) → IfErr r (IsRefusedFor (IsTooMany (goal.conclusion ∷ []))) → All IsShort goal.context
    → IfErr r (IsRefusedFor (IsTooMany (all_lines goal)))
refused_behind (Ok x) goal told short = tt
refused_behind (Err e) goal told short =
    weaker e (IsTooMany (goal.conclusion ∷ [])) (IsTooMany (all_lines goal))
    (λ why place h. (h.0, long_behind goal.context goal.conclusion place short (alone goal.conclusion place h.1))) told

-- all lines are short
pub short_behind : {T : Type 0} (r : Result T Refused) (goal : ReadGoal) → All IsShort goal.context → OnOk r (IsShort goal.conclusion) → OnOk r (All IsShort (all_lines goal))
short_behind (Ok x) goal context conclusion = All-push IsShort goal.context goal.conclusion context conclusion
short_behind (Err e) goal context conclusion = tt
