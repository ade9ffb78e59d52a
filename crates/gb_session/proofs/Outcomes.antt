-- What a text comes to, from what its rest comes to.
use Rattle.std.proofs.Common.{◌≡◌, ℕ, zero, suc, ◌-◌, ◌<◌, List, length, take, drop, refl, ap, sym, subst, ◌∙◌, arith}
use Rattle.std.proofs.lemmas.List.{drop-drop, length-drop, take_all}
use Rattle.gb_core.specs.declared.place.Place.{Place}
use Rattle.gb_core.specs.declared.refusal.Refused.{Refused}
use Rattle.gb_core.specs.declared.refusal.Refused.TheVariants.{NoMemory, ReadFault, Script}
use Rattle.gb_core.specs.declared.refusal.Why.TheVariants.{Unclosed}
use Rattle.gb_lex.specs.declared.token.Cut.TheVariants.{Command, End, Rest}
use Rattle.gb_lex.specs.Lex.{cut_of}
use Rattle.gb_lex.specs.PlaceAfter.{place_after}
use Rattle.gb_goal.specs.Answers.{Answer}
use Rattle.gb_goal.specs.Answers.Answer.{given, refused}
use Rattle.gb_theory.specs.Built.{Session, fresh_session}
use Rattle.gb_theory.specs.Outcome.{IsEnd, Ends, Goes, RunsIn, start, IsOutcome}
use Rattle.gb_theory.specs.Sessions.{IsDue}
use Rattle.gb_theory.specs.Verdicts.{PieceRunsTo}
use Rattle.gb_theory.proofs.Cuts.{cut_of-rest, cut_of-End, cut_of-Rest}

-- what the rest of a text comes to from here on, the text comes to
pub record LeadsOn (text : List ℕ) (s : Session) (at : Place) (rest : List ℕ) : Type 0 where
  pub outcome : (n : ℕ) (r : Answer Session) → RunsIn n s at rest r → IsOutcome text r

pub at_start : (text : List ℕ) (s : Session) → s ≡ fresh_session → LeadsOn text s start text
at_start text s is = subst (λ x. LeadsOn text x start text) (sym is) (record { outcome = λ n r h. (n, h) })

-- a piece that is refused
pub refused_there : (text : List ℕ) (s : Session) (at : Place) (from to : ℕ) (e : Refused)
    → LeadsOn text s at (drop from text) → cut_of text from ≡ Command to
    → IsDue (PieceRunsTo s (take (to - from) (drop from text)) at) e → IsDue (IsOutcome text) e
refused_there text s at from to NoMemory on cut runs = tt
refused_there text s at from to ReadFault on cut runs = runs
refused_there text s at from to (Script why place) on cut runs =
    on.outcome (suc zero) (refused why place)
    (subst (λ c. Goes c (RunsIn zero) s at (drop from text) (refused why place)) (sym (cut_of-rest text from to cut))
    (runs.0, runs.1, (refused why place, runs.2, refl)))

rest_after : (text : List ℕ) (from to : ℕ) → from < to → drop (to - from) (drop from text) ≡ drop to text
rest_after text from to h = drop-drop (to - from) from text ∙ ap (λ n. drop n text) (omega arith)

-- a piece that leads to another session
pub goes_on : (text : List ℕ) (s next : Session) (at : Place) (from to : ℕ)
    → LeadsOn text s at (drop from text) → cut_of text from ≡ Command to → from < to
    → PieceRunsTo s (take (to - from) (drop from text)) at (given next)
    → LeadsOn text next (place_after at (take (to - from) (drop from text))) (drop to text)
goes_on text s next at from to on cut less runs = record {
  outcome = λ n r h. on.outcome (suc n) r
      (subst (λ c. Goes c (RunsIn n) s at (drop from text) r) (sym (cut_of-rest text from to cut))
      (runs.0, runs.1, (given next, runs.2, subst (λ rest. RunsIn n next (place_after at (take (to - from) (drop from text))) rest r) (sym (rest_after text from to less)) h)));
}

-- the slice from an offset to the end
slice_to_end : (text : List ℕ) (from : ℕ) → take (length text - from) (drop from text) ≡ drop from text
slice_to_end text from = take_all (length text - from) (drop from text) (omega (arith, length-drop from text))

-- the end
pub at_end : (text : List ℕ) (s : Session) (at : Place) (from : ℕ) (r : Answer Session)
    → LeadsOn text s at (drop from text) → cut_of text from ≡ End
    → IsEnd s s.proof (place_after at (take (length text - from) (drop from text))) r → IsOutcome text r
at_end text s at from r on cut h =
    on.outcome zero r
    (subst (λ c. Ends c s at (drop from text) r) (sym (cut_of-End text from cut))
    (subst (λ rest. IsEnd s s.proof (place_after at rest) r) (slice_to_end text from) h))

-- the end, in a command
pub ended_within : (text : List ℕ) (s : Session) (at : Place) (from : ℕ)
    → LeadsOn text s at (drop from text) → cut_of text from ≡ Rest
    → IsOutcome text (refused Unclosed (place_after at (take (length text - from) (drop from text))))
ended_within text s at from on cut =
    on.outcome zero (refused Unclosed (place_after at (take (length text - from) (drop from text))))
    (subst (λ c. Ends c s at (drop from text) (refused Unclosed (place_after at (take (length text - from) (drop from text))))) (sym (cut_of-Rest text from cut))
    (ap (λ rest. refused Unclosed (place_after at rest)) (slice_to_end text from)))
