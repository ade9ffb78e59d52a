-- A session that keeps nothing runs the commands of a script.
use Rattle.std.proofs.Common.{◌≡◌, ℕ, Bool, true, false, List, Option, Some, None, if◌then◌else◌, refl, ap, sym, subst}
use Rattle.std.specs.Prelude.{Result, Ok, Err, IfOk, IfErr}
use Rattle.gb_core.specs.declared.place.Place.{Place}
use Rattle.gb_core.specs.declared.refusal.Refused.{Refused}
use Rattle.gb_core.specs.declared.refusal.Refused.TheVariants.{NoMemory, ReadFault, Script}
use Rattle.gb_core.specs.declared.refusal.Why.{Why}
use Rattle.gb_core.specs.declared.refusal.Why.TheVariants.{Unclosed}
use Rattle.gb_script.specs.declared.tree.Node.{Node}
use Rattle.gb_script.specs.Tree.{place_of}
use Rattle.gb_goal.specs.Answers.{Answer}
use Rattle.gb_goal.specs.Answers.Answer.{given, refused}
use Rattle.gb_theory.specs.Built.{Session, OpenProof}
use Rattle.gb_theory.specs.Commands.{After, ComesTo, within}
use Rattle.gb_theory.specs.Outcome.{IsEnd, IsOutcome}
use Rattle.gb_theory.specs.Sessions.{IsDue}
use Rattle.gb_theory.specs.Verdicts.{PieceRunsTo, IsVerdict}
use Rattle.gb_state.specs.declared.verdict.Verdict.{Verdict}
use Rattle.gb_state.specs.Verdicts.{IsVerdictAt}
use Rattle.gb_session.specs.History.{History}
use Rattle.gb_session.specs.Commands.{LeadsOn, CommandLeads, TextLeads}
use Rattle.gb_session.proofs.Given.{given_is, nothing_given}

no_limit : (t : Bool) (x : Option ℕ) → t ≡ false → (if t then x else None) ≡ None
no_limit true x e = absurd (cc)
no_limit false x e = refl

-- no limit is met
unlimited : (h : History) (c : Node) (r : Answer History) → h.keeps ≡ false → CommandLeads h c r → LeadsOn h c r
unlimited h c r off leads =
    subst (λ (o : Option ℕ). After (within o (place_of c)) (λ _. LeadsOn h c) r) (no_limit h.keeps _ off) leads

-- what stands behind a command
pub record Goes (h next : History) (r : Answer Session → Type 0) : Type 0 where
  pub comes : r (given next.present.session)
  pub keeps : next.keeps ≡ h.keeps

command_goes : (h next : History) (c : Node) → LeadsOn h c (given next) → Goes h next (ComesTo h.present.session c)
command_goes h next c (given s, comes, e) =
    let is : next ≡ _ = given_is next _ e in
    record {
      comes = subst (λ (n : History). ComesTo h.present.session c (given n.present.session)) (sym is) comes;
      keeps = ap (λ (n : History). n.keeps) is;
    }
command_goes h next c (refused w p, comes, e) = nothing_given w p next (sym e)

command_refused : (h : History) (c : Node) (w : Why) (p : Place) → LeadsOn h c (refused w p) → ComesTo h.present.session c (refused w p)
command_refused h c w p (given s, comes, e) = nothing_given w p _ e
command_refused h c w p (refused v q, comes, e) = subst (ComesTo h.present.session c) (same_refusal w v p q e) comes
  where
    same_refusal : (w v : Why) (p q : Place) → ◌≡◌ {A = Answer History} (refused w p) (refused v q) → ◌≡◌ {A = Answer Session} (refused v q) (refused w p)
    same_refusal w v p q e = cc

-- a command of a script leads to what it comes to
pub piece_goes : (h next : History) (text : List ℕ) (at : Place) → h.keeps ≡ false → TextLeads h text at (given next)
    → Goes h next (PieceRunsTo h.present.session text at)
piece_goes h next text at off (given c, read, leads) =
    let goes = command_goes h next c (unlimited h c (given next) off leads) in
    record { comes = (given c, read, goes.comes); keeps = goes.keeps }
piece_goes h next text at off (refused w p, read, e) = nothing_given w p next (sym e)

-- a command of a script that is refused
pub piece_refused : (h : History) (text : List ℕ) (at : Place) (e : Refused) → h.keeps ≡ false → IsDue (TextLeads h text at) e
    → IsDue (PieceRunsTo h.present.session text at) e
piece_refused h text at NoMemory off due = tt
piece_refused h text at ReadFault off due = due
piece_refused h text at (Script why place) off (given c, read, leads) =
    (given c, read, command_refused h c why place (unlimited h c (refused why place) off leads))
piece_refused h text at (Script why place) off (refused w p, read, e) = (refused w p, read, again why w place p e)
  where
    again : (w v : Why) (p q : Place) → ◌≡◌ {A = Answer History} (refused w p) (refused v q) → ◌≡◌ {A = Answer Session} (refused w p) (refused v q)
    again w v p q e = cc

-- the verdict is that of the end to which the script comes
pub verdict_due : (text : List ℕ) (s : Session) (proof : Option OpenProof) (end : Result Place Refused) (v : Verdict)
    → IfOk end (λ place. (r : Answer Session) → IsEnd s proof place r → IsOutcome text r) → IfErr end (IsDue (IsOutcome text))
    → IsVerdictAt proof s.lemmas end v → IsVerdict text v
verdict_due text s None (Ok place) v on due is = (given s, on (given s) refl, is)
verdict_due text s (Some p) (Ok place) v on due is = (refused Unclosed place, on (refused Unclosed place) refl, is)
verdict_due text s proof (Err (Script why place)) v on due is = (refused why place, due, is)
verdict_due text s proof (Err NoMemory) v on due is = absurd is
verdict_due text s proof (Err ReadFault) v on due is = absurd is

pub verdicts_due : {E : Type 0} (text : List ℕ) (s : Session) (end : Result Place Refused) (v : Result Verdict E)
    → IfOk end (λ place. (r : Answer Session) → IsEnd s s.proof place r → IsOutcome text r) → IfErr end (IsDue (IsOutcome text))
    → IfOk v (IsVerdictAt s.proof s.lemmas end) → IfOk v (IsVerdict text)
verdicts_due text s end (Ok v) on due is = verdict_due text s s.proof end v on due is
verdicts_due text s end (Err e) on due is = tt
