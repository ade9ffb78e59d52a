-- A line that is refused leaves the session as it was, and its refusal is written.
use Rattle.std.proofs.Common.{◌≡◌, ◌∙◌, List, ℕ, Some, Err, refl, ap}
use Rattle.std.proofs.lemmas.Option.{some_pair_parts}
use Rattle.gb_core.specs.Refusal.{code_of, script_of}
use Rattle.gb_core.specs.declared.place.Place.{Place}
use Rattle.gb_core.specs.declared.refusal.Refused.{Refused}
use Rattle.gb_core.specs.declared.refusal.Refused.TheVariants.{NoMemory, ReadFault, Script}
use Rattle.gb_core.specs.declared.refusal.Why.{Why}
use Rattle.gb_goal.specs.Answers.{Answer}
use Rattle.gb_goal.specs.Answers.Answer.{refused}
use Rattle.gb_theory.specs.Sessions.{IsDue}
use Rattle.gb_session.specs.History.{History}
use Rattle.gb_session.specs.Commands.{EntryLeads, IsLeft}
use Rattle.gb_app.specs.Report.{refused_line}
use Rattle.gb_app.specs.Screens as screens
use Rattle.gb_app.proofs.step.answer.Goals as goal

told : (h next : History) (text : List ℕ) (at : Place) (r : Refused) (w : Why) (p : Place) (line : List ℕ) → IsDue (EntryLeads h text at) r → IsLeft {A = Unit {0}} h next (Err r) → Some (w, p) ≡ script_of r
    → line ≡ refused_line screens.input_name (code_of w) p → (x : Answer History) × EntryLeads h text at x × (next ≡ screens.behind h x) × (line ≡ screens.told x)
told h next text at NoMemory w p line d l e s = absurd cc
told h next text at ReadFault w p line d l e s = absurd cc
told h next text at (Script v q) w p line d l e s =
    let same = some_pair_parts w v p q e in (refused v q, d, l v q refl, s ∙ rw (same.0, same.1) refl)

pub returns-in_ok-line-in-Some : goal.returns-in_ok-line-in-Some
returns-in_ok-line-in-Some c =
    told c.args.session.now c.enter.new.self c.args.line.now c.args.at c.in-Err.refused c.in-Some.why c.in-Some.place c.into_bytes.result.items c.in-Err.ensures.session c.in-Err.ensures.refused c.in-Some.ensures
    (ap (λ v. v.items) c.into_bytes.ensures.value ∙ c.in_ok-line-in-Some.ensures)
