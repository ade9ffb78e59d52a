use Rattle.std.proofs.Common.{◌≡◌, Bool, true, false, if◌then◌else◌, List}
use Rattle.std.specs.Prelude.{Result}
use Rattle.gb_core.specs.declared.place.Place.{Place}
use Rattle.gb_core.specs.declared.refusal.Refused.{Refused}
use Rattle.gb_core.specs.declared.refusal.Why.TheVariants.{Shape}
use Rattle.gb_goal.specs.Answers.{Answer, Answers}
use Rattle.gb_goal.specs.Answers.Answer.{given, refused}
use Rattle.gb_goal.specs.declared.sequent.Sequent.{Sequent}
use Rattle.gb_amb.specs.Quantified.{goal_quantifies_modules}
use Rattle.gb_typing.proofs.Given.{refused_at}
use Rattle.gb_trans.proofs.beside.apply.Goals as goal

by_modules : (b : Bool) (place : Place) (u : Unit {0}) (r : Answer (List Sequent)) (result : Result (List Sequent) Refused) → (if b then refused Shape place else given tt) ≡ given u →
    Answers r result → Answers (if b then refused Shape place else r) result
by_modules true place u r result e h = refused_at Shape place u e
by_modules false place u r result e h = h

pub returns : goal.returns
returns c = by_modules (goal_quantifies_modules c.args.goal.now) c.args.place _ _ c.placed.result c.in_ok-refuse_goal_modules.ensures (c.placed.ensures _ c.on_one-made.ensures)
