-- A refusal is placed as its answer is.
use Rattle.std.proofs.Common.{◌==◌, Bool, true, false, if◌then◌else◌, List, refl, sym, subst}
use Rattle.gb_core.specs.Refusal.{placed}
use Rattle.gb_core.specs.declared.place.Place.{Place}
use Rattle.gb_core.specs.declared.refusal.Refused.{Refused}
use Rattle.gb_core.specs.declared.refusal.Refused.TheVariants.{NoMemory, ReadFault, Script}
use Rattle.gb_core.specs.declared.refusal.Why.{Why}
use Rattle.gb_goal.specs.Answers.{Answer, Answers, Fails, placed_at}
use Rattle.gb_goal.specs.Answers.Answer.{refused}
use Rattle.gb_goal.specs.declared.sequent.Sequent.{Sequent as Goal}
use Rattle.gb_prog.proofs.subgoals.placed.Goals as goal

by_line : (at : Place) (w : Why) (p : Place) (b : Bool) → Fails {B = List Goal} (refused w (if b then at else p)) (if b then Script w at else Script w p)
by_line at w p true = refl
by_line at w p false = refl

fails_there : (at : Place) (a : Answer (List Goal)) (r : Refused) → Fails a r → Fails (placed_at at a) (placed r at)
fails_there at a NoMemory h = h
fails_there at a ReadFault h = h
fails_there at a (Script w p) h = subst (λ z. Fails (placed_at at z) (placed (Script w p) at)) (sym h) (by_line at w p (p.line == 0))

pub returns-in-Err : goal.returns-in-Err
returns-in-Err c a h = subst (Fails (placed_at c.args.at a)) (sym c.placed.ensures) (fails_there c.args.at a c.in-Err.refused (subst (Answers a) c.in-Err.is h))
