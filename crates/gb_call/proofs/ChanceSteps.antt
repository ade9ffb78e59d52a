-- Goals behind one, where there are none.
use Rattle.std.proofs.Common.{List}
use Rattle.gb_core.specs.declared.refusal.Refused.{Refused}
use Rattle.gb_core.specs.declared.refusal.Refused.TheVariants.{NoMemory, ReadFault, Script}
use Rattle.gb_goal.specs.Answers.{Answer, Fails}
use Rattle.gb_goal.specs.Answers.Answer.{given, refused}
use Rattle.gb_goal.specs.Goal.{Goal}
use Rattle.gb_goal.specs.Rows.{each_concluding}
use Rattle.gb_goal.specs.declared.sequent.Sequent.{Sequent}
use Rattle.gb_call.specs.Call.{in_front}

-- where goals are refused, so they are behind a further one
pub front_fails : (q : Sequent) (G : Goal) (a : Answer (List Goal)) (e : Refused) → Fails (each_concluding q a) e → Fails (each_concluding q (in_front G a)) e
front_fails q G (given Gs) NoMemory h = tt
front_fails q G (given Gs) ReadFault h = h
front_fails q G (given Gs) (Script w p) h = cc
front_fails q G (refused why place) e h = h
