use Rattle.gb_walk.specs.Change.{term_changed, instr_changed}
use Rattle.gb_walk.proofs.MadeLists.{MadeArgs, MadeAll}
use Rattle.gb_walk.proofs.walk.+walk.Given as goal

abbrev pub invariant-made_args-loop-i : goal.invariant-made_args-loop-i
invariant-made_args-loop-i l = MadeArgs term_changed l.changes l.last l.args l.i l.out

abbrev pub invariant-made_cmd-loop-i : goal.invariant-made_cmd-loop-i
invariant-made_cmd-loop-i l = MadeAll instr_changed l.changes l.list l.i l.out
