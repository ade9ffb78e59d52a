use Rattle.gb_walk.specs.Raise.{term_raised, instr_raised}
use Rattle.gb_walk.proofs.MadeLists.{MadeArgs, MadeAll}
use Rattle.gb_walk.proofs.raise.+raise.Given as goal

abbrev pub invariant-moved_args-loop-i : goal.invariant-moved_args-loop-i
invariant-moved_args-loop-i l = MadeArgs term_raised l.from l.last l.args l.i l.out

abbrev pub invariant-moved_cmd-loop-i : goal.invariant-moved_cmd-loop-i
invariant-moved_cmd-loop-i l = MadeAll instr_raised l.from l.list l.i l.out
