use Rattle.gb_prog.proofs.Reached.{loops_append, loops_if, loops_while}
use Rattle.gb_prog.proofs.loop_laws.reached_loops.Goals as goal

pub returns : goal.returns
returns x = record { sequence = loops_append; branch = loops_if; repetition = loops_while }
