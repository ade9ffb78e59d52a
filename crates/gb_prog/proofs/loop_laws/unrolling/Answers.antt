use Rattle.gb_prog.proofs.Loops.{unrolls_before}
use Rattle.gb_prog.proofs.LoopStatements.{statement_unrolls}
use Rattle.gb_prog.proofs.loop_laws.unrolling.Goals as goal

pub returns : goal.returns
returns x = record { program = unrolls_before; statements = statement_unrolls }
