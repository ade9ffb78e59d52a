use Rattle.std.proofs.Common.{rules}
use Rattle.gb_sim.proofs.ReadSteps.{reads_behind}
use Rattle.gb_sim.proofs.reads.+term_reads.Goals as goal

pub term_reads-returns : goal.term_reads-returns
term_reads-returns t c = let e = reads_behind c.args.term.now c.args.found in search (rules, e)
