use Rattle.std.proofs.Common.{length}
use Rattle.gb_smt_laws.proofs.Used.{used_holds}
use Rattle.gb_smt_laws.proofs.leaf_laws.equations.Goals as goal

pub returns : goal.returns
returns c = λ g j right l h. used_holds g j right (length l.hyps) l h
