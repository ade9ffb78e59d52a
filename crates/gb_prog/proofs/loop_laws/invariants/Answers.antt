use Rattle.std.proofs.Common.{◌≡◌, true}
use Rattle.gb_prog.proofs.LoopStatements.{statement_invariant, statement_certain}
use Rattle.gb_prog.proofs.loop_laws.invariants.Goals as goal

pub returns : goal.returns
returns x = record { every = λ g s e v b good sound I keeps m h. statement_invariant g s e v b good sound (λ n. I n ≡ true) keeps m h; certain = statement_certain }
