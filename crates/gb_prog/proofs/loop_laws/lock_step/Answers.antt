use Rattle.std.proofs.Common.{◌≡◌, true}
use Rattle.gb_prog.proofs.LoopStatements.{statements_coupled}
use Rattle.gb_prog.proofs.loop_laws.lock_step.Goals as goal

pub returns : goal.returns
returns x = λ g s e v f w a b h i j k R guards keeps m n r. statements_coupled g s e v f w a b h i j k (λ x y. R x y ≡ true) guards keeps m n r
