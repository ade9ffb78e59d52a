use Rattle.std.proofs.Common.{◌≡◌, true}
use Rattle.gb_prog.proofs.LoopStatements.{statement_left, statement_right}
use Rattle.gb_prog.proofs.loop_laws.one_side.Goals as goal

pub returns : goal.returns
returns x = record {
  left = λ g s e v b h k R n keeps m r. statement_left g s e v b h k (λ x y. R x y ≡ true) n keeps m r;
  right = λ g s e v b h k R m keeps n r. statement_right g s e v b h k (λ x y. R x y ≡ true) m keeps n r;
}
