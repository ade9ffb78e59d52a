use Rattle.std.proofs.Common.{◌≡◌, true}
use Rattle.gb_dist.specs.Coupling.{Passes}
use Rattle.gb_meaning.specs.Commands.{statements}
use Rattle.gb_prog.proofs.Couplings.{runs_product, run_left_alone, run_right_alone}
use Rattle.gb_prog.proofs.coupling_laws.independence.Goals as goal

pub returns : goal.returns
returns x = record {
  both = λ g s is js h k u v I J R related m n x y. runs_product g s (statements g is) (statements g js) h k u v (λ z. I z ≡ true) (λ z. J z ≡ true) (Passes R) related m n x y;
  left = λ g s is h u R m n k. run_left_alone g s (statements g is) h u (Passes R) m n k;
  right = λ g s is h u R m n k. run_right_alone g s (statements g is) h u (Passes R) m n k;
}
