use Rattle.gb_dist.specs.Coupling.{Passes}
use Rattle.gb_prog.proofs.Couplings.{alike_ends, alike_chances, alike_left, alike_right}
use Rattle.gb_prog.proofs.coupling_laws.alike_programs.Goals as goal

pub returns : goal.returns
returns x = record {
  every = alike_ends;
  chances = alike_chances;
  left = λ g s a b h k same R l d p m x. alike_left g s a b h k same (Passes R) l d p m x;
  right = λ g s a b h k same R l d p m x. alike_right g s a b h k same (Passes R) l d p m x;
}
