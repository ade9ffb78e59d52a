use Rattle.gb_dist.proofs.Masses.{mass-bind, mass-dmap, mass-scale}
use Rattle.gb_dist.proofs.list_laws.masses.Goals as goal

pub returns : goal.returns
returns g c = record {
  of_bind = λ l k f. mass-bind l k f;
  of_map = λ m l f. mass-dmap m l f;
  of_scale = λ w l f. mass-scale w l f;
}
