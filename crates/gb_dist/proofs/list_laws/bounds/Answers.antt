use Rattle.gb_dist.proofs.Masses.{mass-bind_le, mass-bind_ge, mass-bind_every}
use Rattle.gb_dist.proofs.list_laws.bounds.Goals as goal

pub returns : goal.returns
returns g c = record {
  above = λ l k f n d o h. mass-bind_le {P = g.P.Property.Holds} l k f n d o h;
  below = λ l k f n d o h. mass-bind_ge {P = g.P.Property.Holds} l k f n d o h;
  exact = λ l k f n d o h. mass-bind_every {P = g.P.Property.Holds} l k f n d o h;
}
