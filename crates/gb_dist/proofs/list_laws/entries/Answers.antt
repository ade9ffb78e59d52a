use Rattle.gb_dist.proofs.Entries.{On_of_Every, Every_of_On, On-positive, On-unit, On-bind, On-dmap, On-scale, Every-bind, Every-dmap, Every-scale}
use Rattle.gb_dist.proofs.list_laws.entries.Goals as goal

pub returns : goal.returns
returns g c = record {
  split = λ l. (λ o. (On-positive g.P.Property.Holds l o, Every_of_On g.P.Property.Holds l o), λ o. On_of_Every g.P.Property.Holds l o.0 o.1);
  of_unit = λ a p. On-unit g.P.Property.Holds a p;
  of_bind = λ l k o h. On-bind g.P.Property.Holds g.Q.Property.Holds l k o h;
  of_map = λ f l o h. On-dmap {P = g.P.Property.Holds} g.Q.Property.Holds f l h o;
  of_scale = λ w l h o. On-scale g.P.Property.Holds w l h o;
  every_of_bind = λ l k o h. Every-bind g.P.Property.Holds g.Q.Property.Holds l k o h;
  every_of_map = λ f l o h. Every-dmap {P = g.P.Property.Holds} g.Q.Property.Holds f l h o;
  every_of_scale = λ w l o. Every-scale g.P.Property.Holds w l o;
}
