use Rattle.gb_dist.proofs.Monad.{bind-unit, bind-unit_right, bind-bind, dmap_by_bind}
use Rattle.gb_dist.proofs.list_laws.monad.Goals as goal

pub returns : goal.returns
returns g c = record {
  left_identity = λ a k. bind-unit a k;
  right_identity = λ l. bind-unit_right l;
  associativity = λ l k h. bind-bind l k h;
  mapping = λ f l. dmap_by_bind f l;
}
