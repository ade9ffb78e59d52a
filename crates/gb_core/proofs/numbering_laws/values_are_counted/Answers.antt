use Rattle.gb_core.proofs.Orders.{lawful}
use Rattle.gb_core.proofs.numbering_laws.values_are_counted.Goals as goal

pub returns : goal.returns
returns g = record {
  value = λ ty i h. (lawful ty).has_at i h;
  place_of_value = λ ty i h. (lawful ty).place_at i h;
  place = λ ty x h. (lawful ty).below x h;
  value_of_place = λ ty x h. (lawful ty).at_place x h;
}
