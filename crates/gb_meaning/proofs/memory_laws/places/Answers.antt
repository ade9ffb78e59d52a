use Rattle.gb_meaning.proofs.Numberings.{lawful}
use Rattle.gb_meaning.proofs.Types.{values_finite}
use Rattle.gb_meaning.proofs.memory_laws.places.Goals as goal

pub returns : goal.returns
returns c = record { value_at_place = λ t ty. (lawful t ty).has_at; place_of_value = λ t ty. (lawful t ty).place_at; place_below = λ t ty. (lawful t ty).below; finite = values_finite; value_of_place = λ t ty. (lawful t ty).at_place }
