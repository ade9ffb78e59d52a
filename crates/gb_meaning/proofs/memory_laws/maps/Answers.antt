use Rattle.gb_meaning.proofs.Maps.{get-set_same, get-set_other, set-set_same, set-set_other, map_same}
use Rattle.gb_meaning.proofs.memory_laws.maps.Goals as goal

pub returns : goal.returns
returns c = record { set_same = get-set_same; set_other = get-set_other; set_twice = set-set_same; sets_commute = set-set_other; equal = map_same }
