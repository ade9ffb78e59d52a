use Rattle.gb_meaning.proofs.Sounds.{typed_sound_routine, full_link_routine}
use Rattle.gb_meaning.proofs.linking_laws.linked_distributions.Goals as goal

pub returns : goal.returns
returns c = record {
  sound = λ g ss os all gs r h. typed_sound_routine g ss os all gs r h;
  full = λ g os all r h. full_link_routine g os all r h;
}
