use Rattle.gb_typing.proofs.Formed.{formed}
use Rattle.gb_typing.proofs.Erased.{erased_typed}
use Rattle.gb_typing.proofs.Sound.{procedures_sound, sound_form}
use Rattle.gb_typing.proofs.term_laws.typed_terms.Goals as goal

pub returns : goal.returns
returns x = record {
  formed = formed;
  types = erased_typed;
  sound = λ c g f t w. sound_form g c (procedures_sound c g f) t w;
}
