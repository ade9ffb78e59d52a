use Rattle.gb_typing.proofs.SameForms.{form_same, truth_same, sound_form}
use Rattle.gb_typing.proofs.setting_laws.forms.Goals as goal

pub returns : goal.returns
returns c = record {
  meaning = λ g h j i fj fi f k w s. form_same g h j i fj fi f k w s;
  truth = λ g h f k w s. truth_same g h f k w s;
  sound = λ g h f k w. sound_form g h f k w;
}
