use Rattle.std.proofs.Common.{refl}
use Rattle.gb_closing_laws.specs.Settings.{with_labels}
use Rattle.gb_closing_laws.proofs.LabelsApart.{labels_apart}
use Rattle.gb_closing_laws.proofs.Settings.{label_values, same_values, means_same}
use Rattle.gb_closing_laws.proofs.setting_laws.settings_with_labels.Goals as goal

pub returns : goal.returns
returns c = record {
  labels = λ own num g a. label_values own num g.types a;
  others = λ own num g t k. same_values own num g t k;
  apart = λ own num g es w. labels_apart (with_labels own num g).types own (λ a. (num a, refl)) es w;
  terms = λ own num g e k s. means_same own num g e k s;
}
