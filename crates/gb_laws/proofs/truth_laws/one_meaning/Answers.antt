use Rattle.gb_laws.proofs.Unique.{val_unique, true_under_each}
use Rattle.gb_laws.proofs.truth_laws.one_meaning.Goals as goal

pub returns : goal.returns
returns c = record { meaning = val_unique; truth = true_under_each }
