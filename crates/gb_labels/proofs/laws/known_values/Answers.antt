use Rattle.gb_labels.proofs.Memories.{all_held, known_value}
use Rattle.gb_labels.proofs.laws.known_values.Goals as goal

pub returns : goal.returns
returns c = record { all = all_held; value = known_value }
