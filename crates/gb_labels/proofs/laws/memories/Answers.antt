use Rattle.gb_labels.proofs.Memories.{all_apart, of_types, exist}
use Rattle.gb_labels.proofs.laws.memories.Goals as goal

pub returns : goal.returns
returns c = record { of_types = of_types; apart = all_apart; exist = exist }
