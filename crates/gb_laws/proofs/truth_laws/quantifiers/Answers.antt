use Rattle.gb_meaning.proofs.Truths.{true_all, true_some, true_all_memory, true_some_memory}
use Rattle.gb_laws.proofs.truth_laws.quantifiers.Goals as goal

pub returns : goal.returns
returns c = record { each_value = true_all; some_value = true_some; each_memory = true_all_memory; some_memory = true_some_memory }
