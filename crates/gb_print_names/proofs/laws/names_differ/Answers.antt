use Rattle.gb_print_names.proofs.Differing.{names_differ}
use Rattle.gb_print_names.proofs.laws.names_differ.Goals as goal

pub returns : goal.returns
returns c = names_differ
