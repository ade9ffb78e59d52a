use Rattle.gb_meaning.proofs.Renaming.{names_alike}
use Rattle.gb_meaning.proofs.truth_laws.renamed_contexts.Goals as goal

pub returns : goal.returns
returns c = names_alike
