use Rattle.gb_elab_laws.proofs.Scopes.{lemma_added}
use Rattle.gb_elab_laws.proofs.declaration_laws.lemmas.Goals as goal

pub returns : goal.returns
returns x = lemma_added
