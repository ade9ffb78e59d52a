use Rattle.gb_elab_laws.proofs.NamesGiven.{entries_unblank, lemma_unblank, module_unblank, statement_unblank}
use Rattle.gb_elab_laws.proofs.declaration_laws.names.Goals as goal

pub returns : goal.returns
returns x = record { entries = entries_unblank; modules = module_unblank; lemmas = lemma_unblank; statements = statement_unblank }
