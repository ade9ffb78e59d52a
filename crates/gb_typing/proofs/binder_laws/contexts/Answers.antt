use Rattle.gb_typing.proofs.DeclaredModules.{context_bound}
use Rattle.gb_typing.proofs.binder_laws.contexts.Goals as goal

pub returns : goal.returns
returns c = context_bound
