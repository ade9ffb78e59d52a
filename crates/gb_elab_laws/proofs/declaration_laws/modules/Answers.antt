use Rattle.gb_elab_laws.proofs.Members.{module_typed, module_free, module_speaks}
use Rattle.gb_elab_laws.proofs.Scopes.{module_added}
use Rattle.gb_elab_laws.proofs.declaration_laws.modules.Goals as goal

pub returns : goal.returns
returns x = record { typed = module_typed; free = module_free; added = module_added; speaks = module_speaks }
