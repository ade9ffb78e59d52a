use Rattle.gb_elab_laws.proofs.EndedModules as modules
use Rattle.gb_elab_laws.proofs.loop_laws.ended_modules.Goals as goal

pub returns : goal.returns
returns c = λ ds t y s k p h a e. modules.ended_reaches ds t y s k p h a e
