use Rattle.gb_meaning.proofs.Scopes as scopes
use Rattle.gb_meaning.proofs.truth_laws.sound_scopes.Goals as goal

pub returns : goal.returns
returns c = λ ds n d. scopes.one_more ds n d
