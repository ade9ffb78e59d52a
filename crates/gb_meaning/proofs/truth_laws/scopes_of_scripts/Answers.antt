use Rattle.gb_meaning.proofs.Scopes as scopes
use Rattle.gb_meaning.proofs.truth_laws.scopes_of_scripts.Goals as goal

pub returns : goal.returns
returns c = record { lemma = λ ds n q bs s h. scopes.gained_lemma ds n q bs s h; proof = λ ds n p s h. scopes.gained_proof ds n p s h; others = λ ds added k s. scopes.gained_others ds added k s }
