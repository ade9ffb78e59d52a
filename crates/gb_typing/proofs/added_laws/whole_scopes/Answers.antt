use Rattle.gb_typing.proofs.Additions.{lemma-stays, loops-stay}
use Rattle.gb_typing.proofs.added_laws.whole_scopes.Goals as goal

pub returns : goal.returns
returns c = record { lemmas = λ ds es n q s a. lemma-stays ds es n q s a; loops = λ ds es n p s a. loops-stay ds es n p s a }
