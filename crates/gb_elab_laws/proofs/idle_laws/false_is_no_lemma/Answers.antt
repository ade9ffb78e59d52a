use Rattle.gb_elab_laws.proofs.Falsehood.{no_lemma}
use Rattle.gb_elab_laws.proofs.idle_laws.false_is_no_lemma.Goals as goal

pub returns : goal.returns
returns c = λ ds w size table model e. no_lemma ds w size table model e
