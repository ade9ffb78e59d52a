use Rattle.gb_arguments.proofs.GivenInstances.{instance_holds}
use Rattle.gb_arguments.proofs.lemma_laws.instances.Goals as goal

pub returns : goal.returns
returns c = λ ds es scoped firm speaks unblank q typed about holds ks modules p r e. instance_holds ds es scoped firm speaks unblank q typed about holds ks modules p r e
