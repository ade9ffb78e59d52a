use Rattle.std.proofs.Common.{◌++◌}
use Rattle.gb_arguments.proofs.TypedInstances.{instance_typed}
use Rattle.gb_arguments.proofs.lemma_laws.typed_instances.Goals as goal

pub returns : goal.returns
returns c = λ ds es q t about ks l m. instance_typed ds (ds ++ es) q t about ks l m
