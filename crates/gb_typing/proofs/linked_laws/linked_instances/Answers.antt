use Rattle.gb_typing.proofs.LinkedInstances.{instance_read}
use Rattle.gb_typing.proofs.linked_laws.linked_instances.Goals as goal

pub returns : goal.returns
returns X c = λ read looks follows base ds scoped final agrees seen more all r t there m e p f. instance_read read looks base ds final seen all scoped agrees more follows r t there m e p f
