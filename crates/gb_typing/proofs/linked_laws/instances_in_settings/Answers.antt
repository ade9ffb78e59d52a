use Rattle.gb_typing.proofs.ChosenInstances.{instance_runs}
use Rattle.gb_typing.proofs.linked_laws.instances_in_settings.Goals as goal

pub returns : goal.returns
returns c = λ ds scoped i unchosen seen more all r t there m e p f. instance_runs ds scoped i unchosen seen more all r t there m e p f
