use Rattle.gb_typing.proofs.LinkedInstances.{plain_read}
use Rattle.gb_typing.proofs.linked_laws.plain_procedures.Goals as goal

pub returns : goal.returns
returns X c = λ read looks base ds scoped final agrees seen more all n f t there m e p h. plain_read read looks base ds final seen all scoped agrees more n f t there m e p h
