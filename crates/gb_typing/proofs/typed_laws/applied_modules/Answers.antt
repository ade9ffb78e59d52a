use Rattle.gb_typing.proofs.Inside.{applied_procedure, applied_suits}
use Rattle.gb_typing.proofs.PutIn.{arguments_are}
use Rattle.gb_typing.proofs.typed_laws.applied_modules.Goals as goal

pub returns : goal.returns
returns x = record {
  procedures = λ c. applied_procedure c.modules;
  suited = λ c. applied_suits c.modules;
  arguments = arguments_are;
}
