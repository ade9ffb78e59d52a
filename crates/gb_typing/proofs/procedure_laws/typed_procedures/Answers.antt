use Rattle.gb_typing.proofs.Located.{typed_there}
use Rattle.gb_typing.proofs.procedure_laws.typed_procedures.Goals as goal

pub returns : goal.returns
returns x = record {
  typed = λ ds scoped q w fs r p e. let k = typed_there ds scoped q w fs r p e in k.typed;
  of_type = λ ds scoped q w fs r p e. let k = typed_there ds scoped q w fs r p e in k.type;
}
