use Rattle.gb_typing.proofs.DeclaredProcedures.{calls_typed, declared_is, known_is}
use Rattle.gb_typing.proofs.procedure_laws.known_procedures.Goals as goal

pub returns : goal.returns
returns x = record {
  types = λ ds scoped r. known_is ds scoped r;
  calls = λ ds scoped r p e. calls_typed ds scoped r p e;
  declared = λ ds scoped none r. declared_is ds scoped none r;
}
