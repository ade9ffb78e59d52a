use Rattle.gb_typing.proofs.DeclaredProcedures.{calls_declared}
use Rattle.gb_elab_laws.proofs.Models.{no_section}
use Rattle.gb_elab_laws.proofs.footprint_laws.declared_calls.Goals as goal

pub returns : goal.returns
returns c = λ ds scoped firm r p e. calls_declared ds scoped (no_section ds firm) r p e
