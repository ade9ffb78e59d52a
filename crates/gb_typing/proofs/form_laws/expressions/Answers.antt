use Rattle.gb_typing.proofs.InMemory.{located_typed, located_value}
use Rattle.gb_typing.proofs.form_laws.expressions.Goals as goal

pub returns : goal.returns
returns x = record { typed = located_typed; value = located_value }
