use Rattle.gb_typing.proofs.Provides.{provides_through}
use Rattle.gb_typing.proofs.typed_laws.provides_through.Goals as goal

pub returns : goal.returns
returns x = provides_through
