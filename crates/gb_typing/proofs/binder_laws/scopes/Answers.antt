use Rattle.gb_typing.proofs.DeclaredModules.{scope_bound, binders_typed, front_typed}
use Rattle.gb_typing.proofs.binder_laws.scopes.Goals as goal

pub returns : goal.returns
returns c = record { typed = scope_bound; binders = binders_typed; before = front_typed }
