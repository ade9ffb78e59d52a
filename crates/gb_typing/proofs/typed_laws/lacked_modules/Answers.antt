use Rattle.gb_typing.specs.Scopes.{context_of}
use Rattle.gb_typing.specs.Sequents.{of_sequent}
use Rattle.gb_typing.proofs.Growing.{lacked_later}
use Rattle.gb_typing.proofs.InScopes.{placed_in_goal}
use Rattle.gb_typing.proofs.typed_laws.lacked_modules.Goals as goal

pub returns : goal.returns
returns x = λ ds front after n m scoped place q fs w. lacked_later (context_of front) n m (of_sequent (context_of ds) q fs) (placed_in_goal ds front after n m scoped place q fs w)
