use Rattle.gb_typing.specs.Scopes.{context_of}
use Rattle.gb_typing.specs.Sequents.{of_sequent}
use Rattle.gb_typing.proofs.InScopes.{placed_in_goal, placed_procedure}
use Rattle.gb_typing.proofs.typed_laws.known_modules.Goals as goal

pub returns : goal.returns
returns x = λ ds front after n m scoped place q fs w. placed_procedure (context_of front) n m (of_sequent (context_of ds) q fs) (placed_in_goal ds front after n m scoped place q fs w)
