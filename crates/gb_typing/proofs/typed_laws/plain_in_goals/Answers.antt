use Rattle.gb_typing.specs.Scopes.{context_of}
use Rattle.gb_typing.specs.Sequents.{of_sequent}
use Rattle.gb_typing.proofs.InScopes.{placed_in_goal, plain_here, plain_type_here}
use Rattle.gb_typing.proofs.typed_laws.plain_in_goals.Goals as goal

pub returns : goal.returns
returns x = record {
  typed = λ ds front after n m scoped place q fs w none f p e. plain_here (context_of front) n m (of_sequent (context_of ds) q fs) (placed_in_goal ds front after n m scoped place q fs w) f p e none;
  of_type = λ ds front after n m scoped place q fs w none f p e. plain_type_here (context_of front) n m (of_sequent (context_of ds) q fs) (placed_in_goal ds front after n m scoped place q fs w) f p e none;
}
