use Rattle.std.proofs.Common.{refl}
use Rattle.gb_typing.specs.Scopes.{context_of}
use Rattle.gb_typing.specs.Sequents.{of_sequent}
use Rattle.gb_goal.specs.Instances.{name_of}
use Rattle.gb_typing.proofs.InScopes.{placed_in_goal, instance_here, type_here}
use Rattle.gb_typing.proofs.typed_laws.instances_in_goals.Goals as goal

pub returns : goal.returns
returns x = record {
  typed = λ ds front after m r scoped place p e q fs w t h. instance_here (context_of front) (name_of r.module) m (of_sequent (context_of ds) q fs)
      (placed_in_goal ds front after (name_of r.module) m scoped place q fs w) r.name p e r.module refl t h;
  of_type = λ ds front after m r scoped place p e q fs w t h. type_here (context_of front) (name_of r.module) m (of_sequent (context_of ds) q fs)
      (placed_in_goal ds front after (name_of r.module) m scoped place q fs w) r.name p e r.module refl t h;
}
