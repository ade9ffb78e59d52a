use Rattle.std.proofs.Common.{refl, ◌∙◌}
use Rattle.gb_meaning.specs.Declared.{declared}
use Rattle.gb_meaning.specs.Modules.{modules_of}
use Rattle.gb_meaning.proofs.Lists.{declared-module}
use Rattle.gb_typing.specs.Scopes.{context_of}
use Rattle.gb_goal.specs.Instances.{name_of}
use Rattle.gb_typing.proofs.LinkedInstances.{instance_read}
use Rattle.gb_typing.proofs.ScopesAlike.{scope_closed}
use Rattle.gb_typing.proofs.whole_laws.instances_in_scripts.Goals as goal

pub returns : goal.returns
returns X c = λ read looks follows ds scoped base alike r t there m e p f.
    instance_read read looks base (declared ds) (modules_of read base (declared ds)) (context_of (declared ds))
    (scope_closed read looks (declared ds) scoped base alike (modules_of read base (declared ds)) (λ k i e. refl))
    scoped (λ k i e. refl) (λ k i e. e) follows r t there m (declared-module ds (name_of r.«module») ∙ e) p f
