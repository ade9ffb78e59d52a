use Rattle.std.proofs.Common.{◌∙◌}
use Rattle.gb_meaning.specs.Declared.{declared}
use Rattle.gb_meaning.proofs.Lists.{declared-module}
use Rattle.gb_typing.specs.Scopes.{context_of}
use Rattle.gb_goal.specs.Instances.{name_of}
use Rattle.gb_typing.proofs.ChosenInstances.{instance_runs}
use Rattle.gb_typing.proofs.ClosedSettings.{setting_closed}
use Rattle.gb_typing.proofs.whole_laws.script_settings.Goals as goal

pub returns : goal.returns
returns c = λ ds scoped i over r t there m e p f.
    instance_runs (declared ds) scoped i over.unchosen (context_of (declared ds)) (λ k j e. e) (setting_closed (declared ds) i scoped over)
    r t there m (declared-module ds (name_of r.«module») ∙ e) p f
