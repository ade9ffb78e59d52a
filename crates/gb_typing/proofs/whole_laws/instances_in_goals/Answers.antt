use Rattle.gb_typing.specs.Scopes.{context_of}
use Rattle.gb_typing.specs.Sequents.{of_sequent}
use Rattle.gb_typing.proofs.ChosenInstances.{instance_runs, seen_in_goals}
use Rattle.gb_typing.proofs.ClosedSettings.{goal_closed}
use Rattle.gb_typing.proofs.whole_laws.instances_in_goals.Goals as goal

pub returns : goal.returns
returns c = λ ds scoped i chosen q fs w k r t there m e p f.
    instance_runs ds scoped i chosen.unchosen (of_sequent (context_of ds) q fs) (seen_in_goals ds q fs w) (goal_closed ds i scoped chosen q.modules w k) r t there m e p f
