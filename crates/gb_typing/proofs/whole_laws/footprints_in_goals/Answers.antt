use Rattle.gb_meaning.specs.Footprints.{footprint_read}
use Rattle.gb_meaning.specs.Modules.{no_module}
use Rattle.gb_meaning.specs.Settings.{footprints, with_abstract_footprints}
use Rattle.gb_typing.proofs.ModulesAlike.{footprint-looks}
use Rattle.gb_typing.specs.Scopes.{context_of}
use Rattle.gb_typing.specs.Sequents.{of_sequent}
use Rattle.gb_typing.proofs.ChosenInstances.{seen_in_goals}
use Rattle.gb_typing.proofs.Follows.{footprint_follows}
use Rattle.gb_typing.proofs.LinkedInstances.{instance_read}
use Rattle.gb_typing.proofs.ClosedSettings.{touched_is}
use Rattle.gb_typing.proofs.Touched.{goal_touched_closed}
use Rattle.gb_typing.proofs.whole_laws.footprints_in_goals.Goals as goal

pub returns : goal.returns
returns c = λ ds scoped i chosen q fs w k r t there m e p f.
    instance_read footprint_read footprint-looks (with_abstract_footprints ds i.programs (λ n. no_module)) ds (footprints ds i.programs) (of_sequent (context_of ds) q fs)
    (goal_touched_closed ds i scoped chosen q.modules w k) scoped (λ n j e. touched_is ds i.programs chosen.unchosen n) (seen_in_goals ds q fs w) footprint_follows r t there m e p f
