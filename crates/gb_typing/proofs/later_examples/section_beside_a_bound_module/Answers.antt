use Rattle.gb_typing.proofs.HiddenModule.{section-added, still-holds}
use Rattle.gb_typing.proofs.later_examples.section_beside_a_bound_module.Goals as goal

pub returns : goal.returns
returns c = record { added = section-added; holds = still-holds }
