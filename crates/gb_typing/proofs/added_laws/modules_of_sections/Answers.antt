use Rattle.std.proofs.Common.{[], ◌∷◌}
use Rattle.gb_meaning.specs.Declared.{abstract_module}
use Rattle.gb_typing.proofs.SequentsAlike.{holds-along}
use Rattle.gb_typing.proofs.SectionsAdded.{goes-beyond}
use Rattle.gb_typing.proofs.LoopsAdded.{loops-along}
use Rattle.gb_typing.proofs.added_laws.modules_of_sections.Goals as goal

pub returns : goal.returns
returns c = record {
  holds = λ ds n b x a q e h. holds-along ((n, abstract_module b) ∷ []) ds (goes-beyond ds n b x a) q e h;
  loops = λ ds n b x a m f e h. loops-along ((n, abstract_module b) ∷ []) ds (goes-beyond ds n b x a) m f e h;
}
