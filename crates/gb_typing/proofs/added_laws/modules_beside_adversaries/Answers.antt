use Rattle.gb_typing.proofs.SequentsAlike.{holds-along}
use Rattle.gb_typing.proofs.ModulesAdded.{goes-with, true-with}
use Rattle.gb_typing.proofs.LoopsAdded.{loops-along}
use Rattle.gb_typing.proofs.added_laws.modules_beside_adversaries.Goals as goal

pub returns : goal.returns
returns c = record {
  truth = λ ds es s o w size table h q k. true-with ds es s o w size table h q k;
  holds = λ ds es s a q e h. holds-along es ds (goes-with ds es s a) q e h;
  loops = λ ds es s a m f e x. loops-along es ds (goes-with ds es s a) m f e x;
}
