use Rattle.gb_elab_laws.proofs.AllGood.{all_good}
use Rattle.gb_elab_laws.proofs.variant_laws.programs.Goals as goal

pub returns : goal.returns
returns c = all_good
