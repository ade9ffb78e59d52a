use Rattle.gb_laws.proofs.Exact.{trying}
use Rattle.gb_laws.proofs.Fair.{is_fair}
use Rattle.gb_laws.proofs.truth_laws.fair_judge.Goals as goal

pub returns : goal.returns
returns c = λ g. (trying g, is_fair g)
