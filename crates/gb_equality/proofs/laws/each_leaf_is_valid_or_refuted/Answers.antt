use Rattle.gb_equality.proofs.Deciding.{valid_or_refuted}
use Rattle.gb_equality.proofs.laws.each_leaf_is_valid_or_refuted.Goals as goal

pub returns : goal.returns
returns c = valid_or_refuted
