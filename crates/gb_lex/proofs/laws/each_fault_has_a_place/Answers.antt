use Rattle.gb_lex.proofs.Cuts.{fault_place}
use Rattle.gb_lex.proofs.laws.each_fault_has_a_place.Goals as goal

pub returns : goal.returns
returns c = fault_place
