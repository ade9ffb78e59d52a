use Rattle.gb_script.proofs.Sorted.{builds_sorts}
use Rattle.gb_script.proofs.laws.derivations_build_sorts.Goals as goal

pub returns : goal.returns
returns c = λ l t sorts g ok ss at kinds steps d. builds_sorts l t sorts g ok d
