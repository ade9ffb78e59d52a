use Rattle.gb_script.proofs.Sorted.{one_sorted, trees_sorted}
use Rattle.gb_script.proofs.laws.texts_spell_sorts.Goals as goal

pub returns-clause-some : goal.returns-clause-some
returns-clause-some c = λ l sorts g ok n s w kinds t steps d. let o = one_sorted l t sorts g ok n s w kinds steps d in (o.0, (steps, d, o.1))

pub returns-clause-sorted : goal.returns-clause-sorted
returns-clause-sorted c = trees_sorted
