use Rattle.gb_script.proofs.Sorted.{sorts_count}
use Rattle.gb_script.proofs.laws.sorts_count.Goals as goal

pub returns : goal.returns
returns c = sorts_count
