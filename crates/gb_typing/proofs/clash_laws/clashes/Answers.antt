use Rattle.gb_typing.proofs.ClashFree.{one_clear, two_clear}
use Rattle.gb_typing.proofs.clash_laws.clashes.Goals as goal

pub returns : goal.returns
returns x = record { one = one_clear; two = two_clear }
