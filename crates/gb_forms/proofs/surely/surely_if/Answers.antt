use Rattle.std.proofs.Common.{rules}
use Rattle.gb_forms.proofs.surely.surely_if.Goals as goal

pub returns : goal.returns
returns c = let h = rw c.in_ok-surely.ensures at c.conjunction.ensures in search (rules, h)
