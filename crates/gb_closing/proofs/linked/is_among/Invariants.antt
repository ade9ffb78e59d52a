use Rattle.std.proofs.Common.{◌≡◌, drop}
use Rattle.gb_closing.specs.Linked.{is_among}
use Rattle.gb_closing.proofs.linked.is_among.Given as goal

abbrev pub invariant-loop-variable : goal.invariant-loop-variable
invariant-loop-variable l = is_among (drop l.variable-index l.list) l.r ≡ is_among l.list l.r
