use Rattle.std.proofs.Common.{◌≡◌, drop}
use Rattle.gb_closing.specs.Linked.{share}
use Rattle.gb_closing.proofs.linked.share.Given as goal

abbrev pub invariant-loop-variable : goal.invariant-loop-variable
invariant-loop-variable l = share (drop l.variable-index l.a) l.b ≡ share l.a l.b
