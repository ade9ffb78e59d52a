use Rattle.std.proofs.Common.{◌≡◌, drop}
use Rattle.gb_closing.specs.Linked.{linked}
use Rattle.gb_closing.proofs.linked.is_linked.Given as goal

abbrev pub invariant-loop-at : goal.invariant-loop-at
invariant-loop-at l = linked l.own (drop l.at l.all) (drop l.at l.marks) ≡ linked l.own l.all l.marks
