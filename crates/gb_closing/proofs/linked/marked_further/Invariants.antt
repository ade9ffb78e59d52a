use Rattle.std.proofs.Common.{◌≡◌, ◌||◌, map, take}
use Rattle.gb_closing.specs.Linked.{share, linked}
use Rattle.gb_closing.proofs.linked.marked_further.Given as goal

abbrev pub invariant-loop-own : goal.invariant-loop-own
invariant-loop-own l =
    l.more ≡ map (λ own. share own l.from || linked own l.all l.marks) (take l.own-index l.all)
