use Rattle.std.proofs.Common.{◌≡◌, false, map, take}
use Rattle.gb_equality.proofs.components.unmarked.Given as goal

abbrev pub invariant-loop-own : goal.invariant-loop-own
invariant-loop-own l = l.marks ≡ map (λ own. false) (take l.own-index l.all)
