use Rattle.std.proofs.Common.{◌≡◌, drop}
use Rattle.std.specs.List.{list_all}
use Rattle.gb_linear.specs.Closing.{is_allowed}
use Rattle.gb_linear.proofs.apply.are_allowed.Given as goal

abbrev pub invariant-loop-a : goal.invariant-loop-a
invariant-loop-a l = list_all is_allowed (drop l.a-index l.assumptions) ≡ list_all is_allowed l.assumptions
