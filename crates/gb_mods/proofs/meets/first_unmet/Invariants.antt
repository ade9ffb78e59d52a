use Rattle.std.proofs.Common.{◌≡◌, drop}
use Rattle.gb_goal.specs.Seen.{types_in}
use Rattle.gb_mods.specs.Meets.{first_unmet}
use Rattle.gb_mods.proofs.meets.first_unmet.Given as goal

abbrev pub invariant-loop-s : goal.invariant-loop-s
invariant-loop-s l = first_unmet (types_in l.procedures) (drop l.s-index l.signatures) ≡ first_unmet (types_in l.procedures) l.signatures
