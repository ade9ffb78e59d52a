use Rattle.std.proofs.Common.{◌≡◌, ◌+◌, ◌++◌, drop}
use Rattle.gb_prog.specs.Assigned.{parts_from}
use Rattle.gb_prog.proofs.assigned.parts_from.Given as goal

abbrev pub invariant-loop-ty : goal.invariant-loop-ty
invariant-loop-ty l = (l.parts ++ parts_from l.tuple l.number (drop l.ty-index l.types) ≡ parts_from l.tuple 1 l.types) × (l.number ≡ l.ty-index + 1)
