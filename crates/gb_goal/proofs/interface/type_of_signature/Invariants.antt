use Rattle.std.proofs.Common.{◌≡◌, drop}
use Rattle.gb_goal.specs.Interfaces.{found, signature_types}
use Rattle.gb_goal.proofs.interface.type_of_signature.Given as goal

abbrev pub invariant-loop-s : goal.invariant-loop-s
invariant-loop-s l = found (signature_types (drop l.s-index l.signatures)) l.name ≡ found (signature_types l.signatures) l.name
