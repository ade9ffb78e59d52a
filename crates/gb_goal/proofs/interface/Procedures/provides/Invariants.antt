use Rattle.std.proofs.Common.{◌≡◌, drop}
use Rattle.gb_goal.specs.Interfaces.{provides, signature_types}
use Rattle.gb_goal.specs.Seen.{types_in}
use Rattle.gb_goal.proofs.interface.Procedures.provides.Given as goal

abbrev pub invariant-loop-s : goal.invariant-loop-s
invariant-loop-s l = provides (types_in l.self) (signature_types (drop l.s-index l.signatures)) ≡ provides (types_in l.self) (signature_types l.signatures)
