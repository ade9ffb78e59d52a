use Rattle.std.proofs.Common.{◌≡◌, drop}
use Rattle.gb_mods.specs.Asked.{signature_of}
use Rattle.gb_mods.proofs.asked.signature_named.Given as goal

abbrev pub invariant-loop-s : goal.invariant-loop-s
invariant-loop-s l = signature_of (drop l.s-index l.signatures) l.name ≡ signature_of l.signatures l.name
