use Rattle.std.proofs.Common.{◌≡◌, ◌++◌, drop}
use Rattle.gb_mods.specs.Footprint.{signed}
use Rattle.gb_mods.proofs.footprint.signed.Given as goal

abbrev pub invariant-loop-signature : goal.invariant-loop-signature
invariant-loop-signature l = l.all ++ signed l.module (drop l.signature-index l.list) ≡ signed l.module l.list
