use Rattle.std.proofs.Common.{◌≡◌, ◌++◌, drop}
use Rattle.gb_instances.specs.Fits.{restrictions_among}
use Rattle.gb_instances.proofs.fits.restrictions.Given as goal

abbrev pub invariant-loop-i : goal.invariant-loop-i
invariant-loop-i l = l.all ++ restrictions_among l.scope (drop l.i l.scope) ≡ restrictions_among l.scope l.scope
