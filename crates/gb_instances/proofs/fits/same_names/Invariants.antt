use Rattle.std.proofs.Common.{◌≡◌, drop}
use Rattle.gb_instances.specs.Fits.{same_names}
use Rattle.gb_instances.proofs.fits.same_names.Given as goal

abbrev pub invariant-loop-x : goal.invariant-loop-x
invariant-loop-x l = same_names (drop l.x-index l.left) l.others ≡ same_names l.left l.right
