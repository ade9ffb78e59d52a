use Rattle.std.proofs.Common.{◌≡◌, drop}
use Rattle.gb_goal.specs.Seen.{types_in}
use Rattle.gb_instances.specs.Fits.{named_as}
use Rattle.gb_instances.proofs.fits.named_as.Given as goal

abbrev pub invariant-loop-s : goal.invariant-loop-s
invariant-loop-s l = named_as (types_in l.procedures) (drop l.s-index l.signatures) l.place ≡ named_as (types_in l.procedures) l.signatures l.place
