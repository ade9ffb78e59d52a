use Rattle.std.proofs.Common.{◌≡◌, drop}
use Rattle.std.specs.List.{list_any}
use Rattle.gb_walk.specs.Clash.{clashes}
use Rattle.gb_instances.proofs.fits.clashes_with.Given as goal

abbrev pub invariant-loop-other : goal.invariant-loop-other
invariant-loop-other l = list_any (clashes l.exclusions l.var) (drop l.other-index l.others) ≡ list_any (clashes l.exclusions l.var) l.others
