use Rattle.std.proofs.Common.{◌≡◌, drop}
use Rattle.gb_instances.specs.Fits.{first_touched}
use Rattle.gb_instances.proofs.fits.first_touched.Given as goal

abbrev pub invariant-loop-var : goal.invariant-loop-var
invariant-loop-var l = first_touched l.exclusions (drop l.var-index l.list) l.others ≡ first_touched l.exclusions l.list l.others
