use Rattle.std.proofs.Common.{◌≡◌, drop}
use Rattle.gb_walk.specs.Clash.{excludes}
use Rattle.gb_walk.proofs.clash.excludes.Given as goal

abbrev pub invariant-loop-excluded : goal.invariant-loop-excluded
invariant-loop-excluded l = excludes (drop l.excluded-index l.exclusions) l.«module» l.var ≡ excludes l.exclusions l.«module» l.var
