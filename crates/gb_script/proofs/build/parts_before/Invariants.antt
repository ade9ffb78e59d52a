use Rattle.std.proofs.Common.{◌≡◌, ◌++◌, length, map}
use Rattle.gb_script.specs.Value.{part_of}
use Rattle.gb_script.proofs.build.parts_before.Given as goal

abbrev pub invariant-loop-value : goal.invariant-loop-value
invariant-loop-value l = map (λ v. part_of l.fn.place v) l.rest ++ l.all ≡ map (λ v. part_of l.fn.place v) l.fn.values ++ l.fn.behind

abbrev pub decreases-loop-value : goal.decreases-loop-value
decreases-loop-value l = length l.rest
