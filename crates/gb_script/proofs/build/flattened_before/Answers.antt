use Rattle.gb_script.proofs.Stacks.{flat_moved}
use Rattle.gb_script.proofs.build.flattened_before.Goals as goal

pub loop-value-preserved : goal.loop-value-preserved
loop-value-preserved c = flat_moved c.loop-value.rest c.pop.new.self c.in-Some.value c.loop-value.all c.in_ok-all.all _ c.in-Some.ensures c.in_ok-all.ensures c.loop-value.invariant
