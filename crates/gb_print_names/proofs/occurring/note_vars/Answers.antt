use Rattle.gb_print_names.specs.Occurring.{local}
use Rattle.gb_print_names.proofs.Lists.{each_more}
use Rattle.gb_print_names.proofs.occurring.note_vars.Goals as goal

pub loop-x-preserved : goal.loop-x-preserved
loop-x-preserved c = each_more _ c.loop-x.x-index c.x-item.result c.loop-x-test.true c.x-item.is local c.loop-x.names _ _ c.in_ok-note_var.ensures c.loop-x.invariant
