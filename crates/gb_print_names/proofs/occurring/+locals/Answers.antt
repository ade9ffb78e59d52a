use Rattle.gb_print_names.specs.Occurring.{term_locals}
use Rattle.gb_print_names.proofs.Lists.{each_more}
use Rattle.gb_print_names.proofs.occurring.+locals.Goals as goal

pub note_terms-loop-t-preserved : goal.note_terms-loop-t-preserved
note_terms-loop-t-preserved t c =
    each_more _ c.loop-t.t-index c.t-item.result c.loop-t-test.true c.t-item.is term_locals c.loop-t.names _ _ c.in_ok-note_term.ensures c.loop-t.invariant
