use Rattle.std.proofs.Common.{◌+◌, ◌++◌, drop, ap, ◌∙◌}
use Rattle.gb_trans.specs.Beside.{bound_modules, bound_name}
use Rattle.gb_trans.proofs.BoundNames.{bound_next}
use Rattle.gb_trans.proofs.names.note_bound_modules.Goals as goal

pub loop-i-preserved : goal.loop-i-preserved
loop-i-preserved c =
    let ds = c.args.scope.now in
    let l = c.loop-i in
    let noted = c.in_ok-note_bound.ensures ∙ ap (λ e. l.names ++ bound_name e) c.entry_at.ensures in
    ap (λ ns. ns ++ bound_modules (drop (l.i + 1) ds)) noted ∙ bound_next ds l.names l.i ∙ l.invariant
