use Rattle.std.specs.Prelude.{◌++◌}
use Rattle.gb_goal.specs.Binders.{binder_entries}
use Rattle.gb_elab_laws.proofs.Binders.{proved_good_bound, proved_plain_bound}
use Rattle.gb_elab_laws.proofs.OwnLoops as own
use Rattle.gb_elab_laws.proofs.loop_laws.own_loops.Goals as goal

pub returns : goal.returns
returns c = λ ds bs t y s k p a e h.
    own.own_loops (ds ++ binder_entries bs) t (λ r b. proved_good_bound ds bs t y k s r b) (λ r. proved_plain_bound ds bs t r) p a e h
