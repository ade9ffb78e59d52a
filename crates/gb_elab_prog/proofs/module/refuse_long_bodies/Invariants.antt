use Rattle.std.proofs.Common.{◌≡◌, drop}
use Rattle.gb_elab_prog.specs.Modules.{all_short}
use Rattle.gb_elab_prog.proofs.module.refuse_long_bodies.Given as goal

abbrev pub invariant-loop-item : goal.invariant-loop-item
invariant-loop-item l = all_short (drop l.item-index l.items) ≡ all_short l.items
