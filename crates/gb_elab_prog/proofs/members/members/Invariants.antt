use Rattle.std.proofs.Common.{◌≡◌, drop}
use Rattle.gb_elab_prog.specs.Modules.{with_members}
use Rattle.gb_elab_prog.proofs.members.members.Given as goal

abbrev pub invariant-loop-item : goal.invariant-loop-item
invariant-loop-item l =
    (with_members l.scope l.around l.«module» (drop l.item-index l.items) ≡ with_members l.scope l.around l.fn.empty l.items)
    × (l.«module».name ≡ l.fn.empty.name)
