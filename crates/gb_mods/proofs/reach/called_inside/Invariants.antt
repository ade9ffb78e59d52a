use Rattle.std.proofs.Common.{◌≡◌, drop}
use Rattle.gb_mods.specs.Reach.{called_inside}
use Rattle.gb_mods.proofs.reach.called_inside.Given as goal

abbrev pub invariant-loop-q : goal.invariant-loop-q
invariant-loop-q l = called_inside l.scope l.around (drop l.q-index l.around.params) l.«module» l.args l.name ≡ called_inside l.scope l.around l.around.params l.«module» l.args l.name
