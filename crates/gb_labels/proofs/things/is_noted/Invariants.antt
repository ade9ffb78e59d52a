use Rattle.std.proofs.Common.{◌≡◌, drop}
use Rattle.gb_labels.specs.Things.{is_noted}
use Rattle.gb_labels.proofs.things.is_noted.Given as goal

abbrev pub invariant-loop-thing : goal.invariant-loop-thing
invariant-loop-thing l = is_noted (drop l.thing-index l.list) l.source ≡ is_noted l.list l.source
