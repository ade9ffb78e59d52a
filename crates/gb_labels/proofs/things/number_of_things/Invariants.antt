use Rattle.std.proofs.Common.{◌≡◌, [], drop}
use Rattle.std.specs.Option.{option_map}
use Rattle.gb_labels.specs.Things.{counted, modules_in}
use Rattle.gb_labels.proofs.things.number_of_things.Given as goal

abbrev pub invariant-loop-thing : goal.invariant-loop-thing
invariant-loop-thing l = option_map (counted l.counts) (modules_in (drop l.thing-index l.list)) ≡ option_map (counted []) (modules_in l.list)
