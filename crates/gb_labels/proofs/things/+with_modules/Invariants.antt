use Rattle.std.proofs.Common.{◌≡◌, map, drop}
use Rattle.std.specs.Option.{option_map}
use Rattle.gb_labels.specs.Things.{all_names, counted, modules_of}
use Rattle.gb_labels.proofs.things.+with_modules.Given as goal

abbrev pub invariant-with_modules_of-loop-part : goal.invariant-with_modules_of-loop-part
invariant-with_modules_of-loop-part l =
    option_map (counted l.counts) (all_names (map modules_of (drop l.part-index l.parts))) ≡ option_map (counted l.initial.counts) (all_names (map modules_of l.parts))
