use Rattle.std.proofs.Common.{◌≡◌, map, drop}
use Rattle.std.specs.List.{list_any}
use Rattle.gb_labels.specs.Things.{holds_glob}
use Rattle.gb_labels.proofs.types.+holds_glob.Given as goal

abbrev pub invariant-any_holds_glob-loop-part : goal.invariant-any_holds_glob-loop-part
invariant-any_holds_glob-loop-part l = list_any (λ b. b) (map holds_glob (drop l.part-index l.parts)) ≡ list_any (λ b. b) (map holds_glob l.parts)
