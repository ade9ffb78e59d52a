use Rattle.std.proofs.Common.{◌≡◌, map, drop}
use Rattle.std.specs.List.{list_any}
use Rattle.gb_instances.specs.Put.{type_speaks}
use Rattle.gb_instances.proofs.put.+type_speaks.Given as goal

abbrev pub invariant-any_speaks-loop-part : goal.invariant-any_speaks-loop-part
invariant-any_speaks-loop-part l = list_any (λ b. b) (map (type_speaks l.name) (drop l.part-index l.parts)) ≡ list_any (λ b. b) (map (type_speaks l.name) l.parts)
