use Rattle.std.proofs.Common.{◌≡◌, drop}
use Rattle.std.specs.List.{list_any}
use Rattle.gb_terms.specs.declared.decl.TypedName.{TypedName}
use Rattle.gb_instances.specs.Put.{type_speaks}
use Rattle.gb_instances.proofs.instance.logical_speaks.Given as goal

abbrev pub invariant-loop-x : goal.invariant-loop-x
invariant-loop-x l = list_any (λ (x : TypedName). type_speaks l.name x.ty) (drop l.x-index l.list) ≡ list_any (λ (x : TypedName). type_speaks l.name x.ty) l.list
