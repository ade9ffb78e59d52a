use Rattle.std.proofs.Common.{◌≡◌, drop, reverse}
use Rattle.gb_names.specs.Binders.{over_all}
use Rattle.gb_names.proofs.binders.over_all.Given as goal

abbrev pub invariant-loop-x : goal.invariant-loop-x
invariant-loop-x l = over_all l.quantifier (reverse (drop l.x-index l.bindings)) l.form ≡ over_all l.quantifier (reverse l.bindings) l.fn.body
