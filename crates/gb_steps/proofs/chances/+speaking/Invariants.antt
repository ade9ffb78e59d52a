use Rattle.std.proofs.Common.{◌≡◌, drop}
use Rattle.std.specs.List.{list_any}
use Rattle.gb_steps.specs.Chances.{speaks}
use Rattle.gb_steps.proofs.chances.+speaking.Given as goal

abbrev pub invariant-any_speaks-loop-term : goal.invariant-any_speaks-loop-term
invariant-any_speaks-loop-term l = list_any (speaks l.reads) (drop l.term-index l.list) ≡ list_any (speaks l.reads) l.list
