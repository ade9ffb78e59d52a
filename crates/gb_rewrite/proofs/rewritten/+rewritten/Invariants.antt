use Rattle.std.proofs.Common.{◌≡◌, map, take}
use Rattle.gb_rewrite.specs.Rewritten.{rewritten}
use Rattle.gb_rewrite.proofs.rewritten.+rewritten.Given as goal

abbrev pub invariant-all_rewritten-loop-t : goal.invariant-all_rewritten-loop-t
invariant-all_rewritten-loop-t l = l.made ≡ map (rewritten l.replaced l.by) (take l.t-index l.list)
