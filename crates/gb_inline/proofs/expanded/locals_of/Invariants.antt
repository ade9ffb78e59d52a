use Rattle.std.proofs.Common.{◌≡◌, ◌++◌, take}
use Rattle.gb_inline.proofs.expanded.locals_of.Given as goal

abbrev pub invariant-loop-local : goal.invariant-loop-local
invariant-loop-local l = l.all ≡ l.procedure.params ++ take l.local-index l.procedure.locals
