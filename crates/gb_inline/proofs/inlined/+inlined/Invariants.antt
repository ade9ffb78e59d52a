use Rattle.std.proofs.Common.{◌≡◌, drop, take}
use Rattle.gb_inline.specs.Asking.{expansion}
use Rattle.gb_inline.specs.Inlined.{each_inlined}
use Rattle.gb_inline.proofs.InlinedSteps.{behind}
use Rattle.gb_inline.proofs.inlined.+inlined.Given as goal

abbrev pub invariant-each_inlined-loop-i : goal.invariant-each_inlined-loop-i
invariant-each_inlined-loop-i l = behind (take l.i l.list) (each_inlined (expansion l.asks l.used) (drop l.i l.list)) ≡ each_inlined (expansion l.asks l.used) l.list
