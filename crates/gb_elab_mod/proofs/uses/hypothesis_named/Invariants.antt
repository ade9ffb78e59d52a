use Rattle.std.proofs.Common.{◌≡◌, drop}
use Rattle.gb_elab_mod.specs.Uses.{hypothesis_named}
use Rattle.gb_elab_mod.proofs.uses.hypothesis_named.Given as goal

abbrev pub invariant-loop-h : goal.invariant-loop-h
invariant-loop-h l = hypothesis_named (drop l.h-index l.hyps) l.name ≡ hypothesis_named l.hyps l.name
