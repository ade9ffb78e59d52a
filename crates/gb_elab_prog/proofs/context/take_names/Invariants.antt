use Rattle.std.proofs.Common.{◌≡◌, drop}
use Rattle.gb_elab_prog.specs.Contexts.{taken}
use Rattle.gb_elab_prog.proofs.context.take_names.Given as goal

abbrev pub invariant-loop-word : goal.invariant-loop-word
invariant-loop-word l = taken l.names (drop l.word-index l.words) ≡ taken l.initial.names l.words
