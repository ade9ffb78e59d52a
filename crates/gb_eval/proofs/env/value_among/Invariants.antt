use Rattle.std.proofs.Common.{◌≡◌, drop}
use Rattle.gb_eval.specs.Eval.{value_among}
use Rattle.gb_eval.proofs.env.value_among.Given as goal

abbrev pub invariant-loop-entry : goal.invariant-loop-entry
invariant-loop-entry l = value_among (drop l.entry-index l.reads) l.read ≡ value_among l.reads l.read
