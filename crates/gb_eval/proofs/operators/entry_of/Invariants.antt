use Rattle.std.proofs.Common.{◌≡◌, [], drop}
use Rattle.gb_meaning.specs.Operators.{entry_of}
use Rattle.gb_eval.proofs.operators.entry_of.Given as goal

abbrev pub invariant-loop-entry : goal.invariant-loop-entry
invariant-loop-entry l = record {
  out : l.out ≡ [];
  rest : entry_of (drop l.entry-index l.entries) l.key ≡ entry_of l.entries l.key;
}
