use Rattle.std.proofs.Common.{◌≡◌, take, drop}
use Rattle.gb_names.specs.Types.{all_given}
use Rattle.gb_names.proofs.Spellings.{answers, behind}
use Rattle.gb_names.proofs.types.+types.Given as goal

abbrev pub invariant-first_parts-loop-i : goal.invariant-first_parts-loop-i
invariant-first_parts-loop-i l = all_given (answers l.scope l.place (take 8 l.parts)) ≡ behind l.types (all_given (answers l.scope l.place (drop l.i (take 8 l.parts))))
