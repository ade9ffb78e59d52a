use Rattle.std.proofs.Common.{◌≡◌, drop}
use Rattle.gb_goal.specs.Scope.{entry_of}
use Rattle.gb_elab_prog.proofs.types.is_among.Given as goal

abbrev pub invariant-loop-entry : goal.invariant-loop-entry
invariant-loop-entry l = entry_of (drop l.entry-index l.added) l.name ≡ entry_of l.added l.name
