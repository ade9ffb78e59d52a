use Rattle.std.proofs.Common.{◌≡◌, ◌++◌, take}
use Rattle.gb_trans.proofs.names.note_names.Given as goal

abbrev pub invariant-loop-x : goal.invariant-loop-x
invariant-loop-x l = l.names ≡ l.initial.names ++ take l.x-index l.list
