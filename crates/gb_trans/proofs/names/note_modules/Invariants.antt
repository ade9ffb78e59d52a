use Rattle.std.proofs.Common.{◌≡◌, ◌++◌, map, take}
use Rattle.gb_trans.proofs.names.note_modules.Given as goal

abbrev pub invariant-loop-x : goal.invariant-loop-x
invariant-loop-x l = l.names ≡ l.initial.names ++ map (λ x. x.name) (take l.x-index l.list)
