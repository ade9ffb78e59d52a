use Rattle.std.proofs.Common.{◌≡◌, [], ◌∷◌, take, drop}
use Rattle.gb_names.specs.Binders.{new_names}
use Rattle.gb_names.proofs.binders.new_names.Given as goal

abbrev pub invariant-loop-i : goal.invariant-loop-i
invariant-loop-i l = new_names l.beside (l.first ∷ take l.i l.more) (drop l.i l.more) ≡ new_names l.beside [] (l.first ∷ l.more)
