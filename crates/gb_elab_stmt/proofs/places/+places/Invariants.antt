use Rattle.std.proofs.Common.{◌≡◌, ◌++◌, drop}
use Rattle.gb_elab_stmt.specs.Statements.{inside, with_places}
use Rattle.gb_elab_stmt.proofs.places.+places.Given as goal

abbrev pub invariant-add_inside-loop-part : goal.invariant-add_inside-loop-part
invariant-add_inside-loop-part l = l.found ++ inside (with_places (drop l.part-index l.parts)) ≡ l.initial.found ++ inside (with_places l.parts)
