use Rattle.std.proofs.Common.{◌≡◌, ◌++◌, drop}
use Rattle.gb_forms.specs.Arguments.{in_places}
use Rattle.gb_forms.proofs.arguments.in_places.Given as goal

abbrev pub invariant-loop-i : goal.invariant-loop-i
invariant-loop-i l = l.changes ++ in_places (drop l.i l.terms) ≡ in_places l.terms
