use Rattle.std.proofs.Common.{◌≡◌, drop}
use Rattle.std.specs.List.{flat_map}
use Rattle.gb_equality.specs.Variables.{term_variables, noted}
use Rattle.gb_equality.proofs.variables.+note.Given as goal

abbrev pub invariant-note_all-loop-t : goal.invariant-note_all-loop-t
invariant-note_all-loop-t l =
    noted l.list (flat_map term_variables (drop l.t-index l.terms)) ≡ noted l.initial.list (flat_map term_variables l.terms)
