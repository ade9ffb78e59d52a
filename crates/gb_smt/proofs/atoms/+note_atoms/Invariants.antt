use Rattle.std.proofs.Common.{take}
use Rattle.std.specs.List.{flat_map}
use Rattle.gb_smt.specs.Atoms.{term_atoms, AreAdded}
use Rattle.gb_smt.proofs.atoms.+note_atoms.Given as goal

abbrev pub invariant-note_atoms_of-loop-at : goal.invariant-note_atoms_of-loop-at
invariant-note_atoms_of-loop-at l = AreAdded l.initial.atoms (flat_map term_atoms (take l.at l.list)) l.atoms
