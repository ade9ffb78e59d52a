use Rattle.std.proofs.Common.{take, ap, ◌∙◌, arith}
use Rattle.std.proofs.lemmas.Result.{on_ok_weaker}
use Rattle.gb_smt.proofs.Counting.{added_parts, added_next}
use Rattle.gb_smt.proofs.atoms.+note_atoms.Goals as goal

pub note_atoms-returns : goal.note_atoms-returns
note_atoms-returns t c =
    on_ok_weaker c.note_atoms_of.result
    (λ a. added_parts c.args.atoms.now c.note_own_atom.new.atoms c.note_atoms_of.new.atoms c.args.t.now (take c.number_reached.result c.as_slice.result.now) (ap (take c.number_reached.result) c.as_slice.ensures ∙ c.number_reached.ensures.reached) c.in_ok-note_own_atom.ensures a)
    c.note_atoms_of.ensures

pub note_atoms_of-loop-at-preserved : goal.note_atoms_of-loop-at-preserved
note_atoms_of-loop-at-preserved t c =
    added_next c.args.atoms.now c.loop-at.atoms c.note_atoms.new.atoms c.args.list.now c.loop-at.at c.index-list-at.result (omega (arith, c.loop-at-test.true, c.requires)) c.index-list-at.is c.loop-at.invariant c.in_ok-note_atoms.ensures
