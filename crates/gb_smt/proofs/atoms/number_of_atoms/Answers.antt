use Rattle.std.proofs.Common.{◌≡◌, [], take, sym, subst, ap, ◌∙◌, arith}
use Rattle.std.proofs.lemmas.List.{take_all}
use Rattle.std.specs.List.{flat_map}
use Rattle.gb_smt.specs.Atoms.{term_atoms, atoms_of, AreAdded, IsCount}
use Rattle.gb_smt.proofs.Counting.{counted_leaf}
use Rattle.gb_smt.proofs.atoms.number_of_atoms.Goals as goal

pub returns : goal.returns
returns c =
    let hyps = c.args.leaf.now.hyps in
    let noted = c.note_atoms_of.new.atoms in
    let all : take c.len.result c.as_slice.result.now ≡ hyps = ap (take c.len.result) c.as_slice.ensures ∙ take_all c.len.result hyps (omega (arith, c.len.ensures)) in
    let first : AreAdded [] (flat_map term_atoms (take c.len.result c.as_slice.result.now)) noted = subst (λ l. AreAdded l (flat_map term_atoms (take c.len.result c.as_slice.result.now)) noted) c.new-atoms.ensures c.in_ok-note_atoms_of.ensures in
    let added : AreAdded [] (flat_map term_atoms hyps) noted = subst (λ l. AreAdded [] (flat_map term_atoms l) noted) all first in
    subst (λ n. IsCount (atoms_of c.args.leaf.now) n) (sym c.len-2.ensures) (counted_leaf hyps noted c.note_atoms.new.atoms c.args.leaf.now.conclusion added c.in_ok-note_atoms.ensures)
