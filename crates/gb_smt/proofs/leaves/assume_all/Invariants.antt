use Rattle.std.proofs.Common.{◌≡◌, ◌++◌, take}
use Rattle.std.specs.List.{flat_map}
use Rattle.gb_smt.specs.Leaves.{assumed}
use Rattle.gb_smt.proofs.leaves.assume_all.Given as goal

abbrev pub invariant-loop-form : goal.invariant-loop-form
invariant-loop-form l = l.hyps ≡ l.initial.hyps ++ flat_map assumed (take l.form-index l.known)
