use Rattle.gb_equality.proofs.Narrowed.{RelabelledTo}
use Rattle.gb_equality.proofs.closing.relabel.Given as goal

abbrev pub invariant-loop-label : goal.invariant-loop-label
invariant-loop-label l = RelabelledTo l.from l.to l.initial.labels l.labels l.label-index
