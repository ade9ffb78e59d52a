use Rattle.std.proofs.Common.{◌≡◌, map, drop}
use Rattle.gb_labels.specs.Things.{noted, of_types}
use Rattle.gb_labels.proofs.things.note_reads.Given as goal

abbrev pub invariant-loop-variable : goal.invariant-loop-variable
invariant-loop-variable l =
    noted l.list (of_types (map (λ v. v.ty) (drop l.variable-index l.variables))) ≡ noted l.initial.list (of_types (map (λ v. v.ty) l.variables))
