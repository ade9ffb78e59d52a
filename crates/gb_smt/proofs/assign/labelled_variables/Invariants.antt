use Rattle.std.proofs.Common.{◌≡◌, map, take}
use Rattle.gb_labels.specs.Labels.{labelled_ty}
use Rattle.gb_smt.proofs.assign.labelled_variables.Given as goal

abbrev pub invariant-loop-variable : goal.invariant-loop-variable
invariant-loop-variable l = l.made ≡ map (λ v. record { read = v.read; ty = labelled_ty l.list v.ty }) (take l.variable-index l.variables)
